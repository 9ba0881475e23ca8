use Rattle.std.proofs.Common.{sym, ap, subst, ◌∙◌, arith}
use Rattle.std.specs.Prelude.{vec_len}
use Rattle.lj_task.specs.Task.{Task}
use Rattle.lj_book.specs.Boxes.{BoxBook, GivesBox, IsOut, LentTask}
use Rattle.lj_book.proofs.BookLemmas.{entries_put}
use Rattle.lj_book.proofs.BoxLemmas.{older_put, gives_box, with_inner}
use Rattle.lj_book.proofs.box_book.BoxBook.give_box.Goals as goal

pub invariant_of-self : goal.invariant_of-self
invariant_of-self c =
    let s = c.self.inside in
    let g = c.finish.ensures in
    record {
      few = omega (arith, c.self.invariant.few, entries_put s.inner c.finish.new.self c.lent.inside.key _ _ g.was g.puts);
      places = c.self.invariant.places;
      older = older_put s.inner c.finish.new.self c.lent.inside.key _ _ g.was g.puts c.self.invariant.older
          (omega (arith, g.posted)) tt;
    }

pub returns-clause-gives : goal.returns-clause-gives
returns-clause-gives c =
    let s = c.self.inside in
    let book : BoxBook = record { inner = s.inner; spare = vec_len s.spare; made = s.made } in
    let lent : LentTask = record { key = c.lent.inside.key; number = c.lent.inside.number; work = c.lent.inside.boxed } in
    let work_is = c.task.ensures ∙ c.done.ensures ∙ sym (ap (λ (l : LentTask). l.work) c.lent.view_is) in
    let out = subst (λ (old : BoxBook). IsOut old lent) (sym c.self.view_is)
    (subst (λ (work : Task). IsOut c.args.self.now (record lent { work = work })) work_is
    (c.is_out.ensures.0 c.if-not-is_out.false)) in
    subst (λ (l : LentTask). GivesBox c.args.self.now (with_inner c.finish.new.self book) l) c.lent.view_is
    (subst (λ (old : BoxBook). GivesBox old (with_inner c.finish.new.self book) lent) c.self.view_is
    (gives_box book c.finish.new.self lent c.finish.result out c.finish.ensures))
