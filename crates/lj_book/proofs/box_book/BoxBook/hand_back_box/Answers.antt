use Rattle.std.proofs.Common.{◌<◌, sym, ap, subst, ◌∙◌, arith}
use Rattle.std.specs.Prelude.{vec_len}
use Rattle.lj_task.specs.Task.{Task}
use Rattle.lj_book.specs.Book.{Reopens, entry_at}
use Rattle.lj_book.specs.Boxes.{BoxBook, HandsBackBox, IsBelow, IsOut, LentTask, Numbered}
use Rattle.lj_book.proofs.BookLemmas.{entries_put}
use Rattle.lj_book.proofs.BoxLemmas.{older_put, hands_back_box, with_inner}
use Rattle.lj_book.proofs.box_book.BoxBook.hand_back_box.Goals as goal

pub invariant_of-self : goal.invariant_of-self
invariant_of-self c =
    let s = c.self.inside in
    let h = c.reopen.ensures in
    let number = ap (λ (opened : Numbered). opened.number) c.new.ensures in
    let out = ap (λ (old : BoxBook). entry_at old.inner c.lent.inside.key) c.self.view_is ∙ c.is_out.ensures.0 c.if-not-is_out.false in
    let below : c.lent.inside.number < s.inner.posted = subst (IsBelow s.inner.posted) out (c.self.invariant.older c.lent.inside.key) in
    record {
      few = omega (arith, c.self.invariant.few, entries_put s.inner c.reopen.new.self c.lent.inside.key _ _ h.was h.puts);
      places = c.self.invariant.places;
      older = older_put s.inner c.reopen.new.self c.lent.inside.key _ _ h.was h.puts c.self.invariant.older
          (omega (arith, h.counts.posted)) (omega (arith, h.counts.posted, below, number));
    }

pub returns-clause-hands_back : goal.returns-clause-hands_back
returns-clause-hands_back c =
    let s = c.self.inside in
    let book : BoxBook = record { inner = s.inner; spare = vec_len s.spare; made = s.made } in
    let lent : LentTask = record { key = c.lent.inside.key; number = c.lent.inside.number; work = c.lent.inside.boxed } in
    let work_is = c.task.ensures ∙ sym (ap (λ (l : LentTask). l.work) c.lent.view_is) in
    let out = subst (λ (old : BoxBook). IsOut old lent) (sym c.self.view_is)
    (subst (λ (work : Task). IsOut c.args.self.now (record lent { work = work })) work_is
    (c.is_out.ensures.0 c.if-not-is_out.false)) in
    let opens = subst (λ (opened : Numbered). Reopens s.inner c.reopen.new.self lent.key c.reopen.result opened) c.new.ensures c.reopen.ensures in
    subst (λ (l : LentTask). HandsBackBox c.args.self.now (with_inner c.reopen.new.self book) l) c.lent.view_is
    (subst (λ (old : BoxBook). HandsBackBox old (with_inner c.reopen.new.self book) lent) c.self.view_is
    (hands_back_box book c.reopen.new.self lent c.reopen.result out opens))
