use Rattle.std.proofs.Common.{◌≡◌, ◌<◌, Some, sym, ap, subst, ◌∙◌, arith}
use Rattle.std.specs.Prelude.{vec_len}
use Rattle.lj_book.specs.Book.{Open, LetsOut}
use Rattle.lj_book.specs.Boxes.{BoxBook, IsBelow, LentTask, Numbered, Slip, TakesBox, slip_for, slip_of}
use Rattle.lj_book.proofs.BookLemmas.{entries_put}
use Rattle.lj_book.proofs.BoxLemmas.{older_put, takes_box, with_inner}
use Rattle.lj_book.proofs.box_book.BoxBook.take_box.Goals as goal

pub invariant_of-self : goal.invariant_of-self
invariant_of-self c =
    let s = c.self.inside in
    let t = c.let_out.ensures in
    let below : c.open_at.result.now.number < s.inner.posted =
    subst (IsBelow s.inner.posted) c.open_at.ensures (c.self.invariant.older c.in_ok-key.key) in
    let number = ap (λ (slip : Slip). slip.number) c.slip-slip.ensures in
    record {
      few = omega (arith, c.self.invariant.few, entries_put s.inner c.let_out.new.self c.in_ok-key.key _ _ t.was t.puts);
      places = c.self.invariant.places;
      older = older_put s.inner c.let_out.new.self c.in_ok-key.key _ _ t.was t.puts c.self.invariant.older
          (omega (arith, t.counts.posted)) (omega (arith, t.counts.posted, below, number));
    }

pub returns-clause-some : goal.returns-clause-some
returns-clause-some c =
    let s = c.self.inside in
    let book : BoxBook = record { inner = s.inner; spare = vec_len s.spare; made = s.made } in
    let lent : LentTask = record { key = c.in_ok-key.key; number = c.number.inside.number; work = c.number.inside.task } in
    let both : Some (Open c.open_at.result.now) ≡ Some (Open c.let_out.result) = sym c.open_at.ensures ∙ c.let_out.ensures.was in
    let same : c.open_at.result.now ≡ c.let_out.result = cc in
    let slip : c.slip-slip.result ≡ slip_of lent = c.slip-slip.ensures ∙ ap slip_for (same ∙ sym c.number.view_is) in
    let takes = subst (λ (kept : Slip). LetsOut s.inner c.let_out.new.self lent.key c.let_out.result kept) slip c.let_out.ensures in
    let lets = subst (λ (opened : Numbered). LetsOut s.inner c.let_out.new.self lent.key opened (slip_of lent)) (sym c.number.view_is) takes in
    subst (λ (old : BoxBook). TakesBox old (with_inner c.let_out.new.self book) lent) c.self.view_is
    (takes_box book c.let_out.new.self lent lets)
