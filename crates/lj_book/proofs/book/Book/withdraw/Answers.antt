use Rattle.std.proofs.Common.{arith}
use Rattle.lj_book.proofs.BookLemmas.{all_boxed}
use Rattle.lj_book.proofs.book.Book.withdraw.Goals as goal

pub invariant_of-self : goal.invariant_of-self
invariant_of-self c =
    let kept = c.self.invariant in
    record {
      boxes = omega (arith, kept.boxes, c.withdraw.ensures.boxes, all_boxed c.self.inside.inner.slots, all_boxed c.withdraw.new.self.slots);
      one = omega (arith, kept.one, c.withdraw.ensures.grows);
      places = omega (arith, kept.places, c.withdraw.ensures.places);
    }
