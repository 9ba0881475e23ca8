use Rattle.std.proofs.Common.{arith}
use Rattle.lj_book.proofs.BookLemmas.{entries_put}
use Rattle.lj_book.proofs.book.Book.take_into.Goals as goal

pub invariant_of-self : goal.invariant_of-self
invariant_of-self c =
    let kept = c.self.invariant in
    let stand = entries_put c.self.inside.inner c.let_out-opened.new.self c.in_ok-key.key _ _ c.let_out-opened.ensures.was c.let_out-opened.ensures.puts in
    record {
      boxes = omega (arith, kept.boxes, stand, c.spare_box-kept.ensures.len, c.push_reserved.ensures.len);
      one = omega (arith, kept.one, kept.boxes, c.spare_box-kept.ensures.len, c.push_reserved.ensures.len);
      places = omega (arith, kept.places, c.spare_box-kept.ensures.capacity, c.push_reserved.ensures.capacity);
    }
