use Rattle.std.proofs.Common.{arith}
use Rattle.lj_book.proofs.BookLemmas.{entries_put}
use Rattle.lj_book.proofs.book.Book.give_from.Goals as goal

pub invariant_of-self : goal.invariant_of-self
invariant_of-self c =
    let kept = c.self.invariant in
    let stand = entries_put c.self.inside.inner c.finish-kept.new.self c.args.key _ _ c.finish-kept.ensures.was c.finish-kept.ensures.puts in
    record {
      boxes = omega (arith, kept.boxes, stand, c.spare_box.ensures.len, c.push_reserved.ensures.len);
      one = omega (arith, kept.one, kept.boxes, c.spare_box.ensures.len, c.push_reserved.ensures.len);
      places = omega (arith, kept.places, c.spare_box.ensures.capacity, c.push_reserved.ensures.capacity);
    }
