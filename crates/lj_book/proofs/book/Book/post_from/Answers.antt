use Rattle.std.proofs.Common.{arith}
use Rattle.lj_book.proofs.BookLemmas.{entries_put}
use Rattle.lj_book.proofs.book.Book.post_from.Goals as goal

pub invariant_of-self : goal.invariant_of-self
invariant_of-self c =
    let kept = c.self.invariant in
    let room = c.has_room.ensures.0 c.if-not-has_room.false in
    let stand = entries_put c.self.inside.inner c.post.new.self c.post.ensures.0 _ _ c.post.ensures.1.was c.post.ensures.1.puts in
    record {
      boxes = omega (arith, kept.boxes, stand, c.spare_box-opened.ensures.len);
      one = omega (arith, kept.one, kept.boxes, c.spare_box-opened.ensures.len, room.0);
      places = omega (arith, kept.places, c.spare_box-opened.ensures.capacity);
    }
