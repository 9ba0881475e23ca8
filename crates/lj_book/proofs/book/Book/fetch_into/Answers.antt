use Rattle.std.proofs.Common.{arith}
use Rattle.lj_book.proofs.BookLemmas.{entries_put}
use Rattle.lj_book.proofs.book.Book.fetch_into.Goals as goal

pub invariant_of-self-2 : goal.invariant_of-self-2
invariant_of-self-2 c =
    let kept = c.self.invariant in
    let stand = entries_put c.self.inside.inner c.fetch.new.self c.in-Some.ensures.some.0 _ _ c.in-Some.ensures.some.1.was c.in-Some.ensures.some.1.puts in
    record {
      boxes = omega (arith, kept.boxes, stand, c.push_reserved.ensures.len);
      one = omega (arith, kept.one, kept.boxes, c.push_reserved.ensures.len);
      places = omega (arith, kept.places, c.push_reserved.ensures.capacity);
    }
