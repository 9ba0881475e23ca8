use Rattle.std.proofs.Common.{ap, sym, refl, subst, arith}
use Rattle.lj_book.specs.Book.{BookOf, HasRoom, weight}
use Rattle.lj_book.proofs.BookLemmas.{changed_book}
use Rattle.lj_book.proofs.CountLemmas.{sum_changed}
use Rattle.lj_book.proofs.book_of.BookOf.post.Goals as goal

pub invariant_of-self : goal.invariant_of-self
invariant_of-self g c =
    let s = c.self.inside in
    let kept = c.self.invariant in
    let room = subst (λ (h : BookOf _ _). HasRoom h) (sym c.self.view_is) c.requires in
    let waits = sum_changed weight refl s.entries.slots c.insert_reserved-key.new.self.slots c.insert_reserved-key.result
    c.insert_reserved-key.ensures.updates.others in
    rw c.set.ensures
    (changed_book s.entries s.key_states kept.marked c.insert_reserved-key.new.self c.insert_reserved-key.result _ _
    (omega (arith, kept.keys, c.insert_reserved-key.ensures.key_in_range, c.insert_reserved-key.ensures.capacity))
    c.insert_reserved-key.ensures.updates refl kept.keys kept.room c.insert_reserved-key.ensures.capacity _ _ _ _
    (omega (arith, kept.balance, c.insert_reserved-key.ensures.len))
    (omega (arith, kept.given_or_waiting, waits, ap weight c.insert_reserved-key.ensures.was_vacant, ap weight c.insert_reserved-key.ensures.updates.changed))
    (omega (arith, kept.most, c.insert_reserved-key.ensures.len, room.0)))
