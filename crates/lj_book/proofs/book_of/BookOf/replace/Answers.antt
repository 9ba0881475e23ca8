use Rattle.std.proofs.Common.{ap, ◌∙◌}
use Rattle.lj_book.specs.Book.{BookOf, entry_at, is_waiting}
use Rattle.lj_book.proofs.BookLemmas.{put_book}
use Rattle.lj_book.proofs.book_of.BookOf.replace.Goals as goal

pub invariant_of-self : goal.invariant_of-self
invariant_of-self g c =
    let s = c.self.inside in
    let waits = ap (λ (inner : BookOf _ _). is_waiting (entry_at inner c.args.key)) c.self.view_is ∙ c.requires in
    rw (c.set.ensures, c.key_state-key_state.ensures)
    (put_book s.entries s.key_states s.posted s.given s.fetched s.withdrawn c.self.invariant c.put_for-was.new.entries c.args.key
    c.args.entry waits c.put_for-was.ensures.updates c.put_for-was.ensures.len c.put_for-was.ensures.capacity)
