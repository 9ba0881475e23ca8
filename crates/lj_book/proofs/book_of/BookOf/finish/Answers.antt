use Rattle.std.proofs.Common.{◌+◌, ◌≤◌, sym, subst, arith}
use Rattle.lj_book.specs.Book.{BookOf, waiting_count}
use Rattle.lj_book.proofs.BookLemmas.{one_more}
use Rattle.lj_book.proofs.book_of.BookOf.finish.Given.{Over}
use Rattle.lj_book.proofs.book_of.BookOf.finish.Goals as goal
use Rattle.lj_book.proofs.book_of.BookOf.finish.Goals.{After-self}

-- there is room for one more in the count of results
room : (g : Over) (c : After-self g) → c.self.inside.given + 1 + waiting_count c.self.inside.entries.slots ≤ c.self.inside.posted
room g c =
    let r = c.replace_kept-kept in
    subst (λ (kept : BookOf _ _). kept.given + 1 + waiting_count kept.slots ≤ kept.posted) (sym c.self.view_is)
    (one_more c.args.self.now r.new.self c.args.key r.result c.args.done r.ensures.was r.ensures.puts r.ensures.counts r.ensures.waiting)

pub overflow_add-self : goal.overflow_add-self
overflow_add-self g c = omega (arith, room g c, c.self.ranges.1.1.0.1)

pub invariant_of-self : goal.invariant_of-self
invariant_of-self g c =
    let kept = c.self.invariant in
    let more = room g (goal.at.invariant_of-self g c).After-self in
    record { balance = kept.balance; given_or_waiting = more; most = kept.most; room = kept.room; keys = kept.keys; marked = kept.marked }
