use Rattle.std.proofs.Common.{None, sym, ap, ◌∙◌}
use Rattle.lj_book.specs.Book.{IsDoneAt}
use Rattle.lj_world.specs.contracts.connection.Connection.{the_view}
use Rattle.lj_world.specs.ConnectionStates.{state_of}
use Rattle.lj_world.proofs.ConnectionSteps.{given, fetches}
use Rattle.lj_world.proofs.Picking.{puts_picked}
use Rattle.lj_world.proofs.connection.Connection.fetch.Goals as goal

pub returns-clause-step : goal.returns-clause-step
returns-clause-step c =
    let some = c.in-Some.ensures.some in
    let a = c.accept-taken_in.ensures in
    rw (← c.self.view_is, c.saturating_sub-self-inside.ensures)
    (λ rows. fetches (the_view c.self.inside) rows c.args.book.now c.fetch.new.self c.in-Inside.owner
    c.accept-taken_in.new.self c.in-Some.done some.0 c.args.pick (ap state_of c.in-Inside.is)
    (sym c.is_busy.ensures ∙ c.if-not-is_busy.false) some.1 some.2.passes
    (given c.in-Inside.owner c.accept-taken_in.new.self c.in-Some.done c.accept-taken_in.result a.accepted a.taken a.unchanged))

pub returns-clause-picked : goal.returns-clause-picked
returns-clause-picked c =
    let some = c.in-Some.ensures.some in
    rw (← c.self.view_is) (puts_picked (IsDoneAt c.self.inside.user c.args.book.now) c.args.pick c.args.book.now c.fetch.new.self some.0 None some.1.puts some.2)
