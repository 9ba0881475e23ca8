use Rattle.std.proofs.Common.{ap}
use Rattle.std.proofs.lemmas.Result.{IfOk-weaker}
use Rattle.lj_world.specs.contracts.connection.Connection.{the_view}
use Rattle.lj_world.specs.ConnectionStates.{state_of}
use Rattle.lj_world.proofs.ConnectionSteps.{turn_step}
use Rattle.lj_world.proofs.connection.Connection.turn.Goals as goal

pub returns-clause-step : goal.returns-clause-step
returns-clause-step c =
    rw (← c.self.view_is)
    (IfOk-weaker c.turn.result _ _ (λ text t. turn_step (the_view c.self.inside) c.args.session c.in-Inside.owner c.turn.new.owner
    c.in-Some.name text (ap state_of c.in-Inside.is) c.in-Some.ensures.some t) c.turn.ensures)
