use Rattle.std.proofs.Common.{subst}
use Rattle.lj_session.specs.UserState.{Reached}
use Rattle.lj_session.proofs.state.UserState.len.Goals as goal

pub returns-clause-reached : goal.returns-clause-reached
returns-clause-reached c = subst Reached c.self.view_is c.self.invariant.reached
