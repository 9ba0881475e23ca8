use Rattle.lj_world.proofs.Refusals.{sessions_left}
use Rattle.lj_world.proofs.run_laws.refusals_leave_sessions.Goals as goal

pub returns : goal.returns
returns c = sessions_left
