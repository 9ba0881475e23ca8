use Rattle.lj_step.proofs.Undone.{undone}
use Rattle.lj_step.proofs.motion_laws.steps_are_undone.Goals as goal

pub returns : goal.returns
returns c = undone
