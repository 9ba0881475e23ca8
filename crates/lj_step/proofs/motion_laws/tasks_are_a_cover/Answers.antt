use Rattle.lj_step.proofs.TaskCovers.{force_cover, energy_cover}
use Rattle.lj_step.proofs.motion_laws.tasks_are_a_cover.Goals as goal

pub returns : goal.returns
returns c = record { force = force_cover; energy = energy_cover }
