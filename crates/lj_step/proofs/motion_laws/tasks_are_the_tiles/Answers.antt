use Rattle.lj_task.specs.declared.task_name.Kind.TheVariants.{Force, Energy}
use Rattle.lj_step.proofs.TileValues.{tile_value}
use Rattle.lj_step.proofs.motion_laws.tasks_are_the_tiles.Goals as goal

pub returns : goal.returns
returns c = record { force = tile_value Force; energy = tile_value Energy }
