-- What a worker holds in the code.
use Rattle.std.specs.Prelude.{Bool, true, false}
use Rattle.lj_task.specs.Task.{Task}
use Rattle.lj_world.specs.declared.holding.Holding.{Holding}
use Rattle.lj_world.specs.declared.holding.Holding.TheVariants.{Task as Taken, Done}

-- the task of what is held
abbrev pub task_in_hand : Holding → Task
task_in_hand (Taken work) = work
task_in_hand (Done work) = work

-- the task is computed
abbrev pub is_computed : Holding → Bool
is_computed (Taken work) = false
is_computed (Done work) = true
