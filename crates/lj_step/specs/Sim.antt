-- The value of a simulation in the code: its composition, the simulation itself, and the open step.
use Rattle.std.specs.Prelude.{Bool, List, Option}
use Rattle.lj_task.specs.Species.{Composition}
use Rattle.lj_task.specs.declared.task_name.Kind.{Kind}
use Rattle.lj_step.specs.Motion.{Simulation}

-- an open step: its kind, and for each tile number whether the tile is still awaited
pub record OpenStep : Type 0 where
  pub kind : Kind
  pub awaited : List Bool

-- a simulation with its composition, and the open step if there is one
pub record Sim : Type 0 where
  pub composition : Composition
  pub sim : Simulation
  pub part : Option OpenStep
