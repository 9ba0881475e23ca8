-- A world: the state of the machine, and whether it has run out of memory.
use Rattle.std.specs.Prelude.{Bool}
use Rattle.lj_world.specs.Machine.{Machine}

-- The state, and whether a step ran out of memory: then the world is lost, and its state is unspecified from then on.
pub record World : Type 0 where
  pub state : Machine
  pub lost : Bool
