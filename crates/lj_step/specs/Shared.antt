-- The frames that the tasks of steps share.
use Rattle.std.specs.Prelude.{◌≡◌, true, List, length}
use Rattle.lj_ring.specs.declared.coordinates.Place.{Place}
use Rattle.lj_step.specs.declared.step_frames.StepFrames.{StepFrames}

-- both frames have as many places as the frame of the simulation, and the present one is that frame if it is written
pub record AreFramesOf (frame : List Place) (shared : StepFrames) : Type 0 where
  pub present : length shared.present ≡ length frame
  pub last : length shared.last ≡ length frame
  pub written : shared.is_written ≡ true → shared.present ≡ frame
