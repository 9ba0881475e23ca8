-- Limits of the steps of a command, and limits of two crates that are equal.
use Rattle.std.specs.Prelude.{◌≡◌, ◌^◌, refl}
use Rattle.lj_step.specs.declared.frames.TheConstants as frames
use Rattle.lj_xyz.specs.declared.frame_reader.TheConstants as xyz
use Rattle.lj_session.specs.declared.live_session.TheConstants.{MAX_STEPS}

-- a command asks for at most a million steps
most_steps : MAX_STEPS ≡ 10 ^ 6
most_steps = refl

-- the limits of atoms of a simulation and of a frame of XYZ text are equal
most_atoms : frames.MAX_ATOMS ≡ xyz.MAX_FRAME_ATOMS
most_atoms = refl
