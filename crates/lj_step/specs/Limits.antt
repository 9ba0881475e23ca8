-- Limits of atoms, blocks and step numbers.
use Rattle.std.specs.Prelude.{◌≡◌, ◌*◌, ◌^◌, refl}
use Rattle.lj_task.specs.declared.blocks.TheConstants.{BLOCK, MAX_BLOCKS}
use Rattle.lj_step.specs.declared.frames.TheConstants.{MAX_ATOMS}
use Rattle.lj_step.specs.declared.simulations.TheConstants.{MAX_STEP}

-- a simulation has at most 4,096 atoms
most_atoms : MAX_ATOMS ≡ 4096
most_atoms = refl

-- they fill at most `MAX_BLOCKS` blocks
most_blocks : MAX_ATOMS ≡ MAX_BLOCKS * BLOCK
most_blocks = refl

-- a step number is at most 10^12 in size
greatest_step : MAX_STEP ≡ 10 ^ 12
greatest_step = refl
