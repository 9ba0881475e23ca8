-- Limits of blocks.
use Rattle.std.specs.Prelude.{◌≡◌, refl}
use Rattle.lj_task.specs.declared.blocks.TheConstants.{BLOCK, MAX_BLOCKS}

-- a block has at most 64 atoms
most_of_block : BLOCK ≡ 64
most_of_block = refl

-- a simulation has at most 64 blocks
most_blocks : MAX_BLOCKS ≡ 64
most_blocks = refl
