-- The number of a tile tells both its blocks.
use Rattle.std.specs.Prelude.{◌<◌, ◌≡◌}
use Rattle.std.proofs.Common.{arith}
use Rattle.lj_task.specs.declared.blocks.TheConstants.{MAX_BLOCKS}
use Rattle.lj_step.specs.declared.tile_id.TileId.TheInside.{Inside}
use Rattle.lj_step.specs.OpenSteps.{tile_number, first_block, second_block}

pub blocks_of-number : (a : Inside) → a.second < MAX_BLOCKS
    → (let k = tile_number a.first a.second in
    let b : Inside = record { first = first_block k; second = second_block k } in
    b ≡ a)
blocks_of-number a few =
    let first : first_block (tile_number a.first a.second) ≡ a.first = omega (arith, few) in
    let second : second_block (tile_number a.first a.second) ≡ a.second = omega (arith, few) in
    simp (first, second)
