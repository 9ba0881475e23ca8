use Rattle.std.proofs.Common.{◌≤◌, ◌-◌, take, length}
use Rattle.lj_tile.specs.Pairs.{HavePushes}
use Rattle.lj_tile.proofs.pair_sums.add_eights.Given as goal

abbrev pub invariant-loop-at : goal.invariant-loop-at
invariant-loop-at l = record {
  within : l.at ≤ length l.pairs;
  sums : HavePushes l.scale l.blocks.first.now l.blocks.second.now (take l.at l.pairs) l.fn.sums l.sums;
}

abbrev pub decreases-loop-at : goal.decreases-loop-at
decreases-loop-at l = length l.pairs - l.at
