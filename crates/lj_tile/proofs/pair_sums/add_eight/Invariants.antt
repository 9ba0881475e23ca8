use Rattle.std.proofs.Common.{◌≡◌, take, drop, length}
use Rattle.lj_tile.specs.Pairs.{HavePushes}
use Rattle.lj_tile.proofs.pair_sums.add_eight.Given as goal

abbrev pub invariant-loop-k : goal.invariant-loop-k
invariant-loop-k l = record {
  first_room : length l.sums.first ≡ 64;
  second_room : length l.sums.second ≡ 64;
  sums : HavePushes l.scale l.blocks.first.now l.blocks.second.now (take l.k (drop l.at l.pairs)) l.fn.sums l.sums;
}
