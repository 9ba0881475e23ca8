use Rattle.std.proofs.Common.{◌≡◌, take, length}
use Rattle.lj_tile.specs.Pairs.{HavePushes}
use Rattle.lj_tile.proofs.pair_sums.add_all.Given as goal

abbrev pub invariant-loop-i : goal.invariant-loop-i
invariant-loop-i l = record {
  first_room : length l.sums.first ≡ 64;
  second_room : length l.sums.second ≡ 64;
  sums : HavePushes l.scale l.blocks.first.now l.blocks.second.now (take l.i l.pairs) l.fn.sums l.sums;
}
