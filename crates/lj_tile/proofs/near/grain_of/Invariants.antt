use Rattle.std.proofs.Common.{◌≤◌, ◌<◌, ◌*◌, ◌^◌}
use Rattle.lj_tile.proofs.near.grain_of.Given as goal

abbrev pub invariant-loop-grain : goal.invariant-loop-grain
invariant-loop-grain l = record {
  most : l.grain ≤ 16;
  few : l.grain < 16 → l.reach < 2 ^ 22 * (2 ^ l.grain * 2 ^ l.grain);
}

abbrev pub decreases-loop-grain : goal.decreases-loop-grain
decreases-loop-grain l = l.grain
