use Rattle.std.proofs.Common.{◌-◌, ◌≤◌, ◌+◌, ◌<◌, ◌^◌}
use Rattle.lj_tile.proofs.ListLemmas.{IsWritten}
use Rattle.lj_tile.proofs.near_pairs.NearPairs.append.Given as goal

abbrev pub invariant-loop-at : goal.invariant-loop-at
invariant-loop-at l = record {
  least : l.from + 2 ≤ l.at;
  most : l.at ≤ l.end + 2;
  small : l.rest < 2 ^ 64;
  written : IsWritten l.set l.t l.fn.self l.end l.at l.self-inside.pairs l.rest;
}

abbrev pub decreases-loop-at : goal.decreases-loop-at
decreases-loop-at l = l.end - l.at
