use Rattle.std.proofs.Common.{◌≡◌, ◌≤◌, ◌*◌, ◌^◌, take, drop, unsigned_abs}
use Rattle.lj_tile.specs.Energies.{list_energy}
use Rattle.lj_tile.proofs.energies.energy_of_eight.Given as goal

abbrev pub invariant-loop-k : goal.invariant-loop-k
invariant-loop-k l = record {
  value : l.sum ≡ list_energy l.class l.blocks.first.now l.blocks.second.now (take l.k (drop l.at l.pairs));
  size : unsigned_abs l.sum ≤ l.k * 2 ^ 45;
}
