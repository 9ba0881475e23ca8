use Rattle.std.proofs.Common.{◌≡◌, ◌≤◌, ◌*◌, ◌^◌, take, unsigned_abs}
use Rattle.lj_tile.specs.Energies.{list_energy}
use Rattle.lj_tile.proofs.energies.energy_of_all.Given as goal

abbrev pub invariant-loop-i : goal.invariant-loop-i
invariant-loop-i l = record {
  value : l.sum ≡ list_energy l.class l.blocks.first.now l.blocks.second.now (take l.i l.pairs);
  size : unsigned_abs l.sum ≤ l.i * 2 ^ 45;
}
