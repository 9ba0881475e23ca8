use Rattle.std.proofs.Common.{◌≡◌, ◌≤◌, ◌*◌, ◌^◌, take, unsigned_abs}
use Rattle.lj_tile.specs.Energies.{list_energy}
use Rattle.lj_tile.proofs.energies.energy_of_eights.Given as goal

abbrev pub invariant-loop-eight : goal.invariant-loop-eight
invariant-loop-eight l = record {
  value : l.sum ≡ list_energy l.class l.blocks.first.now l.blocks.second.now (take (8 * l.eight) l.pairs);
  size : unsigned_abs l.sum ≤ 8 * l.eight * 2 ^ 45;
}
