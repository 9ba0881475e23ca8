use Rattle.std.proofs.Common.{ℕ, ◌<◌, ◌≡◌, ◌^◌, pos, length, slice_index_or, unsigned_abs, slice_index}
use Rattle.lj_ring.specs.Scale.{entry}
use Rattle.lj_table.specs.Entries.{push_entry, energy_entry}
use Rattle.lj_table.proofs.tables.Table.new.Given as goal

abbrev pub invariant-loop-k : goal.invariant-loop-k
invariant-loop-k l = record {
  push_cells : length l.pushes ≡ 800;
  energy_cells : length l.energies ≡ 800;
  push_size_cells : length l.push_sizes ≡ 801;
  energy_size_cells : length l.energy_sizes ≡ 801;
  pushes : (j : ℕ) → j < l.k → slice_index_or l.pushes j (pos 0) ≡ push_entry (entry j);
  energies : (j : ℕ) → j < l.k → slice_index_or l.energies j (pos 0) ≡ energy_entry (entry j);
  small_pushes : (j : ℕ) → j < l.k → unsigned_abs (slice_index_or l.pushes j (pos 0)) < 2 ^ 37;
  small_energies : (j : ℕ) → j < l.k → unsigned_abs (slice_index_or l.energies j (pos 0)) < 2 ^ 37;
  push_sizes : (j : ℕ) → j < l.k → slice_index l.push_sizes j ≡ unsigned_abs (push_entry (entry j));
  energy_sizes : (j : ℕ) → j < l.k → slice_index l.energy_sizes j ≡ unsigned_abs (energy_entry (entry j));
  last_push : slice_index l.push_sizes 800 ≡ 0;
  last_energy : slice_index l.energy_sizes 800 ≡ 0;
}
