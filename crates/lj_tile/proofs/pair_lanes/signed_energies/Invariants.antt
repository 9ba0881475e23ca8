use Rattle.std.proofs.Common.{ℕ, ◌≡◌, ◌<◌, pos, length, nat_lt, slice_index, slice_index_or}
use Rattle.lj_tile.specs.Energies.{signed_number}
use Rattle.lj_tile.proofs.pair_lanes.signed_energies.Given as goal

abbrev pub invariant-loop-k : goal.invariant-loop-k
invariant-loop-k l = record {
  room : length l.energies ≡ 8;
  done : (j : ℕ) → j < l.k
      → slice_index_or l.energies j (pos 0) ≡ signed_number (nat_lt 127 (slice_index l.bins j)) (slice_index l.sizes j);
}
