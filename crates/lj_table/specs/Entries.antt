-- The entries of the Lennard-Jones tables, at the centres of the bins of squared distance.
use Rattle.std.specs.Prelude.{ℕ, ◌+◌, ◌*◌, ◌^◌, ◌<◌, ◌≡◌, ℤ, pos, ◌-ℤ◌, ◌*ℤ◌, int_div, unsigned_abs, List}
use Rattle.std.specs.Prelude.{slice_index, slice_index_or, nat_lt, if◌then◌else◌, ◌≤◌}
use Rattle.lj_ring.specs.declared.scales.TheConstants.{BINS}
use Rattle.lj_ring.specs.Scale.{Scale, bin, is_in_cutoff, entry}

-- the centre of bin k, in 256ths of sigma²: n = 2k + 1, so that (σ/r)² there is 2^8 / n
abbrev pub centre : ℕ → ℕ
centre k = 2 * k + 1

-- the push of bin k in units of 2^-24: 24 (2 u^7 - u^4) where u is (σ/r)² at its centre, rounded toward zero
unfoldable pub push_entry : ℕ → ℤ
push_entry k = int_div (pos (24 * 2 ^ 56) *ℤ (pos (2 ^ 25) -ℤ pos (centre k ^ 3))) (pos (centre k ^ 7))

-- the energy of bin k in units of 2^-24 ε: 4 (u^6 - u^3) where u is (σ/r)² at its centre, rounded toward zero
unfoldable pub energy_entry : ℕ → ℤ
energy_entry k = int_div (pos (2 ^ 50) *ℤ (pos (2 ^ 24) -ℤ pos (centre k ^ 3))) (pos (centre k ^ 6))

-- the value of a table for a pair at a squared distance: the entry of its bin, and 0 out of reach
abbrev pub table_value : (ℕ → ℤ) → Scale → ℕ → ℤ
table_value entry_of u s = if is_in_cutoff u s then entry_of (entry (bin u s)) else pos 0

-- the entry of a bin, and 0 for the bin of all pairs out of reach
abbrev pub cell : (ℕ → ℤ) → ℕ → ℤ
cell entry_of k = if nat_lt k BINS then entry_of (entry k) else pos 0

-- the push of a pair at a squared distance
abbrev pub push_at : Scale → ℕ → ℤ
push_at u s = table_value push_entry u s

-- the energy of a pair at a squared distance, before it is weighted
abbrev pub energy_at : Scale → ℕ → ℤ
energy_at u s = table_value energy_entry u s

-- an energy times a weight in 256ths, rounded toward zero
abbrev pub weighted_energy : ℕ → ℤ → ℤ
weighted_energy weight energy = int_div (energy *ℤ pos weight) (pos 256)

-- the cells of a table are the entries of their bins, and below bin 64 the entry of bin 64
abbrev pub HasEntries : (ℕ → ℤ) → List ℤ → Type 0
HasEntries entry_of cells = (k : ℕ) → k < BINS → slice_index_or cells k (pos 0) ≡ entry_of (entry k)

-- each cell of a table is below 2^37 in size
abbrev pub AreSmall : List ℤ → Type 0
AreSmall cells = (k : ℕ) → k < BINS → unsigned_abs (slice_index_or cells k (pos 0)) < 2 ^ 37

-- the cells of a table are the sizes of the entries of the bins, and 0 for the bin out of reach
abbrev pub HasSizes : (ℕ → ℤ) → List ℕ → Type 0
HasSizes entry_of cells = (k : ℕ) → k ≤ BINS → slice_index cells k ≡ unsigned_abs (cell entry_of k)
