-- The cells of a table, one by one.
use Rattle.std.proofs.Common.{ℕ, ◌+◌, ◌*◌, ◌^◌, ◌<◌, ◌≡◌, ◌≢◌, ℤ, pos, ◌-ℤ◌, ◌*ℤ◌, int_div, List, length}
use Rattle.std.proofs.Common.{slice_index_or, slice_set, refl, below_more, arith, get_or-set_same, get_or-set_other}
use Rattle.std.proofs.Common.{FitsSigned, w64, to_z, of_z, unsigned_abs}
use Rattle.std.proofs.lemmas.Int.{to_z-of_z}
use Rattle.lj_table.specs.Entries.{push_entry, energy_entry}
use Rattle.lj_table.proofs.Sizes.{cube_is, sixth_is, seventh_is}

-- what holds of each of the first k cells, and of the value written to the k-th, holds of one more
pub cells_more : {A : Type 0} (none : A) (P : ℕ → A → Type 0) (cells : List A) (k : ℕ) (z : A) → k < length cells
    → ((j : ℕ) → j < k → P j (slice_index_or cells j none)) → P k z
    → (j : ℕ) → j < k + 1 → P j (slice_index_or (slice_set cells k z) j none)
cells_more none P cells k z within before here =
    below_more _ _
    (λ j h. let ne : j ≢ k = omega arith in rw get_or-set_other (before j h))
    (rw get_or-set_same here)

-- the size of a cell that was just written
pub size_read : (cells : List ℤ) (i j k : ℕ) (z : ℤ) → i ≡ k → j ≡ k → k < length cells → FitsSigned w64 z
    → unsigned_abs (to_z w64 (of_z w64 (slice_index_or (slice_set cells i (to_z w64 (of_z w64 z))) j (pos 0)))) ≡ unsigned_abs z
size_read cells i j k z p q within fits = rw (p, q, to_z-of_z w64 z fits, get_or-set_same, to_z-of_z w64 z fits) refl

-- the entries by products of the centre
pub push_entry_is : (k n : ℕ) → n ≡ 2 * k + 1
    → int_div (pos (24 * 2 ^ 56) *ℤ (pos (2 ^ 25) -ℤ pos (n * n * n)))
    (pos (n * n * n * (n * n * n) * n)) ≡ push_entry k
unfolding push_entry
push_entry_is k n e = rw (e, ← seventh_is (2 * k + 1), ← cube_is (2 * k + 1)) refl

pub energy_entry_is : (k n : ℕ) → n ≡ 2 * k + 1
    → int_div (pos (2 ^ 50) *ℤ (pos (2 ^ 24) -ℤ pos (n * n * n))) (pos (n * n * n * (n * n * n))) ≡ energy_entry k
unfolding energy_entry
energy_entry_is k n e = rw (e, ← sixth_is (2 * k + 1), ← cube_is (2 * k + 1)) refl
