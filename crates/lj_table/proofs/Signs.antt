-- Which pushes drive apart, and which together, and which energies are positive.
use Rattle.std.proofs.Common.{ℕ, ◌*◌, ◌^◌, ◌<◌, ◌≤◌, ◌≡◌, ℤ, pos, neg_ℤ, unsigned_abs, Bool, true, false, List, slice_index, refl, ap, ◌∙◌, arith}
use Rattle.std.proofs.lemmas.Bool.{ltb-true, ltb-false}
use Rattle.std.specs.Prelude.{if◌then◌else◌, nat_lt}
use Rattle.lj_ring.specs.declared.scales.TheConstants.{BINS}
use Rattle.lj_ring.specs.Scale.{entry}
use Rattle.lj_table.specs.Entries.{push_entry, energy_entry, centre, cell, HasSizes}
use Rattle.lj_table.proofs.Quotients.{quotient_over, quotient_under, abs_neg}
use Rattle.lj_table.proofs.Sizes.{cube_is, cube_le}

same_over : (z : ℤ) (m : ℕ) → z ≡ pos m → z ≡ pos (unsigned_abs z)
same_over z m e = rw e refl

same_under : (z : ℤ) (m : ℕ) → z ≡ neg_ℤ (pos m) → z ≡ neg_ℤ (pos (unsigned_abs z))
same_under z m e = rw (e, abs_neg m) refl

cube_most : (n m : ℕ) → n ≤ m → n ^ 3 ≤ m * m * m
cube_most n m h = rw (cube_is n) (cube_le n m h)

cube_least : (m n : ℕ) → m ≤ n → m * m * m ≤ n ^ 3
cube_least m n h = rw (cube_is n) (cube_le m n h)

-- 2^25 lies between the cubes of 321 and 323
entry_apart : (k : ℕ) → k ≤ 160 → push_entry k ≡ pos (unsigned_abs (push_entry k))
unfolding push_entry
entry_apart k h =
    let cube = cube_most (centre k) 321 (omega arith) in
    same_over _ _ (quotient_over (24 * 2 ^ 56) (2 ^ 25) (centre k ^ 3) (centre k ^ 7) (omega (arith, cube)))

entry_together : (k : ℕ) → 160 < k → push_entry k ≡ neg_ℤ (pos (unsigned_abs (push_entry k)))
unfolding push_entry
entry_together k h =
    let cube = cube_least 323 (centre k) (omega arith) in
    same_under _ _ (quotient_under (24 * 2 ^ 56) (2 ^ 25) (centre k ^ 3) (centre k ^ 7) (omega (arith, cube)))

-- 2^24 lies between the cubes of 255 and 257
entry_positive : (k : ℕ) → k ≤ 127 → energy_entry k ≡ pos (unsigned_abs (energy_entry k))
unfolding energy_entry
entry_positive k h =
    let cube = cube_most (centre k) 255 (omega arith) in
    same_over _ _ (quotient_over (2 ^ 50) (2 ^ 24) (centre k ^ 3) (centre k ^ 6) (omega (arith, cube)))

entry_negative : (k : ℕ) → 127 < k → energy_entry k ≡ neg_ℤ (pos (unsigned_abs (energy_entry k)))
unfolding energy_entry
entry_negative k h =
    let cube = cube_least 257 (centre k) (omega arith) in
    same_under _ _ (quotient_under (2 ^ 50) (2 ^ 24) (centre k ^ 3) (centre k ^ 6) (omega (arith, cube)))

apart_if : (t : Bool) (z : ℤ) → z ≡ pos (unsigned_abs z)
    → (if t then z else pos 0) ≡ pos (unsigned_abs (if t then z else pos 0))
apart_if true z e = e
apart_if false z e = refl

together_if : (t : Bool) (z : ℤ) → z ≡ neg_ℤ (pos (unsigned_abs z))
    → (if t then z else pos 0) ≡ neg_ℤ (pos (unsigned_abs (if t then z else pos 0)))
together_if true z e = e
together_if false z e = refl

-- a cell up to the last bin apart is its size, and from the next on the opposite of its size
pub cell_apart : (k : ℕ) → k ≤ 160 → cell push_entry k ≡ pos (unsigned_abs (cell push_entry k))
cell_apart k h = apart_if (nat_lt k BINS) (push_entry (entry k)) (entry_apart (entry k) (omega arith))

pub cell_together : (k : ℕ) → 160 < k → cell push_entry k ≡ neg_ℤ (pos (unsigned_abs (cell push_entry k)))
cell_together k h = together_if (nat_lt k BINS) (push_entry (entry k)) (entry_together (entry k) (omega arith))

-- a cell up to the last bin of positive energies is its size, and from the next on the opposite of its size
pub cell_positive : (k : ℕ) → k ≤ 127 → cell energy_entry k ≡ pos (unsigned_abs (cell energy_entry k))
cell_positive k h = apart_if (nat_lt k BINS) (energy_entry (entry k)) (entry_positive (entry k) (omega arith))

pub cell_negative : (k : ℕ) → 127 < k → cell energy_entry k ≡ neg_ℤ (pos (unsigned_abs (cell energy_entry k)))
cell_negative k h = together_if (nat_lt k BINS) (energy_entry (entry k)) (entry_negative (entry k) (omega arith))

-- the cells of the sizes, from those of the bins within reach and the last one
size_if : (t : Bool) (z : ℤ) (n : ℕ) → (t ≡ true → n ≡ unsigned_abs z) → (t ≡ false → n ≡ 0)
    → n ≡ unsigned_abs (if t then z else pos 0)
size_if true z n near far = near refl
size_if false z n near far = far refl

pub sizes_whole : (entry_of : ℕ → ℤ) (cells : List ℕ) → slice_index cells 800 ≡ 0
    → ((j : ℕ) → j < 800 → slice_index cells j ≡ unsigned_abs (entry_of (entry j))) → HasSizes entry_of cells
sizes_whole entry_of cells last below k most =
    size_if (nat_lt k BINS) (entry_of (entry k)) (slice_index cells k)
    (λ near. below k (omega (arith, ltb-true k 800 near)))
    (λ far. let e : k ≡ 800 = omega (arith, ltb-false k 800 far) in ap (slice_index cells) e ∙ last)
