-- The places of the blocks of a frame.
use Rattle.std.proofs.Common.{ℕ, ◌+◌, ◌-◌, ◌*◌, ◌/◌, ◌<◌, ◌≤◌, ◌≡◌, List, length, min, arith}
use Rattle.std.proofs.lemmas.List.Edits.{length-between, get_or-between}
use Rattle.lj_ring.specs.declared.coordinates.Place.{Place}
use Rattle.lj_step.specs.Motion.{place_at}
use Rattle.lj_step.specs.OpenSteps.{block}
use Rattle.lj_step.proofs.BlockSums.{length_in}

-- how many places a block of a frame has
pub block_length : (frame : List Place) (b : ℕ) → length (block frame b) ≡ length_in b (length frame)
unfolding length_in
block_length frame b = length-between frame (64 * b) (min (64 * b + 64) (length frame)) (omega arith)

-- place t of block b is that of atom 64 b + t
pub block_place : (frame : List Place) (b t : ℕ) → t < length_in b (length frame)
    → place_at (block frame b) t ≡ place_at frame (64 * b + t)
unfolding length_in
block_place frame b t h =
    get_or-between frame (64 * b) (min (64 * b + 64) (length frame)) t (record { x = 0; y = 0; z = 0 }) (omega arith)

pub atom_within : (n b t : ℕ) → t < length_in b n → 64 * b + t < n
unfolding length_in
atom_within n b t h = omega arith

pub atom_block : (n b t : ℕ) → t < length_in b n → (64 * b + t) / 64 ≡ b
unfolding length_in
atom_block n b t h = omega arith

pub first_in : (n b : ℕ) → b < (n + 63) / 64 → (0 < length_in b n) × (length_in b n ≤ 64) × (64 * b + length_in b n ≤ n)
unfolding length_in
first_in n b h = (omega arith, omega arith, omega arith)

-- each atom stands in its block
pub place_in : (n i : ℕ) → i < n → (i - 64 * (i / 64) < length_in (i / 64) n)
    × (64 * (i / 64) + (i - 64 * (i / 64)) ≡ i)
unfolding length_in
place_in n i h = (omega arith, omega arith)

pub length_in_most : (b n : ℕ) → length_in b n ≤ 64
unfolding length_in
length_in_most b n = omega arith

-- a place of a block is one of 64
pub in_block : (b n t : ℕ) → t < length_in b n → t < 64
unfolding length_in
in_block b n t h = omega arith
