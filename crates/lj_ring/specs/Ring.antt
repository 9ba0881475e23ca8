-- Coordinates on one axis of the periodic box, a ring of 2^32 units, and sums on it.
use Rattle.std.specs.Prelude.{ℕ, zero, suc, ◌+◌, ◌-◌, ◌*◌, ◌%◌, ◌^◌, ℤ, pos, ◌+ℤ◌, ◌-ℤ◌, ◌*ℤ◌, neg_ℤ, ◌≤ℤ◌, ◌<ℤ◌}
use Rattle.std.specs.Prelude.{unsigned_abs, ◌<◌, ◌≡◌, List, slice_index_or}
use Rattle.std.specs.Int.{cast_signed, int_rem_euclid, w32}
use Rattle.lj_ring.specs.declared.coordinates.Place.{Place}

-- a place whose three coordinates lie on the ring
pub record IsOnRing (p : Place) : Type 0 where
  pub x : p.x < 2 ^ 32
  pub y : p.y < 2 ^ 32
  pub z : p.z < 2 ^ 32

-- the place of atom i in a list of places
abbrev pub place_at : List Place → ℕ → Place
place_at places i = slice_index_or places i (record { x = 0; y = 0; z = 0 })

-- the difference a - b on the ring
abbrev pub ring_difference : ℕ → ℕ → ℕ
ring_difference a b = (a + (2 ^ 32 - b)) % 2 ^ 32

-- a whole number of units modulo 2^32: the coordinate after going round the ring
abbrev pub ring_residue : ℤ → ℕ
ring_residue z = unsigned_abs (int_rem_euclid z (pos (2 ^ 32)))

-- the least image of the difference a - b, in -2^31 ..= 2^31 - 1
abbrev pub image : ℕ → ℕ → ℤ
image a b = cast_signed w32 ((a + (2 ^ 32 - b)) % 2 ^ 32)

-- z is the least image of a - b: it lies in -2^31 ..= 2^31 - 1 and differs from a - b by whole turns of the ring
pub record IsLeastImage (a b : ℕ) (z : ℤ) : Type 0 where
  pub from : neg_ℤ (pos (2 ^ 31)) ≤ℤ z
  pub below : z <ℤ pos (2 ^ 31)
  pub turns : (k : ℤ) × (z ≡ pos a -ℤ pos b +ℤ k *ℤ pos (2 ^ 32))

-- the square of a whole number
abbrev pub square : ℤ → ℕ
square z = unsigned_abs z * unsigned_abs z

-- the squared distance of two places: the sum of the squares of the three least images
abbrev pub squared_distance : Place → Place → ℕ
squared_distance p q = square (image p.x q.x) + square (image p.y q.y) + square (image p.z q.z)

-- the sum of f 0, f 1, .. f (n - 1)
abbrev pub sum_below : ℕ → (ℕ → ℕ) → ℕ
sum_below zero f = 0
sum_below (suc n) f = sum_below n f + f n

-- the same sum in the ring
abbrev pub ring_sum : ℕ → (ℕ → ℕ) → ℕ
ring_sum n f = sum_below n f % 2 ^ 32

-- the same sum of signed numbers
abbrev pub int_sum_below : ℕ → (ℕ → ℤ) → ℤ
int_sum_below zero f = pos 0
int_sum_below (suc n) f = int_sum_below n f +ℤ f n
