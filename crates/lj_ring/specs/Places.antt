-- Positions in nano, the billionths of a file unit, and their coordinates on the ring.
use Rattle.std.specs.Prelude.{ℕ, ◌*◌, ◌/◌, ◌^◌, ℤ, pos, negsuc, ◌*ℤ◌}
use Rattle.lj_ring.specs.Ring.{ring_residue}

-- the quotient rounded down
abbrev pub floor_div : ℤ → ℕ → ℤ
floor_div (pos n) d = pos (n / d)
floor_div (negsuc n) d = negsuc (n / d)

-- a length in ring units, rounded down: the edge of the box is 2^32 of them
abbrev pub units_of : ℕ → ℤ → ℤ
units_of edge length = floor_div (length *ℤ pos (2 ^ 32)) edge

-- the coordinate on the ring of a position
abbrev pub place_of : ℕ → ℤ → ℕ
place_of edge position = ring_residue (units_of edge position)

-- the position of a coordinate in millionths of a file unit, rounded down
abbrev pub micro_of : ℕ → ℕ → ℕ
micro_of edge place = place * edge / (2 ^ 32 * 1000)
