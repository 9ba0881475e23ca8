-- Coordinates in grains of a few ring units.
use Rattle.std.specs.Prelude.{ℕ, ◌+◌, ◌-◌, ◌*◌, ◌/◌, ◌%◌, ◌^◌, min}

-- a coordinate in whole grains of 2^grain ring units, round a ring of 2^16 grains
abbrev pub grains : ℕ → ℕ → ℕ
grains grain coordinate = coordinate / 2 ^ grain % 2 ^ 16

-- 2^16 square grains, in square ring units
abbrev pub square_unit : ℕ → ℕ
square_unit grain = 2 ^ 16 * (2 ^ grain * 2 ^ grain)

-- the difference b - a of two coordinates in grains, round the ring of 2^16
abbrev pub grains_between : ℕ → ℕ → ℕ
grains_between b a = (b + (2 ^ 16 - a)) % 2 ^ 16

-- the distance of two coordinates in grains, the shorter way round that ring
abbrev pub grains_apart : ℕ → ℕ → ℕ
grains_apart b a = min (grains_between b a) (2 ^ 16 - grains_between b a)
