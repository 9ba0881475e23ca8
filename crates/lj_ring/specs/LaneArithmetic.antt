-- Arithmetic of unsigned numbers of some bits, as vectors have it in each lane.
use Rattle.std.specs.Prelude.{ℕ, ◌+◌, ◌-◌, ◌*◌, ◌%◌, ◌^◌, List, slice_index}

-- a + b, modulo 2^bits
abbrev pub wrapping_add : ℕ → ℕ → ℕ → ℕ
wrapping_add bits a b = (a + b) % 2 ^ bits

-- a - b, modulo 2^bits
abbrev pub wrapping_sub : ℕ → ℕ → ℕ → ℕ
wrapping_sub bits a b = (a + (2 ^ bits - b)) % 2 ^ bits

-- a * b, modulo 2^bits
abbrev pub wrapping_mul : ℕ → ℕ → ℕ → ℕ
wrapping_mul bits a b = a * b % 2 ^ bits

-- the square of the number in lane k
abbrev pub lane_square : List ℕ → ℕ → ℕ
lane_square v k = slice_index v k * slice_index v k
