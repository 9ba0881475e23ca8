-- Where the bins of a scale end.
use Rattle.std.proofs.Common.{ℕ, ◌*◌, ◌/◌, ◌^◌, ◌<◌, ◌≤◌, ◌≡◌, nat_lt, true, false, inl, inr, arith}
use Rattle.std.proofs.Math.Nat.{div-lt_iff_lt-mul}
use Rattle.std.proofs.lemmas.Bool.{cases_lt}
use Rattle.std.proofs.lemmas.Bool.Decides.{nat_tests}
use Rattle.std.proofs.lemmas.Nat.{le-div, mul-le}
use Rattle.lj_ring.specs.Kept.{reach_of}

-- from the first squared distance out of reach on, the bin is 800 or more
pub out_of_reach : (s square : ℕ) → 0 < square → reach_of square ≤ s → nat_lt (128 * s / square) 800 ≡ false
out_of_reach s square some far = let h : 800 ≤ 128 * s / square =
    le-div 800 (128 * s) square some (omega arith) in grind (arith, nat_tests)

-- below it the bin is below 800
within_reach : (s square : ℕ) → 0 < square → s < reach_of square → nat_lt (128 * s / square) 800 ≡ true
within_reach s square some near = let h : 128 * s / square < 800 =
    (div-lt_iff_lt-mul some).1 (omega arith) in grind (arith, nat_tests)

-- a pair interacts exactly below the first squared distance out of reach
pub reach_parts : (s square : ℕ) → 0 < square → nat_lt (128 * s / square) 800 ≡ nat_lt s (reach_of square)
reach_parts s square some =
    elim (cases_lt s (reach_of square)) [
      | inl near ↦ rw (within_reach s square some near) (grind (arith, nat_tests))
      | inr far ↦ rw (out_of_reach s square some far) (grind (arith, nat_tests))
    ]

-- for a sigma that fits, it is at most the square of half the box
pub reach_most : (sigma : ℕ) → 5 * sigma < 2 ^ 32 → reach_of (sigma * sigma) ≤ 2 ^ 62
reach_most sigma h =
    let product : (5 * sigma) * (5 * sigma) ≤ (2 ^ 32) * (2 ^ 32) =
    mul-le (5 * sigma) (5 * sigma) (2 ^ 32) (2 ^ 32) (omega arith) (omega arith) in
    omega (arith, product)
