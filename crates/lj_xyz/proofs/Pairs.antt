-- The digits of numbers, two at a time.
use Rattle.std.proofs.Common.{◌≡◌, ℕ, zero, suc, ◌+◌, ◌-◌, ◌*◌, ◌/◌, ◌%◌, ◌<◌, ◌≤◌, Bool, true, ◌&&◌, eqb, [], ◌∷◌, ◌++◌}
use Rattle.std.proofs.Common.{get_or, refl, inl, inr, arith, eq-zero-or-pos, append_assoc}
use Rattle.std.proofs.lemmas.Bool.{and_parts, eqb-true}
use Rattle.std.proofs.lemmas.Fmt.{decimal_digit, decimal_step}
use Rattle.std.specs.Fmt.{decimal}
use Rattle.lj_fixed.specs.Millionths.{last_digits}
use Rattle.lj_xyz.specs.declared.coordinate.TheConstants.{PAIRS}

-- the digits of each number below n stand in the table
abbrev stand : ℕ → Bool
stand zero = true
stand (suc n) = (eqb (get_or PAIRS (2 * n) 0) (48 + n / 10) && eqb (get_or PAIRS (2 * n + 1) 0) (48 + n % 10)) && stand n

below : (n number : ℕ) → stand n ≡ true → number < n
    → (get_or PAIRS (2 * number) 0 ≡ 48 + number / 10) × (get_or PAIRS (2 * number + 1) 0 ≡ 48 + number % 10)
below zero number all within = absurd (omega arith)
below (suc n) number all within =
    let parts = and_parts _ (stand n) all in
    elim (eq-zero-or-pos (n - number)) [
      | inl none ↦
          let same : number ≡ n = omega arith in
          let pair = and_parts _ _ parts.0 in
          rw same (eqb-true _ _ pair.0, eqb-true _ _ pair.1)
      | inr some ↦ below n number parts.1 (omega arith)
    ]

-- the digits of a number in the table
pub pair_at : (number : ℕ) → number < 100
    → (get_or PAIRS (2 * number) 0 ≡ 48 + number / 10) × (get_or PAIRS (2 * number + 1) 0 ≡ 48 + number % 10)
pair_at number within = below 100 number refl within

-- the two digits of a number below 100
pub two_digits : (number : ℕ) → number < 100
    → last_digits 2 number ≡ (48 + number / 10) ∷ (48 + number % 10) ∷ []
two_digits number within =
    let tens : number / 10 % 10 ≡ number / 10 = omega arith in
    rw tens refl

-- a number of two digits
pub decimal_two : (number : ℕ) → 10 ≤ number → number < 100 → decimal number ≡ last_digits 2 number
decimal_two number least within =
    rw (decimal_step number least (omega arith), decimal_digit (number / 10) (omega arith), two_digits number within) refl

-- a number of three or four digits
pub decimal_four : (number : ℕ) → 100 ≤ number → number < 10000
    → decimal number ≡ decimal (number / 100) ++ last_digits 2 (number % 100)
decimal_four number least within =
    let a : number / 10 / 10 ≡ number / 100 = omega arith in
    let b : number / 10 % 10 ≡ number % 100 / 10 = omega arith in
    let c : number % 10 ≡ number % 100 % 10 = omega arith in
    rw (
      decimal_step number (omega arith) (omega arith),
      decimal_step (number / 10) (omega arith) (omega arith),
      append_assoc,
      two_digits (number % 100) (omega arith),
      a,
      b,
      ← c,
    ) refl
