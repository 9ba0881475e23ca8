-- Bins by a guess, and what a scale keeps for it.
use Rattle.std.proofs.Common.{ℕ, suc, ◌+◌, ◌-◌, ◌*◌, ◌/◌, ◌%◌, ◌^◌, ◌<◌, ◌≤◌, ◌≡◌, min, nat_lt, cond, ◌⊎◌, inl, inr, refl, ap, subst, ◌∙◌, arith}
use Rattle.std.proofs.Math.Nat.{div-mul-le_self, mod-lt}
use Rattle.std.proofs.lemmas.Bool.{cases_lt}
use Rattle.std.proofs.lemmas.Bool.Decides.{nat_tests}
use Rattle.std.proofs.lemmas.Nat.{pow_pos, pow-add, pow_below, mul-le, le-div, div_below, div-mul-add, leading_top}
use Rattle.lj_ring.specs.Kept.{cut_of, shift_of, reciprocal_of, cut_square, cut_sum}

-- a number is below its quotient's next multiple
below_next : (n d : ℕ) → 0 < d → n < (n / d + 1) * d
below_next n d some =
    let e : n / d * d + n % d ≡ n = omega arith in
    let l : n % d < d = mod-lt n some in
    omega (arith, e, l)

-- the guess of a quotient, from a shifted number and the reciprocal of what it is divided by
abbrev pub guess_of : ℕ → ℕ → ℕ → ℕ
guess_of s shift reciprocal = s / 2 ^ shift * reciprocal / 2 ^ 51

-- it is no more than the quotient
pub guess_most : (s square shift reciprocal : ℕ) → 0 < square → reciprocal ≡ 2 ^ (58 + shift) / square
    → guess_of s shift reciprocal * square ≤ 128 * s
guess_most s square shift reciprocal some is =
    let p : ℕ = 2 ^ shift in
    let a : ℕ = s / p in
    let g : ℕ = a * reciprocal / 2 ^ 51 in
    let power : 2 ^ (58 + shift) ≡ 2 ^ 58 * p = pow-add 2 58 shift in
    let shifted : a * p ≤ s = div-mul-le_self s p in
    let part : reciprocal * square ≤ 2 ^ 58 * p = rw (is, ← power) (div-mul-le_self (2 ^ (58 + shift)) square) in
    let guess : g * 2 ^ 51 ≤ a * reciprocal = div-mul-le_self (a * reciprocal) (2 ^ 51) in
    let first : g * 2 ^ 51 * square ≤ a * reciprocal * square =
    mul-le (g * 2 ^ 51) square (a * reciprocal) square guess (omega arith) in
    let second : a * (reciprocal * square) ≤ a * (2 ^ 58 * p) = mul-le a (reciprocal * square) a (2 ^ 58 * p) (omega arith) part in
    omega (arith, first, second, shifted)

-- and no less than the quotient but for one
pub guess_least : (s square shift reciprocal : ℕ) → 0 < square → reciprocal ≡ 2 ^ (58 + shift) / square
    → reciprocal < 2 ^ 32 → s < 2 ^ (32 + shift) → 128 * s < (guess_of s shift reciprocal + 2) * square
guess_least s square shift reciprocal some is fits small =
    let p : ℕ = 2 ^ shift in
    let a : ℕ = s / p in
    let g : ℕ = a * reciprocal / 2 ^ 51 in
    let power : 2 ^ (58 + shift) ≡ 2 ^ 58 * p = pow-add 2 58 shift in
    let few : a < 2 ^ 32 = div_below s p (2 ^ 32) (pow_pos shift) (rw (← pow-add 2 32 shift) small) in
    let shifted : s < (a + 1) * p = below_next s p (pow_pos shift) in
    let part : 2 ^ 58 * p < (reciprocal + 1) * square = rw (is, ← power) (below_next (2 ^ (58 + shift)) square some) in
    let guess : a * reciprocal < (g + 1) * 2 ^ 51 = below_next (a * reciprocal) (2 ^ 51) (omega arith) in
    let first : (a + 1) * (2 ^ 58 * p) ≤ (a + 1) * ((reciprocal + 1) * square) =
    mul-le (a + 1) (2 ^ 58 * p) (a + 1) ((reciprocal + 1) * square) (omega arith) (omega (arith, part)) in
    let factors : (a + 1) * (reciprocal + 1) ≤ (g + 2) * 2 ^ 51 = omega (arith, guess, few, fits) in
    let second : (a + 1) * (reciprocal + 1) * square ≤ (g + 2) * 2 ^ 51 * square =
    mul-le ((a + 1) * (reciprocal + 1)) square ((g + 2) * 2 ^ 51) square factors (omega arith) in
    omega (arith, first, second, shifted)

-- the factor of a guess has few bits, and their product
guess_parts : (s shift reciprocal : ℕ) → reciprocal < 2 ^ 32 → s < 2 ^ (32 + shift)
    → (s / 2 ^ shift < 2 ^ 32) × (s / 2 ^ shift * reciprocal ≤ (2 ^ 32 - 1) * (2 ^ 32 - 1))
guess_parts s shift reciprocal fits small =
    let few : s / 2 ^ shift < 2 ^ 32 = div_below s (2 ^ shift) (2 ^ 32) (pow_pos shift) (rw (← pow-add 2 32 shift) small) in
    (few, mul-le (s / 2 ^ shift) reciprocal (2 ^ 32 - 1) (2 ^ 32 - 1) (omega (arith, few)) (omega (arith, fits)))

-- a guess has few bits
pub guess_small : (s shift reciprocal : ℕ) → reciprocal < 2 ^ 32 → s < 2 ^ (32 + shift)
    → guess_of s shift reciprocal < 2 ^ 13
guess_small s shift reciprocal fits small = let parts = guess_parts s shift reciprocal fits small in omega (arith, parts.1)

-- the guess by lanes: no product wraps
pub guess_lane : (s shift reciprocal : ℕ) → reciprocal < 2 ^ 32 → s < 2 ^ (32 + shift)
    → (s / 2 ^ shift % 2 ^ 32) * (reciprocal % 2 ^ 32) % 2 ^ 64 / 2 ^ 51 ≡ guess_of s shift reciprocal
guess_lane s shift reciprocal fits small =
    let parts = guess_parts s shift reciprocal fits small in
    let a_whole : s / 2 ^ shift % 2 ^ 32 ≡ s / 2 ^ shift = omega (arith, parts.0) in
    let r_whole : reciprocal % 2 ^ 32 ≡ reciprocal = omega (arith, fits) in
    rw (a_whole, r_whole) (omega (arith, parts.1))

by_parts : (v high low : ℕ)
    → (v * low % 2 ^ 64 + v * high % 2 ^ 64 * 2 ^ 32 % 2 ^ 64) % 2 ^ 64 ≡ v * (high * 2 ^ 32 + low) % 2 ^ 64
by_parts v high low = omega arith

-- a product modulo 2^64 by the halves of a factor
pub product_by_halves : (v n : ℕ)
    → (v * (n % 2 ^ 32) % 2 ^ 64 + v * (n / 2 ^ 32) % 2 ^ 64 * 2 ^ 32 % 2 ^ 64) % 2 ^ 64 ≡ v * n % 2 ^ 64
product_by_halves v n =
    let e : n / 2 ^ 32 * 2 ^ 32 + n % 2 ^ 32 ≡ n = omega arith in
    by_parts v (n / 2 ^ 32) (n % 2 ^ 32) ∙ ap (λ m. v * m % 2 ^ 64) e

-- what is left of a number after some multiples, modulo 2^64
abbrev pub rest_of : ℕ → ℕ → ℕ
rest_of number multiple = (number % 2 ^ 64 + (2 ^ 64 - multiple % 2 ^ 64)) % 2 ^ 64

rest_is : (n m : ℕ) → m ≤ n → n < m + 2 ^ 61 → rest_of n m ≡ n - m
rest_is n m least few = omega (arith, least, few)

-- a guess that is right or one less, with 1 where the rest is a square or more
pub corrected : (n guess square : ℕ) → 0 < square → square < 2 ^ 60 → guess < 2 ^ 13 → guess * square ≤ n
    → n < (guess + 2) * square
    → (guess + (square - 1 + (2 ^ 64 - rest_of n (guess * square))) % 2 ^ 64 / 2 ^ 63) % 2 ^ 64 ≡ n / square
corrected n guess square some few small least most =
    let m : ℕ = guess * square in
    let rest : rest_of n m ≡ n - m = rest_is n m least (omega (arith, few, most)) in
    elim (cases_lt (n - m) square) [
      | inl under ↦
          let whole : n ≡ guess * square + (n - m) = omega (arith, least) in
          let right : n / square ≡ guess = ap (λ x. x / square) whole ∙ div-mul-add guess square (n - m) under in
          rw (rest, right) (omega (arith, under, few, small))
      | inr over ↦
          let left : ℕ = n - (guess + 1) * square in
          let whole : n ≡ (guess + 1) * square + left = omega (arith, least, over) in
          let right : n / square ≡ guess + 1 =
          ap (λ x. x / square) whole ∙ div-mul-add (guess + 1) square left (omega (arith, most, whole)) in
          rw (rest, right) (omega (arith, over, few, small, most))
    ]

-- it has few bits too
pub corrected_small : (guess beyond : ℕ) → guess < 2 ^ 13 → (guess + beyond % 2 ^ 64 / 2 ^ 63) % 2 ^ 64 ≤ 2 ^ 13
corrected_small guess beyond small = omega arith

-- three squares of the cutoff have so many bits
cut_bits : (sigma : ℕ) → 65536 ≤ sigma → 5 * sigma < 2 ^ 32
    → (j : ℕ) × (shift_of sigma + 31 ≡ j) × (2 ^ j ≤ 3 * (cut_of sigma * cut_of sigma))
    × (3 * (cut_of sigma * cut_of sigma) < 2 ^ suc j)
cut_bits sigma least most =
    let cut : ℕ = cut_of sigma in
    let a : ℕ = 3 * (cut * cut) in
    let large : 163841 * 163841 ≤ cut * cut = mul-le 163841 163841 cut cut (omega (arith, least)) (omega (arith, least)) in
    let small : cut * cut ≤ 2 ^ 31 * 2 ^ 31 =
    mul-le cut cut (2 ^ 31) (2 ^ 31) (omega (arith, most)) (omega (arith, most)) in
    let t = leading_top 64 a (omega (arith, large)) (omega (arith, small)) in
    elim (cases_lt (suc t.0) 36) [
      | inl few ↦ absurd (omega (arith, t.3, large, pow_below (suc t.0) 36 few))
      | inr many ↦ (t.0, omega (arith, t.1, many), t.2, t.3)
    ]

-- three squares of the cutoff, shifted, have at most 32 bits
pub cut_fits : (sigma : ℕ) → 65536 ≤ sigma → 5 * sigma < 2 ^ 32
    → 3 * (cut_of sigma * cut_of sigma) < 2 ^ (32 + shift_of sigma)
cut_fits sigma least most =
    let t = cut_bits sigma least most in
    let e : suc t.0 ≡ 32 + shift_of sigma = omega (arith, t.1) in
    subst (λ n. 3 * (cut_of sigma * cut_of sigma) < 2 ^ n) e t.3

-- and so has the reciprocal
pub reciprocal_small : (sigma : ℕ) → 65536 ≤ sigma → 5 * sigma < 2 ^ 32 → reciprocal_of sigma < 2 ^ 32
reciprocal_small sigma least most =
    let cut : ℕ = cut_of sigma in
    let t = cut_bits sigma least most in
    let e : 58 + shift_of sigma ≡ 27 + t.0 = omega (arith, t.1) in
    let power : 2 ^ (58 + shift_of sigma) ≡ 2 ^ 27 * 2 ^ t.0 = ap (λ n. 2 ^ n) e ∙ pow-add 2 27 t.0 in
    let squares : 2 * cut * (2 * cut) ≤ (5 * sigma + 2) * (5 * sigma + 2) =
    mul-le (2 * cut) (2 * cut) (5 * sigma + 2) (5 * sigma + 2) (omega arith) (omega arith) in
    let large : 65536 * sigma ≤ sigma * sigma = mul-le 65536 sigma sigma sigma least (omega arith) in
    div_below (2 ^ (58 + shift_of sigma)) (sigma * sigma) (2 ^ 32) (omega (arith, large, least))
    (rw power (omega (arith, t.2, squares, large, least)))

-- the square of the cutoff is out of reach
pub cut_out : (sigma s : ℕ) → 0 < sigma * sigma → cut_of sigma * cut_of sigma ≤ s → 800 ≤ 128 * s / (sigma * sigma)
cut_out sigma s some far =
    let cut : ℕ = cut_of sigma in
    let squares : 5 * sigma * (5 * sigma) ≤ 2 * cut * (2 * cut) =
    mul-le (5 * sigma) (5 * sigma) (2 * cut) (2 * cut) (omega arith) (omega arith) in
    le-div 800 (128 * s) (sigma * sigma) some (omega (arith, squares, far))

cut_square_most : (cut x : ℕ) → cut_square cut x ≤ cut * cut
cut_square_most cut x = mul-le (min x cut) (min x cut) cut cut (omega arith) (omega arith)

-- three squares of lengths that are cut off are at most so many of the cutoff
pub cut_sum_most : (cut x y z : ℕ) → cut_sum cut x y z ≤ 3 * (cut * cut)
cut_sum_most cut x y z = omega (arith, cut_square_most cut x, cut_square_most cut y, cut_square_most cut z)

-- their sum does not wrap
pub cut_sum_lane : (cut x y z : ℕ) → cut ≤ 2 ^ 31
    → ((cut_square cut x + cut_square cut y) % 2 ^ 64 + cut_square cut z) % 2 ^ 64 ≡ cut_sum cut x y z
cut_sum_lane cut x y z small =
    let square : cut * cut ≤ 2 ^ 31 * 2 ^ 31 = mul-le cut cut (2 ^ 31) (2 ^ 31) small small in
    omega (arith, square, cut_square_most cut x, cut_square_most cut y, cut_square_most cut z)

-- a length is left as it is, or both squares are no less than that of the cutoff
left_or_far : (cut x : ℕ) → (cut_square cut x ≡ x * x) ⊎ ((cut * cut ≤ cut_square cut x) × (cut * cut ≤ x * x))
left_or_far cut x =
    elim (cases_lt cut x) [
      | inl longer ↦
          let e : min x cut ≡ cut = omega (arith, longer) in
          inr (rw e (omega arith), mul-le cut cut x x (omega (arith, longer)) (omega (arith, longer)))
      | inr shorter ↦ let e : min x cut ≡ x = omega (arith, shorter) in inl (rw e refl)
    ]

sum_left_or_far : (cut x y z : ℕ) → (cut_sum cut x y z ≡ x * x + y * y + z * z)
    ⊎ ((cut * cut ≤ cut_sum cut x y z) × (cut * cut ≤ x * x + y * y + z * z))
sum_left_or_far cut x y z =
    elim (left_or_far cut x) [
      | inr far ↦ inr (omega (arith, far.0), omega (arith, far.1))
      | inl ex ↦ elim (left_or_far cut y) [
        | inr far ↦ inr (omega (arith, far.0), omega (arith, far.1))
        | inl ey ↦ elim (left_or_far cut z) [
          | inr far ↦ inr (omega (arith, far.0), omega (arith, far.1))
          | inl ez ↦ inl (omega (arith, ex, ey, ez))
        ]
      ]
    ]

same_least : (q : ℕ) → min q 800 ≡ cond (nat_lt q 800) q 800
same_least q = grind (arith, nat_tests)

both_least : (p q : ℕ) → 800 ≤ p → 800 ≤ q → min p 800 ≡ cond (nat_lt q 800) q 800
both_least p q h k = grind (arith, nat_tests)

-- with longer lengths taken as the cutoff, the bin is the same, and 800 at most
pub near_bin_lane : (sigma x y z : ℕ) → 0 < sigma * sigma
    → let q = 128 * (x * x + y * y + z * z) / (sigma * sigma) in
    min (128 * cut_sum (cut_of sigma) x y z / (sigma * sigma)) 800 ≡ cond (nat_lt q 800) q 800
near_bin_lane sigma x y z some =
    let s : ℕ = x * x + y * y + z * z in
    elim (sum_left_or_far (cut_of sigma) x y z) [
      | inl same ↦ rw same (same_least (128 * s / (sigma * sigma)))
      | inr far ↦
          both_least (128 * cut_sum (cut_of sigma) x y z / (sigma * sigma)) (128 * s / (sigma * sigma))
          (cut_out sigma (cut_sum (cut_of sigma) x y z) some far.0) (cut_out sigma s some far.1)
    ]
