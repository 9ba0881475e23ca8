-- Quotients toward zero of signed numbers.
use Rattle.std.proofs.Common.{ℕ, zero, suc, ◌-◌, ◌*◌, ◌/◌, ◌^◌, ◌<◌, ◌≤◌, ◌≡◌, ℤ, pos, negsuc, neg_ℤ, ◌-ℤ◌, ◌*ℤ◌, int_div}
use Rattle.std.proofs.Common.{unsigned_abs, to_z, of_z, w64, FitsSigned, refl, ap, ◌∙◌, arith}
use Rattle.std.proofs.Math.Nat.{zero-div}
use Rattle.std.proofs.Math.IntN.{pos-*ℤ-pos, *ℤ-negsuc, zero-*ℤ}
use Rattle.lj_table.specs.Entries.{weighted_energy}
use Rattle.std.proofs.lemmas.Int.{ints, unsigned_abs-mul, fits_signed_from_abs}
use Rattle.std.proofs.lemmas.Nat.{mul-le}

-- a quotient of a number below zero
pub div_neg : (m d : ℕ) → int_div (neg_ℤ (pos m)) (pos d) ≡ neg_ℤ (pos (m / d))
div_neg zero d = rw zero-div refl
div_neg (suc m) d = refl

-- a product with one
pub mul_neg : (f m : ℕ) → pos f *ℤ neg_ℤ (pos m) ≡ neg_ℤ (pos (f * m))
mul_neg f zero = omega (arith, ints)
mul_neg f (suc m) = *ℤ-negsuc (pos f) m ∙ ap neg_ℤ (pos-*ℤ-pos f (suc m))

-- a quotient toward zero of a product with a difference below zero
pub quotient_under : (f t c d : ℕ) → t < c → int_div (pos f *ℤ (pos t -ℤ pos c)) (pos d) ≡ neg_ℤ (pos (f * (c - t) / d))
quotient_under f t c d under =
    let e : pos t -ℤ pos c ≡ neg_ℤ (pos (c - t)) = omega (arith, ints) in
    rw (e, mul_neg f (c - t)) (div_neg (f * (c - t)) d)

-- the same of a difference from zero up
pub quotient_over : (f t c d : ℕ) → c ≤ t → int_div (pos f *ℤ (pos t -ℤ pos c)) (pos d) ≡ pos (f * (t - c) / d)
quotient_over f t c d over =
    let e : pos t -ℤ pos c ≡ pos (t - c) = omega (arith, ints) in
    rw e refl

pub abs_neg : (m : ℕ) → unsigned_abs (neg_ℤ (pos m)) ≡ m
abs_neg zero = refl
abs_neg (suc m) = refl

-- the code's negation of a quotient below 2^37
pub negated : (q : ℕ) → q < 2 ^ 37 → to_z w64 (of_z w64 (pos 0 -ℤ to_z w64 q)) ≡ neg_ℤ (pos q)
negated q small = omega (arith, ints)

pub negated_size : (q : ℕ) → q < 2 ^ 37 → unsigned_abs (to_z w64 (of_z w64 (pos 0 -ℤ to_z w64 q))) < 2 ^ 37
negated_size q small = rw (negated q small, abs_neg q) small

-- the size of a quotient toward zero
pub quotient_size : (z : ℤ) (d : ℕ) → unsigned_abs (int_div z (pos d)) ≡ unsigned_abs z / d
quotient_size (pos n) d = refl
quotient_size (negsuc n) d = abs_neg (suc n / d)

-- a product of two sizes is small
pub small_product : (a b : ℤ) (m n : ℕ) → unsigned_abs a ≤ m → unsigned_abs b ≤ n → unsigned_abs (a *ℤ b) ≤ m * n
small_product a b m n p q = rw (unsigned_abs-mul a b) (mul-le (unsigned_abs a) (unsigned_abs b) m n p q)

-- an entry times a weight of at most 2^16
weighted_size : (entry : ℤ) (weight : ℕ) → unsigned_abs entry < 2 ^ 37 → weight ≤ 2 ^ 16
    → unsigned_abs (entry *ℤ pos weight) ≤ (2 ^ 37 - 1) * 2 ^ 16
weighted_size entry weight small few = small_product entry (pos weight) (2 ^ 37 - 1) (2 ^ 16) (omega arith) few

pub weighted_fits : (entry : ℤ) (weight : ℕ) → unsigned_abs entry < 2 ^ 37 → weight ≤ 2 ^ 16
    → FitsSigned w64 (entry *ℤ pos weight)
weighted_fits entry weight small few =
    fits_signed_from_abs w64 _ (omega (arith, weighted_size entry weight small few))

-- its 256th part
pub part_size : (entry : ℤ) (weight : ℕ) → unsigned_abs entry < 2 ^ 37 → weight ≤ 2 ^ 16
    → unsigned_abs (int_div (entry *ℤ pos weight) (pos 256)) < 2 ^ 45
part_size entry weight small few = rw quotient_size (omega (arith, weighted_size entry weight small few))

pub part_fits : (entry : ℤ) (weight : ℕ) → unsigned_abs entry < 2 ^ 37 → weight ≤ 2 ^ 16
    → FitsSigned w64 (int_div (entry *ℤ pos weight) (pos 256))
part_fits entry weight small few = fits_signed_from_abs w64 _ (omega (arith, part_size entry weight small few))

-- no energy stays none by any weight
pub weighted_none : (weight : ℕ) → weighted_energy weight (pos 0) ≡ pos 0
weighted_none weight = ap (λ z. int_div z (pos 256)) (zero-*ℤ (pos weight))
