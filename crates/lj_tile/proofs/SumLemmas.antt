-- Sums of pushes and of energies, place by place, and the bits of a mask.
use Rattle.std.proofs.Common.{ℕ, zero, suc, ◌+◌, ◌-◌, ◌*◌, ◌/◌, ◌%◌, ◌^◌, ◌<◌, ◌≤◌, ◌≡◌}
use Rattle.std.proofs.Common.{ℤ, pos, ◌+ℤ◌, unsigned_abs, FitsSigned, w64, to_z, of_z, refl, sym, ap, ◌∙◌}
use Rattle.std.proofs.Common.{inl, inr, arith}
use Rattle.std.specs.Int.{bit_at, trailing_zeros}
use Rattle.std.proofs.lemmas.Nat.{shr-shr}
use Rattle.std.proofs.lemmas.Nat.Bits.{bit_at-trailing_zeros, bit_at_above, bit_at-zero}
use Rattle.std.proofs.Math.IntN.{+ℤ_idr}
use Rattle.std.proofs.lemmas.Bool.{cases_lt}
use Rattle.std.proofs.lemmas.Nat.{mul-le}
use Rattle.std.proofs.lemmas.Int.{ints, fits_signed_from_abs, to_z-of_z}
use Rattle.lj_ring.specs.Ring.{sum_below, int_sum_below}

-- two sums of equal terms
pub sum_same : (n : ℕ) (f g : ℕ → ℕ) → ((k : ℕ) → k < n → f k ≡ g k) → sum_below n f ≡ sum_below n g
sum_same zero f g same = refl
sum_same (suc n) f g same =
    let before = sum_same n f g (λ k h. same k (omega arith)) in
    let last = same n (omega arith) in
    omega (arith, before, last)

pub m_zero : (m : ℕ) → m ≤ 0 → m ≡ 0
m_zero m h = omega arith

-- a sum whose terms from m on are 0
pub sum_far : (f : ℕ → ℕ) (m n : ℕ) → m ≤ n → ((s : ℕ) → m ≤ s → s < n → f s ≡ 0) → sum_below m f ≡ sum_below n f
sum_far f m zero le none = rw (m_zero m le) refl
sum_far f m (suc n) le none =
    elim (cases_lt n m) [
      | inl end ↦ let e : m ≡ suc n = omega arith in rw e refl
      | inr more ↦
          let last : f n ≡ 0 = none n more (omega arith) in
          let before = sum_far f m n more (λ s h k. none s h (omega arith)) in
          omega (arith, last, before)
    ]

-- a sum whose later terms are 0 is the sum of the earlier ones
pub sum_front : (n m : ℕ) (f g : ℕ → ℤ) → m ≤ n → ((t : ℕ) → t < m → f t ≡ g t) → ((t : ℕ) → t < n → m ≤ t → g t ≡ pos 0)
    → int_sum_below m f ≡ int_sum_below n g
sum_front zero zero f g le same none = refl
sum_front zero (suc m) f g le same none = absurd (omega arith)
sum_front (suc n) zero f g le same none =
    rw (none n (omega arith) (omega arith))
    (sum_front n zero f g (omega arith) (λ t h. same t h) (λ t h k. none t (omega arith) k)
    ∙ sym (+ℤ_idr (int_sum_below n g)))
sum_front (suc n) (suc m) f g le same none =
    elim (cases_lt m n) [
      | inl more ↦
          rw (none n (omega arith) (omega arith))
          (sum_front n (suc m) f g (omega arith) same (λ t h k. none t (omega arith) k)
          ∙ sym (+ℤ_idr (int_sum_below n g)))
      | inr end ↦
          let e : m ≡ n = omega arith in
          rw (same m (omega arith), e)
          (ap (λ z. z +ℤ g n) (sum_front n n f g (omega arith) (λ t h. same t (omega arith))
          (λ t h k. absurd (omega arith))))
    ]

pub abs_add : (a b : ℤ) (m n : ℕ) → unsigned_abs a ≤ m → unsigned_abs b ≤ n → unsigned_abs (a +ℤ b) ≤ m + n
abs_add a b m n p q = omega (arith, ints)

-- a partial sum and one term more
pub sum_size : (a b : ℤ) (k m : ℕ) → unsigned_abs a ≤ k * m → unsigned_abs b ≤ m → unsigned_abs (a +ℤ b) ≤ (k + 1) * m
sum_size a b k m p q = let both = abs_add a b (k * m) m p q in omega (arith, both)

pub sum_fits : (a b : ℤ) (k m : ℕ) → unsigned_abs a ≤ k * m → unsigned_abs b ≤ m → k < 128 → m ≤ 2 ^ 55
    → FitsSigned w64 (a +ℤ to_z w64 (of_z w64 b))
sum_fits a b k m p q few small =
    let b_fits : FitsSigned w64 b = fits_signed_from_abs w64 b (omega arith) in
    let most : k * m ≤ 127 * 2 ^ 55 = mul-le k m 127 (2 ^ 55) (omega arith) small in
    rw (to_z-of_z w64 b b_fits) (fits_signed_from_abs w64 _ (omega (arith, abs_add a b (k * m) m p q)))

pub sum_is : (a b : ℤ) (k m : ℕ) → unsigned_abs a ≤ k * m → unsigned_abs b ≤ m → k < 128 → m ≤ 2 ^ 55
    → to_z w64 (of_z w64 (a +ℤ to_z w64 (of_z w64 b))) ≡ a +ℤ b
sum_is a b k m p q few small =
    let fits = sum_fits a b k m p q few small in
    let b_fits : FitsSigned w64 b = fits_signed_from_abs w64 b (omega arith) in
    to_z-of_z w64 _ fits ∙ ap (λ z. a +ℤ z) (to_z-of_z w64 b b_fits)

-- the bits that are left above the lowest n + 1
bits_left : (rest n k : ℕ) → bit_at (rest / 2 ^ n / 2) k ≡ bit_at rest (n + 1 + k)
bits_left rest n k =
    ap (λ m. m % 2) (shr-shr (rest / 2 ^ n) 1 k ∙ shr-shr rest n (1 + k) ∙ ap (λ j. rest / 2 ^ j) (omega arith))

-- `rest` is a mask of 64 from bit s on
pub record IsFrom (mask s rest : ℕ) : Type 0 where
  pub within : s ≤ 64
  pub bits : (k : ℕ) → bit_at rest k ≡ bit_at mask (s + k)

pub from_all : (mask : ℕ) → IsFrom mask 0 mask
from_all mask = record { within = omega arith; bits = λ k. ap (bit_at mask) (omega arith) }

-- the lowest bit that is set in the rest of a mask, and the rest above it
pub record HasNext (mask s rest n : ℕ) : Type 0 where
  pub within : s + n < 64
  pub set : bit_at mask (s + n) ≡ 1
  pub before : (k : ℕ) → s ≤ k → k < s + n → bit_at mask k ≡ 0
  pub after : IsFrom mask (s + n + 1) (rest / 2 ^ n / 2)

pub next_set : (mask s rest : ℕ) → mask < 2 ^ 64 → rest < 2 ^ 64 → 0 < rest → IsFrom mask s rest
    → HasNext mask s rest (trailing_zeros w64 rest)
next_set mask s rest small rest_small some from =
    let n : ℕ = trailing_zeros w64 rest in
    let found = bit_at-trailing_zeros w64 rest some rest_small in
    let set : bit_at mask (s + n) ≡ 1 = sym (from.bits n) ∙ found.1 in
    let within : s + n < 64 = elim (cases_lt (s + n) 64) [
      | inl less ↦ less
      | inr more ↦ absurd (omega (arith, set, bit_at_above mask 64 (s + n) small more))
    ] in
    record {
      within = within;
      set = set;
      before = λ k least less.
          let e : s + (k - s) ≡ k = omega arith in
          ap (bit_at mask) (sym e) ∙ sym (from.bits (k - s)) ∙ found.2 (k - s) (omega arith);
      after = record {
        within = omega (arith, within);
        bits = λ k. bits_left rest n k ∙ from.bits (n + 1 + k) ∙ ap (bit_at mask) (omega arith);
      };
    }

-- no bit is set from an empty rest on
pub from_empty : (mask s rest : ℕ) → IsFrom mask s rest → rest ≡ 0 → (k : ℕ) → s ≤ k → k < 64 → bit_at mask k ≡ 0
from_empty mask s rest from empty k least less =
    let e : s + (k - s) ≡ k = omega arith in
    ap (bit_at mask) (sym e) ∙ sym (from.bits (k - s)) ∙ ap (λ r. bit_at r (k - s)) empty ∙ bit_at-zero (k - s)

-- places without energy leave the sum as it is
pub sum_past : (f : ℕ → ℤ) (from to : ℕ) → from ≤ to → ((t : ℕ) → from ≤ t → t < to → f t ≡ pos 0)
    → int_sum_below from f ≡ int_sum_below to f
sum_past f from to le none = sum_front to from f f le (λ t h. refl) (λ t h k. none t k h)
