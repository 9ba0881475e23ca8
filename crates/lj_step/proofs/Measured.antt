-- Sums of images as the code keeps them.
use Rattle.std.proofs.Common.{ℕ, ◌+◌, ◌*◌, ◌^◌, ◌<◌, ◌≤◌, ◌≡◌, ℤ, ◌+ℤ◌, unsigned_abs, FitsSigned, w64, to_z, of_z, refl}
use Rattle.std.proofs.Common.{ap, ◌∙◌, add-one, arith}
use Rattle.std.proofs.lemmas.Int.{to_z-of_z, fits_signed_from_abs}
use Rattle.lj_ring.specs.Ring.{int_sum_below}

sum_more : (f : ℕ → ℤ) (i : ℕ) → int_sum_below i f +ℤ f i ≡ int_sum_below (i + 1) f
sum_more f i = rw add-one refl

sum_fits : (i : ℕ) (s : ℤ) → unsigned_abs s ≤ i * 2 ^ 31 → i ≤ 4096 → FitsSigned w64 s
sum_fits i s most few = fits_signed_from_abs w64 s (omega arith)

-- a sum of images with one more, as the code keeps it
pub one_more : (f : ℕ → ℤ) (i : ℕ) (s r : ℤ) → s ≡ int_sum_below i f → r ≡ to_z w64 (of_z w64 s) +ℤ f i
    → unsigned_abs r ≤ unsigned_abs (to_z w64 (of_z w64 s)) + 2 ^ 31
    → unsigned_abs s ≤ i * 2 ^ 31 → i < 4096 → to_z w64 (of_z w64 r) ≡ int_sum_below (i + 1) f
one_more f i s r value next size most few =
    let kept = to_z-of_z w64 s (sum_fits i s most (omega arith)) in
    let small : unsigned_abs r ≤ (i + 1) * 2 ^ 31 = omega (arith, rw kept at size) in
    to_z-of_z w64 r (sum_fits (i + 1) r small (omega arith)) ∙ next ∙ ap (λ t. t +ℤ f i) (kept ∙ value) ∙ sum_more f i

pub more_size : (i : ℕ) (s r : ℤ) → unsigned_abs r ≤ unsigned_abs (to_z w64 (of_z w64 s)) + 2 ^ 31
    → unsigned_abs s ≤ i * 2 ^ 31 → i < 4096
    → unsigned_abs (to_z w64 (of_z w64 r)) ≤ (i + 1) * 2 ^ 31
more_size i s r size most few =
    let kept = to_z-of_z w64 s (sum_fits i s most (omega arith)) in
    let small : unsigned_abs r ≤ (i + 1) * 2 ^ 31 = omega (arith, rw kept at size) in
    rw (to_z-of_z w64 r (sum_fits (i + 1) r small (omega arith))) small
