-- Step numbers as the code computes them.
use Rattle.std.proofs.Common.{◌≤◌, ◌^◌, ◌≡◌, ℤ, ◌+ℤ◌, unsigned_abs, FitsSigned, w64, to_z, of_z, refl, arith}
use Rattle.std.proofs.lemmas.Int.{to_z-of_z, fits_signed_from_abs}

-- what the code computes as the next step number, conversions and all
pub next_number : (s d : ℤ) → unsigned_abs s ≤ 10 ^ 12 → unsigned_abs d ≡ 1 → unsigned_abs (s +ℤ d) ≤ 10 ^ 12
    → to_z w64 (of_z w64 (to_z w64 (of_z w64 s) +ℤ to_z w64 (of_z w64 d))) ≡ s +ℤ d
next_number s d s_bound d_size sum_bound =
    let s_fits : FitsSigned w64 s = fits_signed_from_abs w64 s (omega arith) in
    let d_fits : FitsSigned w64 d = fits_signed_from_abs w64 d (omega arith) in
    let sum_fits : FitsSigned w64 (s +ℤ d) = fits_signed_from_abs w64 (s +ℤ d) (omega arith) in
    rw (to_z-of_z w64 s s_fits, to_z-of_z w64 d d_fits, to_z-of_z w64 (s +ℤ d) sum_fits) refl
