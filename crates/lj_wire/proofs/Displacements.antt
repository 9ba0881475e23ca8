-- What fits 32 bits is a displacement, and no other number is.
use Rattle.std.proofs.Common.{◌≡◌, true, cond, nat_le, ℤ, pos, negsuc, FitsSigned, w32, Result, Ok, Err, Some, None}
use Rattle.std.proofs.Common.{OkIff, refl, arith}
use Rattle.std.specs.Result.{result_ok}
use Rattle.std.proofs.lemmas.Bool.{and_parts, false_from_ne_true, le-leb, leb-true}
use Rattle.lj_wire.specs.Displacements.{is_displacement}

fits_displacement : (z : ℤ) → is_displacement z ≡ true → FitsSigned w32 z
fits_displacement (pos n) e = record { sfits = omega (arith, leb-true n 2147483647 e) }
fits_displacement (negsuc n) e =
    record { sfits = omega (arith, leb-true n 2147483647 (and_parts (nat_le n 2147483647) true e).0) }

is_displacement_fits : (z : ℤ) → FitsSigned w32 z → is_displacement z ≡ true
is_displacement_fits (pos n) f = le-leb n 2147483647 (omega (arith, f.sfits))
is_displacement_fits (negsuc n) f = rw (le-leb n 2147483647 (omega (arith, f.sfits))) refl

pub displacement_read : {E : Type 0} (z : ℤ) (r : Result ℤ E) → OkIff r (FitsSigned w32 z) z
    → result_ok r ≡ cond (is_displacement z) (Some z) None
displacement_read z (Ok x) h = rw (is_displacement_fits z h.0, h.1) refl
displacement_read z (Err e) h = rw (false_from_ne_true (is_displacement z) (λ t. h (fits_displacement z t))) refl
