-- Pushes: their size, their rounding, and which are none.
use Rattle.std.proofs.Common.{ℕ, zero, suc, ◌-◌, ◌*◌, ◌%◌, ◌^◌, ◌<◌, ◌≤◌, ◌≡◌, ℤ, pos, negsuc, ◌+ℤ◌, ◌-ℤ◌, ◌*ℤ◌}
use Rattle.std.proofs.Common.{int_div, unsigned_abs, FitsSigned, w32, w64, of_z, to_z, refl, sym, ap, ◌∙◌, arith}
use Rattle.std.proofs.lemmas.Int.{ints, fits_signed_from_abs, to_z-of_z}
use Rattle.std.proofs.Math.IntN.{*ℤ-zero}
use Rattle.std.specs.Int.{w128}
use Rattle.lj_ring.specs.declared.coordinates.Place.{Place}
use Rattle.lj_ring.specs.Ring.{ring_residue, image, squared_distance, IsLeastImage}
use Rattle.lj_ring.specs.Scale.{Scale}
use Rattle.lj_table.specs.Entries.{push_at}
use Rattle.lj_table.proofs.Quotients.{quotient_size, small_product}
use Rattle.lj_task.specs.declared.pushes.Push.{Push}
use Rattle.lj_task.specs.Pushes.{push, no_push}

-- the low 32 bits of a signed number are its coordinate
pub low_bits : (z : ℤ) → FitsSigned w64 z → of_z w64 z % 2 ^ 32 ≡ ring_residue z
low_bits (pos n) fits = refl
low_bits (negsuc n) fits = let small : n < 2 ^ 63 = omega (arith, fits.sfits) in omega arith

image_size : (image : ℤ) → FitsSigned w32 image → unsigned_abs image ≤ 2 ^ 31
image_size (pos n) fits = omega (arith, fits.sfits)
image_size (negsuc n) fits = omega (arith, fits.sfits)

product_size : (factor image : ℤ) → unsigned_abs factor < 2 ^ 61 → FitsSigned w32 image
    → unsigned_abs (factor *ℤ image) ≤ 2 ^ 61 * 2 ^ 31
product_size factor image small fits =
    small_product factor image (2 ^ 61) (2 ^ 31) (omega arith) (image_size image fits)

push_fits : (factor image : ℤ) → unsigned_abs factor < 2 ^ 61 → FitsSigned w32 image
    → FitsSigned w64 (int_div (factor *ℤ image) (pos (2 ^ 56)))
push_fits factor image small fits =
    let size = product_size factor image small fits in
    fits_signed_from_abs w64 _ (rw quotient_size (omega (arith, size)))

-- a table entry times the step factor
pub factor_size : (entry : ℤ) (step_factor : ℕ) → unsigned_abs entry < 2 ^ 37 → step_factor ≤ 2 ^ 24
    → unsigned_abs (entry *ℤ pos step_factor) < 2 ^ 61
factor_size entry step_factor small few =
    omega (arith, small_product entry (pos step_factor) (2 ^ 37 - 1) (2 ^ 24) (omega arith) few)

pub factor_fits : (entry : ℤ) (step_factor : ℕ) → unsigned_abs entry < 2 ^ 37 → step_factor ≤ 2 ^ 24
    → FitsSigned w64 (entry *ℤ pos step_factor)
factor_fits entry step_factor small few = fits_signed_from_abs w64 _ (omega (arith, factor_size entry step_factor small few))

-- the product in 128 bits
wide_product : (factor image : ℤ) → unsigned_abs factor < 2 ^ 61 → FitsSigned w32 image
    → FitsSigned w128 (factor *ℤ image)
wide_product factor image small fits = fits_signed_from_abs w128 _ (omega (arith, product_size factor image small fits))

-- its quotient in 128 bits
wide_quotient : (factor image : ℤ) → unsigned_abs factor < 2 ^ 61 → FitsSigned w32 image
    → FitsSigned w128 (int_div (factor *ℤ image) (pos (2 ^ 56)))
wide_quotient factor image small fits =
    let size = product_size factor image small fits in
    fits_signed_from_abs w128 _ (rw quotient_size (omega (arith, size)))

-- the product as the code computes it, conversions and all
abbrev pub product_of : ℤ → ℤ → ℤ
product_of factor image = to_z w128 (of_z w128 factor) *ℤ to_z w128 (of_z w128 image)

product_is : (factor image : ℤ) → unsigned_abs factor < 2 ^ 61 → FitsSigned w32 image
    → product_of factor image ≡ factor *ℤ image
product_is factor image small fits =
    let f : FitsSigned w128 factor = fits_signed_from_abs w128 factor (omega arith) in
    let i : FitsSigned w128 image = fits_signed_from_abs w128 image (omega (arith, image_size image fits)) in
    rw (to_z-of_z w128 factor f, to_z-of_z w128 image i) refl

-- its quotient likewise
abbrev pub quotient_of : ℤ → ℤ → ℤ
quotient_of factor image = int_div (to_z w128 (of_z w128 (product_of factor image))) (pos (2 ^ 56))

quotient_is : (factor image : ℤ) → unsigned_abs factor < 2 ^ 61 → FitsSigned w32 image
    → quotient_of factor image ≡ int_div (factor *ℤ image) (pos (2 ^ 56))
quotient_is factor image small fits =
    rw (product_is factor image small fits, to_z-of_z w128 (factor *ℤ image) (wide_product factor image small fits))
    refl

-- the product fits
pub product_fits : (factor image : ℤ) → unsigned_abs factor < 2 ^ 61 → FitsSigned w32 image
    → FitsSigned w128 (product_of factor image)
product_fits factor image small fits = rw (product_is factor image small fits) (wide_product factor image small fits)

-- its quotient fits
pub quotient_fits : (factor image : ℤ) → unsigned_abs factor < 2 ^ 61 → FitsSigned w32 image
    → FitsSigned w128 (quotient_of factor image)
quotient_fits factor image small fits = rw (quotient_is factor image small fits) (wide_quotient factor image small fits)

-- the quotient fits 64 bits
pub narrow_fits : (factor image : ℤ) → unsigned_abs factor < 2 ^ 61 → FitsSigned w32 image
    → FitsSigned w64 (to_z w128 (of_z w128 (quotient_of factor image)))
narrow_fits factor image small fits =
    rw (quotient_is factor image small fits, to_z-of_z w128 _ (wide_quotient factor image small fits))
    (push_fits factor image small fits)

-- what the code computes along an axis
pub along : (factor image : ℤ) → unsigned_abs factor < 2 ^ 61 → FitsSigned w32 image
    → of_z w64 (to_z w64 (of_z w64 (to_z w128 (of_z w128 (quotient_of factor image))))) % 2 ^ 32
    ≡ ring_residue (int_div (factor *ℤ image) (pos (2 ^ 56)))
along factor image small fits =
    let narrow = push_fits factor image small fits in
    rw (
      quotient_is factor image small fits,
      to_z-of_z w128 _ (wide_quotient factor image small fits),
      to_z-of_z w64 _ narrow,
    )
    (low_bits _ narrow)

-- a push by its three parts
pub push_is : (u : Scale) (p q : Place) (factor ix iy iz : ℤ) (x y z : ℕ)
    → factor ≡ push_at u (squared_distance p q) *ℤ pos u.step_factor → ix ≡ image p.x q.x → iy ≡ image p.y q.y → iz ≡ image p.z q.z
    → x ≡ ring_residue (int_div (factor *ℤ ix) (pos (2 ^ 56))) → y ≡ ring_residue (int_div (factor *ℤ iy) (pos (2 ^ 56)))
    → z ≡ ring_residue (int_div (factor *ℤ iz) (pos (2 ^ 56)))
    → (let made : Push = record { x = x; y = y; z = z } in made ≡ push u p q)
unfolding push
push_is u p q factor ix iy iz x y z f i j k e g h = rw (e, g, h, f, i, j, k) refl

-- a signed number whose bits are 0 is 0
pub zero_bits : (z : ℤ) → FitsSigned w64 z → of_z w64 z ≡ 0 → z ≡ pos 0
zero_bits z fits e = sym (to_z-of_z w64 z fits) ∙ ap (λ n. to_z w64 n) e

least_from : (a b : ℕ) (z k : ℤ) → IsLeastImage a b z → a ≡ b → z ≡ pos a -ℤ pos b +ℤ k *ℤ pos (2 ^ 32) → z ≡ pos 0
least_from a b z (pos zero) least same e = omega (arith, ints, least.from, least.below)
least_from a b z (pos (suc n)) least same e = absurd (omega (arith, ints, least.from, least.below))
least_from a b z (negsuc n) least same e = absurd (omega (arith, ints, least.from, least.below))

-- the least image of no difference is 0
least_self : (a b : ℕ) (z : ℤ) → IsLeastImage a b z → a ≡ b → z ≡ pos 0
least_self a b z least same = least_from a b z least.turns.0 least same least.turns.1

-- an atom does not push itself
pub push_self : (u : Scale) (p q : Place) (ix iy iz : ℤ) → ix ≡ image p.x q.x → iy ≡ image p.y q.y → iz ≡ image p.z q.z
    → IsLeastImage p.x q.x ix → IsLeastImage p.y q.y iy → IsLeastImage p.z q.z iz → p ≡ q → push u p q ≡ no_push
unfolding push
push_self u p q ix iy iz x_is y_is z_is x y z same =
    let x_none : image p.x q.x ≡ pos 0 = sym x_is ∙ least_self p.x q.x ix x (ap (λ (r : Place). r.x) same) in
    let y_none : image p.y q.y ≡ pos 0 = sym y_is ∙ least_self p.y q.y iy y (ap (λ (r : Place). r.y) same) in
    let z_none : image p.z q.z ≡ pos 0 = sym z_is ∙ least_self p.z q.z iz z (ap (λ (r : Place). r.z) same) in
    rw (x_none, y_none, z_none, *ℤ-zero) refl
