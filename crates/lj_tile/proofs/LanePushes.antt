-- The push and the energy of a pair in a lane, by the size of its entry and the length of its image.
use Rattle.std.proofs.Common.{ℕ, zero, suc, ◌+◌, ◌-◌, ◌*◌, ◌/◌, ◌%◌, ◌^◌, ◌<◌, ◌≤◌, ◌≡◌, ℤ, pos, negsuc, neg_ℤ, ◌*ℤ◌}
use Rattle.std.proofs.Common.{int_div, unsigned_abs, Bool, true, false, nat_lt, leb, ltb, if◌then◌else◌, slice_index, refl, sym, ap, ◌∙◌, w32, arith}
use Rattle.std.proofs.Math.IntN.{zero-*ℤ, *ℤ-zero, *ℤ_comm, pos-*ℤ-pos, negsuc-*ℤ-negsuc}
use Rattle.std.proofs.Math.Nat.{mul_comm}
use Rattle.std.proofs.lemmas.Bool.{ltb-true, ltb-false}
use Rattle.std.proofs.lemmas.Bool.Decides.{nat_tests}
use Rattle.std.proofs.lemmas.Nat.{mul-le}
use Rattle.std.specs.Int.{cast_signed}
use Rattle.lj_ring.specs.declared.coordinates.Place.{Place}
use Rattle.lj_ring.specs.declared.scales.TheConstants.{BINS}
use Rattle.lj_ring.specs.Bins.{near_bin}
use Rattle.lj_ring.specs.Ring.{image, squared_distance, ring_residue, ring_difference}
use Rattle.lj_ring.specs.Scale.{Scale, bin, entry}
use Rattle.lj_table.specs.Entries.{push_at, cell, table_value, weighted_energy}
use Rattle.lj_table.proofs.Quotients.{mul_neg, div_neg}
use Rattle.lj_tile.specs.declared.pair_lanes.Eight.{Eight}
use Rattle.lj_tile.specs.Lanes.{IsPush, signed_push}
use Rattle.lj_tile.specs.Energies.{signed_number}
use Rattle.lj_task.specs.Pushes.{push, push_along}

-- a product of less than 2^61 by the products of the halves of the one factor
pub by_halves : (n h : ℕ) → n < 2 ^ 37 → h ≤ 2 ^ 24
    → (n % 2 ^ 32 * (h % 2 ^ 32) % 2 ^ 64 + n / 2 ^ 32 * (h % 2 ^ 32) % 2 ^ 64 * 2 ^ 32 % 2 ^ 64) % 2 ^ 64 ≡ n * h
by_halves n h p q =
    let same : h % 2 ^ 32 ≡ h = omega arith in
    let lower : n % 2 ^ 32 * h ≤ 2 ^ 32 * 2 ^ 24 = mul-le (n % 2 ^ 32) h (2 ^ 32) (2 ^ 24) (omega arith) q in
    let upper : n / 2 ^ 32 * h ≤ 2 ^ 5 * 2 ^ 24 = mul-le (n / 2 ^ 32) h (2 ^ 5) (2 ^ 24) (omega arith) q in
    let whole : (2 ^ 32 * (n / 2 ^ 32) + n % 2 ^ 32) * h ≡ n * h = ap (λ m. m * h) (omega arith) in
    rw same (omega (arith, lower, upper, whole))

joined : (x y : ℕ) → x < 2 ^ 62 → y < 2 ^ 64
    → (x % 2 ^ 64 + y % 2 ^ 64 / 2 ^ 32) % 2 ^ 64 / 2 ^ 24 % 2 ^ 32 ≡ (2 ^ 32 * x + y) / 2 ^ 56 % 2 ^ 32
joined x y p q = omega arith

-- the upper part of a product of 61 and 32 bits, likewise
pub along_by_halves : (f d : ℕ) → f < 2 ^ 61 → d < 2 ^ 32
    → (f / 2 ^ 32 * d % 2 ^ 64 + f % 2 ^ 32 * d % 2 ^ 64 / 2 ^ 32) % 2 ^ 64 / 2 ^ 24 % 2 ^ 32 ≡ f * d / 2 ^ 56 % 2 ^ 32
along_by_halves f d p q =
    let upper : f / 2 ^ 32 * d ≤ 2 ^ 29 * 2 ^ 32 = mul-le (f / 2 ^ 32) d (2 ^ 29) (2 ^ 32) (omega arith) (omega arith) in
    let lower : f % 2 ^ 32 * d ≤ (2 ^ 32 - 1) * (2 ^ 32 - 1) =
    mul-le (f % 2 ^ 32) d (2 ^ 32 - 1) (2 ^ 32 - 1) (omega arith) (omega arith) in
    let whole : 2 ^ 32 * (f / 2 ^ 32 * d) + f % 2 ^ 32 * d ≡ f * d =
    omega arith ∙ ap (λ m. m * d) (let e : 2 ^ 32 * (f / 2 ^ 32) + f % 2 ^ 32 ≡ f = omega arith in e) in
    joined (f / 2 ^ 32 * d) (f % 2 ^ 32 * d) (omega (arith, upper)) (omega (arith, lower))
    ∙ ap (λ m. m / 2 ^ 56 % 2 ^ 32) whole

neg_mul : (f m : ℕ) → neg_ℤ (pos f) *ℤ pos m ≡ neg_ℤ (pos (f * m))
neg_mul f m = *ℤ_comm (neg_ℤ (pos f)) (pos m) ∙ mul_neg m f ∙ ap (λ n. neg_ℤ (pos n)) (mul_comm m f)

neg_mul_neg : (f m : ℕ) → neg_ℤ (pos f) *ℤ neg_ℤ (pos m) ≡ pos (f * m)
neg_mul_neg zero m = zero-*ℤ (neg_ℤ (pos m)) ∙ ap pos (omega arith)
neg_mul_neg (suc f) zero = *ℤ-zero (negsuc f) ∙ ap pos (omega arith)
neg_mul_neg (suc f) (suc m) = negsuc-*ℤ-negsuc f m

quotient : (below : Bool) (n : ℕ) → int_div (signed_number below n) (pos (2 ^ 56)) ≡ signed_number below (n / 2 ^ 56)
quotient true n = div_neg n (2 ^ 56)
quotient false n = refl

-- a number on the ring
on_ring : Bool → ℕ → ℕ
on_ring below n = if below then ring_difference 0 (n % 2 ^ 32) else n % 2 ^ 32

residue_neg : (n : ℕ) → ring_residue (neg_ℤ (pos n)) ≡ ring_difference 0 (n % 2 ^ 32)
residue_neg zero = refl
residue_neg (suc n) = omega arith

residue : (below : Bool) (n : ℕ) → ring_residue (signed_number below n) ≡ on_ring below n
unfolding on_ring
residue true n = residue_neg n
residue false n = refl

part : (below : Bool) (z : ℤ) (n : ℕ) → z ≡ signed_number below n
    → ring_residue (int_div z (pos (2 ^ 56))) ≡ on_ring below (n / 2 ^ 56)
part below z n e = ap (λ w. ring_residue (int_div w (pos (2 ^ 56)))) e ∙ ap ring_residue (quotient below n) ∙ residue below (n / 2 ^ 56)

-- the push along an axis by the two signs
push_signed : (together negative : Bool) (s h n : ℕ)
    → (let m = s * h * n / 2 ^ 56 % 2 ^ 32 in
    ring_residue (int_div (signed_number together s *ℤ pos h *ℤ signed_number negative n) (pos (2 ^ 56)))
    ≡ (if negative then (if together then m else ring_difference 0 m) else (if together then ring_difference 0 m else m)))
unfolding on_ring
push_signed true true s h n =
    part false _ (s * h * n) (ap (λ z. z *ℤ neg_ℤ (pos n)) (neg_mul s h) ∙ neg_mul_neg (s * h) n)
push_signed true false s h n =
    part true _ (s * h * n) (ap (λ z. z *ℤ pos n) (neg_mul s h) ∙ neg_mul (s * h) n)
push_signed false true s h n =
    part true _ (s * h * n) (ap (λ z. z *ℤ neg_ℤ (pos n)) (pos-*ℤ-pos s h) ∙ mul_neg (s * h) n)
push_signed false false s h n =
    part false _ (s * h * n) (ap (λ z. z *ℤ pos n) (pos-*ℤ-pos s h) ∙ pos-*ℤ-pos (s * h) n)

-- an image by its length
image_signed : (d : ℕ) → d < 2 ^ 32
    → cast_signed w32 d ≡ signed_number (leb (2 ^ 31) d) (unsigned_abs (cast_signed w32 d))
image_signed d h = grind (arith, nat_tests)

axis : (u : Scale) (together : Bool) (size d : ℕ) (e : ℤ) → d < 2 ^ 32 → e ≡ signed_number together size
    → signed_push together d (size * u.step_factor * unsigned_abs (cast_signed w32 d) / 2 ^ 56 % 2 ^ 32)
    ≡ push_along u e (cast_signed w32 d)
axis u together size d e h same =
    sym (ap (λ z. ring_residue (int_div (z *ℤ pos u.step_factor *ℤ cast_signed w32 d) (pos (2 ^ 56)))) same
    ∙ ap (λ z. ring_residue (int_div (signed_number together size *ℤ pos u.step_factor *ℤ z) (pos (2 ^ 56)))) (image_signed d h)
    ∙ push_signed together (leb (2 ^ 31) d) size u.step_factor (unsigned_abs (cast_signed w32 d)))

-- what a lane has along an axis
pub axis_is : (u : Scale) (together : Bool) (size a b d length step_factor factor along result : ℕ) (e : ℤ)
    → e ≡ signed_number together size → d ≡ ring_difference a b → length ≡ unsigned_abs (cast_signed w32 d)
    → step_factor ≡ u.step_factor → factor ≡ size * step_factor → along ≡ factor * length / 2 ^ 56 % 2 ^ 32
    → result ≡ signed_push together d along → result ≡ push_along u e (image a b)
axis_is u together size a b d length step_factor factor along result e entry_is apart length_is step_factor_is factor_is along_is is =
    rw (is, along_is, factor_is, length_is, step_factor_is, apart)
    (axis u together size (ring_difference a b) e (omega arith) entry_is)

-- the sign of an entry by its bin
pub entry_signed : (last : ℕ) (test : Bool) (k size : ℕ) (e : ℤ) → ltb last k ≡ test → (k ≤ last → e ≡ pos size)
    → (last < k → e ≡ neg_ℤ (pos size)) → e ≡ signed_number test size
entry_signed last true k size e t above below = below (ltb-true last k t)
entry_signed last false k size e t above below = above (ltb-false last k t)

cell_of : (entry_of : ℕ → ℤ) (test : Bool) (k : ℕ) → nat_lt k BINS ≡ test
    → cell entry_of (if test then k else BINS) ≡ (if test then entry_of (entry k) else pos 0)
cell_of entry_of true k t = ap (λ (b : Bool). if b then entry_of (entry k) else pos 0) t
cell_of entry_of false k t = refl

-- the cell of the bin of a pair is its entry
pub near_cell : (entry_of : ℕ → ℤ) (u : Scale) (s : ℕ) → cell entry_of (near_bin u s) ≡ table_value entry_of u s
near_cell entry_of u s = cell_of entry_of (nat_lt (bin u s) BINS) (bin u s) refl

-- the length of an image from that of a difference
pub length_is : (n d a b : ℕ) → n ≡ unsigned_abs (cast_signed w32 d) → d ≡ ring_difference a b → n ≡ unsigned_abs (image a b)
length_is n d a b e apart = e ∙ ap (λ m. unsigned_abs (cast_signed w32 m)) apart

-- an energy by its weight is the weighted size with the same sign
pub weighted_signed : (below : Bool) (n weight : ℕ)
    → signed_number below (n * weight / 256) ≡ weighted_energy weight (signed_number below n)
weighted_signed true n weight = sym (ap (λ z. int_div z (pos 256)) (neg_mul n weight) ∙ div_neg (n * weight) 256)
weighted_signed false n weight = sym (ap (λ z. int_div z (pos 256)) (pos-*ℤ-pos n weight))

-- a push by its three parts
pub lane_push : (u : Scale) (p q : Place) (v : Eight) (k : ℕ)
    → slice_index v.x k ≡ push_along u (push_at u (squared_distance p q)) (image p.x q.x)
    → slice_index v.y k ≡ push_along u (push_at u (squared_distance p q)) (image p.y q.y)
    → slice_index v.z k ≡ push_along u (push_at u (squared_distance p q)) (image p.z q.z) → IsPush v k (push u p q)
unfolding push
lane_push u p q v k x y z = record { x = x; y = y; z = z }
