-- Two atoms push each other by opposite pushes.
use Rattle.std.proofs.Common.{ℕ, zero, suc, ◌+◌, ◌-◌, ◌*◌, ◌/◌, ◌%◌, ◌^◌, ◌<◌, ◌≤◌, ◌≡◌, ℤ, pos, negsuc, ◌*ℤ◌, neg_ℤ}
use Rattle.std.proofs.Common.{int_div, unsigned_abs, Bool, false, ◌⊎◌, inl, inr, if◌then◌else◌, refl, sym, ap, ◌∙◌}
use Rattle.std.proofs.Common.{arith}
use Rattle.std.proofs.Math.IntN.{zero-*ℤ, *ℤ-zero, *ℤ-negsuc, neg_ℤ-neg_ℤ}
use Rattle.std.proofs.lemmas.Bool.{cases_lt, cases_eq, cases_Bool}
use Rattle.std.proofs.lemmas.Bool.Decides.{nat_tests}
use Rattle.std.specs.Int.{cast_signed, w32}
use Rattle.lj_ring.specs.declared.coordinates.Place.{Place}
use Rattle.lj_ring.specs.Ring.{image, ring_residue, ring_difference, square, squared_distance}
use Rattle.lj_ring.specs.Scale.{Scale, bin, is_in_cutoff, entry}
use Rattle.lj_table.specs.Entries.{push_entry, push_at}
use Rattle.lj_task.specs.declared.pushes.Push.{Push}
use Rattle.lj_task.specs.Pushes.{push, no_push, opposite_push, push_along}
use Rattle.lj_ring.specs.Ring.{IsOnRing}
use Rattle.lj_ring.specs.Scale.{IsScale}

-- a pair whose entry is 0 does not push
pub nothing_is : (u : Scale) (p q : Place) → push_at u (squared_distance p q) ≡ pos 0 → no_push ≡ push u p q
unfolding push
nothing_is u p q none =
    rw (none, zero-*ℤ (pos u.step_factor), zero-*ℤ (image p.x q.x), zero-*ℤ (image p.y q.y), zero-*ℤ (image p.z q.z)) refl

-- the image of a difference on the ring
signed : ℕ → ℤ
signed r = cast_signed w32 r

lower_half : (r : ℕ) → r < 2 ^ 31 → signed r ≡ pos r
unfolding signed
lower_half r near = grind (arith, nat_tests)

upper_half : (r : ℕ) → 2 ^ 31 ≤ r → r < 2 ^ 32 → signed r ≡ negsuc (2 ^ 32 - 1 - r)
unfolding signed
upper_half r far below = grind (arith, nat_tests)

-- half the box
abbrev half : ℤ
half = negsuc (2 ^ 31 - 1)

-- two images are opposite, or both are half the box
abbrev AreOpposite : ℤ → ℤ → Type 0
AreOpposite y z = (y ≡ neg_ℤ z) ⊎ ((y ≡ half) × (z ≡ half))

neg_upper : (r : ℕ) → 2 ^ 31 < r → r < 2 ^ 32 → neg_ℤ (negsuc (2 ^ 32 - 1 - r)) ≡ pos (2 ^ 32 - r)
neg_upper r far below = ap pos (omega arith)

neg_lower : (r k : ℕ) → r ≡ suc k → neg_ℤ (pos r) ≡ negsuc k
neg_lower r k e = ap (λ n. neg_ℤ (pos n)) e

signed_opposite : (r : ℕ) → r < 2 ^ 32 → AreOpposite (signed ((2 ^ 32 - r) % 2 ^ 32)) (signed r)
signed_opposite r below =
    elim (cases_eq r 0) [
      | inl none ↦
          let e : (2 ^ 32 - r) % 2 ^ 32 ≡ 0 = omega arith in
          inl (ap signed e ∙ lower_half 0 (omega arith)
          ∙ sym (ap (λ n. neg_ℤ (signed n)) none ∙ ap neg_ℤ (lower_half 0 (omega arith))))
      | inr some ↦
          let e : (2 ^ 32 - r) % 2 ^ 32 ≡ 2 ^ 32 - r = omega arith in
          elim (cases_lt r (2 ^ 31)) [
            | inl near ↦
                inl (ap signed e ∙ upper_half (2 ^ 32 - r) (omega arith) (omega arith)
                ∙ sym (ap neg_ℤ (lower_half r near) ∙ neg_lower r (2 ^ 32 - 1 - (2 ^ 32 - r)) (omega arith)))
            | inr far ↦ elim (cases_eq r (2 ^ 31)) [
              | inl middle ↦
                  let h : signed r ≡ half = ap signed middle ∙ upper_half (2 ^ 31) (omega arith) (omega arith) in
                  let o : 2 ^ 32 - r ≡ 2 ^ 31 = omega arith in
                  inr (ap signed (e ∙ o) ∙ upper_half (2 ^ 31) (omega arith) (omega arith), h)
              | inr beyond ↦
                  inl (ap signed e ∙ lower_half (2 ^ 32 - r) (omega arith)
                  ∙ sym (ap neg_ℤ (upper_half r far below) ∙ neg_upper r (omega arith) below))
            ]
          ]
    ]

turned_difference : (a b : ℕ) → a < 2 ^ 32 → b < 2 ^ 32
    → (b + (2 ^ 32 - a)) % 2 ^ 32 ≡ (2 ^ 32 - (a + (2 ^ 32 - b)) % 2 ^ 32) % 2 ^ 32
turned_difference a b p q = omega arith

images_opposite : (a b : ℕ) → a < 2 ^ 32 → b < 2 ^ 32 → AreOpposite (image b a) (image a b)
unfolding signed
images_opposite a b p q =
    let h = signed_opposite ((a + (2 ^ 32 - b)) % 2 ^ 32) (omega arith) in
    rw (turned_difference a b p q) h

neg_size : (z : ℤ) → unsigned_abs (neg_ℤ z) ≡ unsigned_abs z
neg_size (pos zero) = refl
neg_size (pos (suc n)) = refl
neg_size (negsuc n) = refl

same_square : (y z : ℤ) → AreOpposite y z → square y ≡ square z
same_square y z h =
    elim h [
      | inl e ↦ let s : unsigned_abs y ≡ unsigned_abs z = ap unsigned_abs e ∙ neg_size z in ap (λ n. n * n) s
      | inr e ↦ ap square (e.0 ∙ sym e.1)
    ]

pub distance_symmetric : (p q : Place) → IsOnRing p → IsOnRing q → squared_distance q p ≡ squared_distance p q
distance_symmetric p q hp hq =
    let x = same_square (image q.x p.x) (image p.x q.x) (images_opposite p.x q.x hp.x hq.x) in
    let y = same_square (image q.y p.y) (image p.y q.y) (images_opposite p.y q.y hp.y hq.y) in
    let z = same_square (image q.z p.z) (image p.z q.z) (images_opposite p.z q.z hp.z hq.z) in
    cc (x, y, z)

half_far : (z : ℤ) → z ≡ half → 2 ^ 62 ≤ square z
half_far z e = rw (ap square e) (omega arith)

near_opposite : (y z : ℤ) → square z < 2 ^ 62 → AreOpposite y z → y ≡ neg_ℤ z
near_opposite y z small h =
    elim h [ inl e ↦ e | inr e ↦ absurd (omega (arith, half_far z e.1)) ]

neg_zero : (a : ℤ) → a *ℤ neg_ℤ (pos zero) ≡ neg_ℤ (a *ℤ pos zero)
neg_zero a = *ℤ-zero a ∙ sym (ap neg_ℤ (*ℤ-zero a))

mul_neg : (a z : ℤ) → a *ℤ neg_ℤ z ≡ neg_ℤ (a *ℤ z)
mul_neg a (pos zero) = neg_zero a
mul_neg a (pos (suc n)) = *ℤ-negsuc a n
mul_neg a (negsuc n) = sym (ap neg_ℤ (*ℤ-negsuc a n) ∙ neg_ℤ-neg_ℤ (a *ℤ pos (suc n)))

-- a quotient toward zero is odd
quotient_odd : (z : ℤ) → int_div (neg_ℤ z) (pos (2 ^ 56)) ≡ neg_ℤ (int_div z (pos (2 ^ 56)))
quotient_odd (pos zero) = refl
quotient_odd (pos (suc n)) = refl
quotient_odd (negsuc n) = sym (neg_ℤ-neg_ℤ (pos (suc n / 2 ^ 56)))

sum_zero : (z : ℤ) → (ring_residue (neg_ℤ z) + ring_residue z) % 2 ^ 32 ≡ 0
sum_zero (pos zero) = refl
sum_zero (pos (suc n)) = omega arith
sum_zero (negsuc n) = omega arith

along_odd : (u : Scale) (e y z : ℤ) → y ≡ neg_ℤ z → (push_along u e y + push_along u e z) % 2 ^ 32 ≡ 0
along_odd u e y z opposite_push =
    ap (λ i. (push_along u e i + push_along u e z) % 2 ^ 32) opposite_push
    ∙ ap (λ w. (ring_residue (int_div w (pos (2 ^ 56))) + push_along u e z) % 2 ^ 32) (mul_neg (e *ℤ pos u.step_factor) z)
    ∙ ap (λ w. (ring_residue w + push_along u e z) % 2 ^ 32) (quotient_odd (e *ℤ pos u.step_factor *ℤ z))
    ∙ sum_zero (int_div (e *ℤ pos u.step_factor *ℤ z) (pos (2 ^ 56)))

pub along_none : (u : Scale) (y : ℤ) → push_along u (pos 0) y ≡ 0
along_none u y =
    ap (λ w. ring_residue (int_div (w *ℤ y) (pos (2 ^ 56)))) (zero-*ℤ (pos u.step_factor))
    ∙ ap (λ w. ring_residue (int_div w (pos (2 ^ 56)))) (zero-*ℤ y)

-- a push whose three parts lie on the ring
record IsSmall (a : Push) : Type 0 where
  x : a.x < 2 ^ 32
  y : a.y < 2 ^ 32
  z : a.z < 2 ^ 32

-- two pushes add up to none on the ring
pub record AddToNone (a b : Push) : Type 0 where
  pub x : (a.x + b.x) % 2 ^ 32 ≡ 0
  pub y : (a.y + b.y) % 2 ^ 32 ≡ 0
  pub z : (a.z + b.z) % 2 ^ 32 ≡ 0

pub entry_far : (u : Scale) (s : ℕ) → is_in_cutoff u s ≡ false → push_at u s ≡ pos 0
entry_far u s far = ap (λ (b : Bool). if b then push_entry (entry (bin u s)) else pos 0) far

none_along : (u : Scale) (d e y z : ℤ) → d ≡ pos 0 → e ≡ pos 0 → (push_along u d y + push_along u e z) % 2 ^ 32 ≡ 0
none_along u d e y z first second =
    ap (λ w. (push_along u w y + push_along u e z) % 2 ^ 32) first
    ∙ ap (λ w. (push_along u (pos 0) y + push_along u w z) % 2 ^ 32) second
    ∙ ap (λ n. (n + push_along u (pos 0) z) % 2 ^ 32) (along_none u y)
    ∙ ap (λ n. (0 + n) % 2 ^ 32) (along_none u z)

-- of two equal entries and opposite images
near_along : (u : Scale) (d e y z : ℤ) → d ≡ e → y ≡ neg_ℤ z → (push_along u d y + push_along u e z) % 2 ^ 32 ≡ 0
near_along u d e y z same opposite_push =
    ap (λ w. (push_along u w y + push_along u e z) % 2 ^ 32) same ∙ along_odd u e y z opposite_push

far_pair : (u : Scale) (p q : Place) → is_in_cutoff u (squared_distance p q) ≡ false → squared_distance q p ≡ squared_distance p q
    → AddToNone (push u q p) (push u p q)
unfolding push
far_pair u p q far same =
    let here : push_at u (squared_distance p q) ≡ pos 0 = entry_far u (squared_distance p q) far in
    let there : push_at u (squared_distance q p) ≡ pos 0 = ap (push_at u) same ∙ here in
    record {
      x = none_along u (push_at u (squared_distance q p)) (push_at u (squared_distance p q)) (image q.x p.x) (image p.x q.x) there here;
      y = none_along u (push_at u (squared_distance q p)) (push_at u (squared_distance p q)) (image q.y p.y) (image p.y q.y) there here;
      z = none_along u (push_at u (squared_distance q p)) (push_at u (squared_distance p q)) (image q.z p.z) (image p.z q.z) there here;
    }

near_pair : (u : Scale) (p q : Place) → IsOnRing p → IsOnRing q → squared_distance p q < 2 ^ 62 → squared_distance q p ≡ squared_distance p q
    → AddToNone (push u q p) (push u p q)
unfolding push
near_pair u p q hp hq small same =
    let e : push_at u (squared_distance q p) ≡ push_at u (squared_distance p q) = ap (push_at u) same in
    let x : image q.x p.x ≡ neg_ℤ (image p.x q.x) =
    near_opposite (image q.x p.x) (image p.x q.x) (omega arith) (images_opposite p.x q.x hp.x hq.x) in
    let y : image q.y p.y ≡ neg_ℤ (image p.y q.y) =
    near_opposite (image q.y p.y) (image p.y q.y) (omega arith) (images_opposite p.y q.y hp.y hq.y) in
    let z : image q.z p.z ≡ neg_ℤ (image p.z q.z) =
    near_opposite (image q.z p.z) (image p.z q.z) (omega arith) (images_opposite p.z q.z hp.z hq.z) in
    record {
      x = near_along u (push_at u (squared_distance q p)) (push_at u (squared_distance p q)) (image q.x p.x) (image p.x q.x) e x;
      y = near_along u (push_at u (squared_distance q p)) (push_at u (squared_distance p q)) (image q.y p.y) (image p.y q.y) e y;
      z = near_along u (push_at u (squared_distance q p)) (push_at u (squared_distance p q)) (image q.z p.z) (image p.z q.z) e z;
    }

-- the two pushes of a pair add up to none
pub pushes_opposite : (u : Scale) (p q : Place) → IsScale u → IsOnRing p → IsOnRing q
    → AddToNone (push u q p) (push u p q)
pushes_opposite u p q scale hp hq =
    let same = distance_symmetric p q hp hq in
    elim (cases_Bool (is_in_cutoff u (squared_distance p q))) [
      | inl near ↦ near_pair u p q hp hq (scale.near (squared_distance p q) near) same
      | inr far ↦ far_pair u p q far same
    ]

ring_small : (z : ℤ) → ring_residue z < 2 ^ 32
ring_small (pos n) = omega arith
ring_small (negsuc n) = omega arith

push_small : (u : Scale) (p q : Place) → IsSmall (push u p q)
unfolding push
push_small u p q = record {
  x = ring_small _;
  y = ring_small _;
  z = ring_small _;
}

odd_along : (a b : ℕ) → a < 2 ^ 32 → b < 2 ^ 32 → (b + a) % 2 ^ 32 ≡ 0 → b ≡ ring_difference 0 a
odd_along a b p q none = omega arith

push_of_axes : ℕ → ℕ → ℕ → Push
push_of_axes x y z = record { x = x; y = y; z = z }

-- pushes with equal parts are equal
pub same_push : (a b : Push) → a.x ≡ b.x → a.y ≡ b.y → a.z ≡ b.z → a ≡ b
unfolding push_of_axes
same_push a b x y z =
    ap (λ k. push_of_axes k a.y a.z) x ∙ ap (λ k. push_of_axes b.x k a.z) y ∙ ap (λ k. push_of_axes b.x b.y k) z

-- of two pushes that add up to none each is the opposite of the other
opposite_is : (a b : Push) → IsSmall a → IsSmall b → AddToNone b a → b ≡ opposite_push a
opposite_is a b p q none =
    let x : b.x ≡ ring_difference 0 a.x = odd_along a.x b.x p.x q.x none.x in
    let y : b.y ≡ ring_difference 0 a.y = odd_along a.y b.y p.y q.y none.y in
    let z : b.z ≡ ring_difference 0 a.z = odd_along a.z b.z p.z q.z none.z in
    same_push b (opposite_push a) x y z

-- the push the other way is the opposite
pub push_back_is : (u : Scale) (p q : Place) → IsScale u → IsOnRing p → IsOnRing q → push u q p ≡ opposite_push (push u p q)
push_back_is u p q scale hp hq =
    opposite_is (push u p q) (push u q p) (push_small u p q) (push_small u q p) (pushes_opposite u p q scale hp hq)

-- a pair whose entry is 0 does not push the other way
pub nothing_back : (u : Scale) (p q : Place) → IsOnRing p → IsOnRing q → push_at u (squared_distance p q) ≡ pos 0
    → push u q p ≡ no_push
nothing_back u p q hp hq none =
    sym (nothing_is u q p (ap (push_at u) (distance_symmetric p q hp hq) ∙ none))
