-- Arcs hold the coordinates that they are of, and the gap of two is at most the image of any two coordinates on them.
use Rattle.std.proofs.Common.{ℕ, zero, suc, ◌+◌, ◌-◌, ◌*◌, ◌^◌, ◌<◌, ◌≤◌, ℤ, pos, negsuc, neg_ℤ, ◌+ℤ◌, ◌-ℤ◌, ◌*ℤ◌, ◌≤ℤ◌, ◌<ℤ◌, ◌≡◌, inl, inr, refl, arith, ◌/◌, unsigned_abs, true, false, min, nat_le, ◌||◌, List, length, subst}
use Rattle.std.proofs.lemmas.Int.{ints, int_min_is, int_max_is}
use Rattle.std.proofs.lemmas.Nat.{mul-le}
use Rattle.std.proofs.Math.Nat.{add-le-add}
use Rattle.std.proofs.lemmas.Bool.{cases_lt}
use Rattle.std.proofs.lemmas.Bool.Decides.{nat_tests}
use Rattle.std.specs.Int.{cast_signed, int_min, int_max, w32}
use Rattle.lj_ring.proofs.RingLemmas.{upper_half, turns}
use Rattle.lj_ring.specs.declared.coordinates.Place.{Place}
use Rattle.lj_ring.specs.declared.arcs.Arc.{Arc}
use Rattle.lj_ring.specs.declared.arcs.Spans.{Spans}
use Rattle.lj_ring.specs.Spans.{arc_over, spans_below, wider_spans}
use Rattle.lj_ring.specs.Ring.{image, ring_difference, ring_residue, IsOnRing, place_at, squared_distance, square}
use Rattle.lj_ring.specs.Arcs.{gap, IsOnArc, least_below, greatest_below, offset, arc_along, arcs_of, squared_gap, AreOn}

-- the size of a residue as a signed number
size_of_signed : (n : ℕ) → n < 2 ^ 32 → unsigned_abs (cast_signed w32 n) ≡ min n (2 ^ 32 - n)
size_of_signed n in_n =
    elim (cases_lt n (2 ^ 31)) [
      | inl near ↦ omega (arith, ints)
      | inr far ↦ rw (upper_half n far in_n) (omega (arith, ints))
    ]

-- the way from one coordinate to another, over the starts of the arcs that they lie on
way : (a b p q : ℕ) → a < 2 ^ 32 → b < 2 ^ 32 → p < 2 ^ 32 → q < 2 ^ 32
    → ring_difference p a < ring_difference b a → ring_difference q b < ring_difference a b
    → ring_difference q p ≡ ring_difference b a + ring_difference q b - ring_difference p a
way a b p q in_a in_b in_p in_q before after = omega arith

-- the ways round, there and back
back : (p q : ℕ) → p < 2 ^ 32 → q < 2 ^ 32 → 0 < ring_difference q p → ring_difference p q ≡ 2 ^ 32 - ring_difference q p
back p q in_p in_q some = omega arith

-- two coordinates are at least as far apart, either way round, as the shorter gap between the arcs that they lie on
apart : (a b m n p q : ℕ) → a < 2 ^ 32 → b < 2 ^ 32 → p < 2 ^ 32 → q < 2 ^ 32
    → ring_difference p a ≤ m → ring_difference q b ≤ n → m < ring_difference b a → n < ring_difference a b
    → min (ring_difference b a - m) (ring_difference a b - n) ≤ min (ring_difference p q) (2 ^ 32 - ring_difference p q)
apart a b m n p q in_a in_b in_p in_q on_p on_q before after =
    let w : ring_difference q p ≡ ring_difference b a + ring_difference q b - ring_difference p a =
    way a b p q in_a in_b in_p in_q (omega (arith, on_p, before)) (omega (arith, on_q, after)) in
    let v : ring_difference a b ≡ 2 ^ 32 - ring_difference b a = back a b in_a in_b (omega (arith, before)) in
    let u : ring_difference p q ≡ 2 ^ 32 - ring_difference q p = back p q in_p in_q (omega (arith, w, on_p, before)) in
    shorter (ring_difference b a) (ring_difference a b) (ring_difference p a) (ring_difference q b) (ring_difference p q) (ring_difference q p) m n w v u
    on_p on_q before after (omega arith)
  where
    shorter : (d e s t r l m n : ℕ) → l ≡ d + t - s → e ≡ 2 ^ 32 - d → r ≡ 2 ^ 32 - l
        → s ≤ m → t ≤ n → m < d → n < e → d < 2 ^ 32 → min (d - m) (e - n) ≤ min r (2 ^ 32 - r)
    shorter d e s t r l m n w v u on_p on_q before after in_d = omega arith

-- the gap of two arcs is at most the size of the image of any two coordinates on them
pub gap_least : (a b : Arc) → (p q : ℕ) → a.start < 2 ^ 32 → b.start < 2 ^ 32 → p < 2 ^ 32 → q < 2 ^ 32
    → IsOnArc a p → IsOnArc b q → gap a b ≤ unsigned_abs (image p q)
gap_least a b p q in_a in_b in_p in_q on_p on_q =
    rw (size_of_signed (ring_difference p q) (omega arith))
    (elim (cases_lt a.len (ring_difference b.start a.start)) [
      | inl before ↦
          elim (cases_lt b.len (ring_difference a.start b.start)) [
            | inl after ↦
                let far : (nat_le (ring_difference b.start a.start) a.len || nat_le (ring_difference a.start b.start) b.len) ≡ false =
                grind (arith, nat_tests) in
                rw far (apart a.start b.start a.len b.len p q in_a in_b in_p in_q on_p on_q before after)
            | inr on ↦
                let near : (nat_le (ring_difference b.start a.start) a.len || nat_le (ring_difference a.start b.start) b.len) ≡ true =
                grind (arith, nat_tests) in
                rw near (omega arith)
          ]
      | inr on ↦
          let near : (nat_le (ring_difference b.start a.start) a.len || nat_le (ring_difference a.start b.start) b.len) ≡ true =
          grind (arith, nat_tests) in
          rw near (omega arith)
    ])

-- the lesser of two numbers
lesser : (x y : ℤ) → (int_min x y ≤ℤ x) × (int_min x y ≤ℤ y)
lesser x y = let h = int_min_is x y in (omega (arith, ints, h), omega (arith, ints, h))

-- the greater of two numbers
greater : (x y : ℤ) → (x ≤ℤ int_max x y) × (y ≤ℤ int_max x y)
greater x y = let h = int_max_is x y in (omega (arith, ints, h), omega (arith, ints, h))

-- the lesser of two numbers is no less than what neither is less than
lesser_from : (b x y : ℤ) → b ≤ℤ x → b ≤ℤ y → b ≤ℤ int_min x y
lesser_from b x y h k = let m = int_min_is x y in omega (arith, ints, m, h, k)

-- one after the other
through : (x y z : ℤ) → x ≤ℤ y → y ≤ℤ z → x ≤ℤ z
through x y z h k = omega (arith, ints)

-- the least of some numbers is at most each
least_each : (n : ℕ) → (f : ℕ → ℤ) → (i : ℕ) → i < n → least_below n f ≤ℤ f i
least_each zero f i in_n = absurd (omega (arith, in_n))
least_each (suc n) f i in_n =
    elim (cases_lt i n) [
      | inl before ↦
          through (least_below (suc n) f) (least_below n f) (f i) (lesser (least_below n f) (f n)).0 (least_each n f i before)
      | inr last ↦
          let e : n ≡ i = omega arith in
          subst (λ j. least_below (suc n) f ≤ℤ f j) e (lesser (least_below n f) (f n)).1
    ]

-- the greatest of some numbers is at least each
greatest_each : (n : ℕ) → (f : ℕ → ℤ) → (i : ℕ) → i < n → f i ≤ℤ greatest_below n f
greatest_each zero f i in_n = absurd (omega (arith, in_n))
greatest_each (suc n) f i in_n =
    elim (cases_lt i n) [
      | inl before ↦
          through (f i) (greatest_below n f) (greatest_below (suc n) f) (greatest_each n f i before)
          (greater (greatest_below n f) (f n)).0
      | inr last ↦
          let e : n ≡ i = omega arith in
          subst (λ j. f j ≤ℤ greatest_below (suc n) f) e (greater (greatest_below n f) (f n)).1
    ]

-- the least of some numbers is no less than what all of them are no less than
least_from : (n : ℕ) → (f : ℕ → ℤ) → ((i : ℕ) → neg_ℤ (pos (2 ^ 31)) ≤ℤ f i)
    → neg_ℤ (pos (2 ^ 31)) ≤ℤ least_below n f
least_from zero f each = omega (arith, ints)
least_from (suc n) f each =
    lesser_from (neg_ℤ (pos (2 ^ 31))) (least_below n f) (f n) (least_from n f each) (each n)

-- a coordinate that a whole number comes to is that number but for whole turns
rounds : (z : ℤ) → (k : ℤ) × (pos (ring_residue z) ≡ z +ℤ k *ℤ pos (2 ^ 32))
rounds (pos a) = (neg_ℤ (pos (a / 2 ^ 32)), omega (arith, ints))
rounds (negsuc a) = (pos (a / 2 ^ 32 + 1), omega (arith, ints))

-- that coordinate lies on the ring
in_ring_below : (z : ℤ) → ring_residue z < 2 ^ 32
in_ring_below (pos a) = omega arith
in_ring_below (negsuc a) = omega arith

-- the way from the start of an arc to a coordinate on it
from_start : (c s start : ℕ) → (f lo k turns : ℤ) → c < 2 ^ 32 → start < 2 ^ 32
    → f ≡ pos c -ℤ pos s +ℤ k *ℤ pos (2 ^ 32) → pos start ≡ pos s +ℤ lo +ℤ turns *ℤ pos (2 ^ 32)
    → neg_ℤ (pos (2 ^ 31)) ≤ℤ lo → f <ℤ pos (2 ^ 31) → lo ≤ℤ f
    → ring_difference c start ≡ unsigned_abs (f -ℤ lo)
from_start c s start f lo k turns in_c in_start e begins low high over =
    elim (cases_lt c start) [
      | inl under ↦ let r : ring_difference c start ≡ c + (2 ^ 32 - start) = omega arith in rw r (omega (arith, ints))
      | inr past ↦ let r : ring_difference c start ≡ c - start = omega arith in rw r (omega (arith, ints))
    ]

-- an image lies on the ring's half before or after
image_from : (a b : ℕ) → neg_ℤ (pos (2 ^ 31)) ≤ℤ image a b
image_from a b = omega (arith, ints)

image_to : (a b : ℕ) → image a b <ℤ pos (2 ^ 31)
image_to a b = omega (arith, ints)

-- the size of the arc from the least to the greatest is no less than the way to what lies between
within : (f lo hi : ℤ) → lo ≤ℤ f → f ≤ℤ hi → unsigned_abs (f -ℤ lo) ≤ unsigned_abs (hi -ℤ lo)
within f lo hi over under = omega (arith, ints)

-- each coordinate of some atoms lies on their arc
on_arc_along : (axis : Place → ℕ) → (places : List Place)
    → ((i : ℕ) → i < length places → axis (place_at places i) < 2 ^ 32) → (i : ℕ) → i < length places
    → IsOnArc (arc_along axis places) (axis (place_at places i))
on_arc_along axis places on_ring i in_n =
    let n = length places in
    let f = offset axis places in
    let c = axis (place_at places i) in
    let s = axis (place_at places 0) in
    let lo = least_below n f in
    let t = turns c s (on_ring i in_n) (on_ring 0 (omega (arith, in_n))) in
    let r = rounds (pos s +ℤ lo) in
    let e : ring_difference c (ring_residue (pos s +ℤ lo)) ≡ unsigned_abs (f i -ℤ lo) =
    from_start c s (ring_residue (pos s +ℤ lo)) (f i) lo t.0 r.0 (on_ring i in_n) (in_ring_below (pos s +ℤ lo)) t.1 r.1
    (least_from n f (λ j. image_from (axis (place_at places j)) s)) (image_to c s) (least_each n f i in_n) in
    rw e (within (f i) lo (greatest_below n f) (least_each n f i in_n) (greatest_each n f i in_n))

-- what is at most another has at most its square
squared : (a : ℕ) → (z : ℤ) → a ≤ unsigned_abs z → a * a ≤ square z
squared a z h = mul-le a a (unsigned_abs z) (unsigned_abs z) h h

-- the coordinates of some atoms lie on their arcs, axis by axis
pub on_arc_of : (places : List Place) → ((i : ℕ) → i < length places → IsOnRing (place_at places i))
    → AreOn (arcs_of places) places
unfolding arcs_of
on_arc_of places on_ring i in_n = record {
  x = on_arc_along (λ p. p.x) places (λ j h. (on_ring j h).x) i in_n;
  y = on_arc_along (λ p. p.y) places (λ j h. (on_ring j h).y) i in_n;
  z = on_arc_along (λ p. p.z) places (λ j h. (on_ring j h).z) i in_n;
}

-- along one axis, the square of the gap is at most that of the image of any two atoms' coordinates
gap_along : (axis : Place → ℕ) → (ps qs : List Place)
    → ((i : ℕ) → i < length ps → axis (place_at ps i) < 2 ^ 32)
    → ((i : ℕ) → i < length qs → axis (place_at qs i) < 2 ^ 32) → (i j : ℕ) → i < length ps → j < length qs
    → gap (arc_along axis ps) (arc_along axis qs) * gap (arc_along axis ps) (arc_along axis qs)
    ≤ square (image (axis (place_at ps i)) (axis (place_at qs j)))
gap_along axis ps qs ring_p ring_q i j in_p in_q =
    let start : List Place → ℤ = λ places.
    pos (axis (place_at places 0)) +ℤ least_below (length places) (offset axis places) in
    squared (gap (arc_along axis ps) (arc_along axis qs)) (image (axis (place_at ps i)) (axis (place_at qs j)))
    (gap_least (arc_along axis ps) (arc_along axis qs) (axis (place_at ps i)) (axis (place_at qs j))
    (in_ring_below (start ps)) (in_ring_below (start qs)) (ring_p i in_p) (ring_q j in_q)
    (on_arc_along axis ps ring_p i in_p) (on_arc_along axis qs ring_q j in_q))

-- the squared gap of two blocks is at most the squared distance of any atom of one from any of the other
pub squared_gap_least : (ps qs : List Place)
    → ((i : ℕ) → i < length ps → IsOnRing (place_at ps i))
    → ((i : ℕ) → i < length qs → IsOnRing (place_at qs i)) → (i j : ℕ) → i < length ps → j < length qs
    → squared_gap (arcs_of ps) (arcs_of qs) ≤ squared_distance (place_at ps i) (place_at qs j)
unfolding arcs_of
squared_gap_least ps qs ring_p ring_q i j in_p in_q =
    add-le-add (add-le-add
    (gap_along (λ p. p.x) ps qs (λ k h. (ring_p k h).x) (λ k h. (ring_q k h).x) i j in_p in_q)
    (gap_along (λ p. p.y) ps qs (λ k h. (ring_p k h).y) (λ k h. (ring_q k h).y) i j in_p in_q))
    (gap_along (λ p. p.z) ps qs (λ k h. (ring_p k h).z) (λ k h. (ring_q k h).z) i j in_p in_q)

-- spans widened by the next place
pub next_spans : (spans more : Spans) → (places : List Place) → (n : ℕ) → (first : Place) → (place : Place)
    → spans ≡ spans_below n places → more ≡ wider_spans spans place first → first ≡ place_at places 0
    → place ≡ place_at places n → more ≡ spans_below (n + 1) places
next_spans spans more places n first place held is at_first at_n =
    let e : suc n ≡ n + 1 = omega arith in
    subst (λ m. more ≡ spans_below m places) e (cc (is, held, at_first, at_n))

-- the arcs that the spans of all places make
pub arcs_of_spans : (spans : Spans) → (places : List Place) → (first : Place) → (x y z : Arc)
    → spans ≡ spans_below (length places) places → first ≡ place_at places 0
    → x ≡ arc_over spans.x first.x → y ≡ arc_over spans.y first.y → z ≡ arc_over spans.z first.z
    → record { x = x; y = y; z = z } ≡ arcs_of places
unfolding arcs_of
arcs_of_spans spans places first x y z held at_first is_x is_y is_z =
    rw (is_x, is_y, is_z, held, at_first) refl
