-- The test of equal blocks.
use Rattle.std.proofs.Common.{ℕ, ◌≡◌, ◌<◌, ◌&&◌, ◌==◌, Bool, true, false, List, length, get_or, bit_or, bit_xor, refl, sym, ap, ap₂, drop, ◌+◌, ◌≤◌, ◌∷◌, [], ◌∙◌, arith, rules}
use Rattle.std.proofs.Math.Bool.{and_assoc}
use Rattle.std.proofs.lemmas.Nat.{le_or_l, le_or_r, and_le_l, and_le_r}
use Rattle.std.proofs.lemmas.List.{drop_more}
use Rattle.std.proofs.lemmas.Simd.{get_or-zip2}
use Rattle.std.specs.Int.Bits.{or_add_and, xor_add_and, xor_self}
use Rattle.std.specs.Simd.Lanes.{zip2}
use Rattle.std.specs.Bool.{Decides}
use Rattle.std.proofs.lemmas.Slice.Eq.{slice_eq-Decides}
use Rattle.lj_ring.specs.declared.coordinates.Place.{Place}
use Rattle.lj_task.specs.Block.{is_same_place, are_same_places, are_same_lanes, has_none}

place_Decides : (p q : Place) → Decides (is_same_place p q) (p ≡ q)
place_Decides p q = search rules

-- blocks are equal where the test says so
pub places_Decides : (xs ys : List Place) (r : Bool) → r ≡ are_same_places xs ys → Decides r (xs ≡ ys)
places_Decides xs ys r e = slice_eq-Decides place_Decides xs ys r e

-- a bit is set in one of two numbers, or both are 0
or_is_zero : (a b : ℕ) → (bit_or a b == 0) ≡ (a == 0 && b == 0)
or_is_zero a b = grind (arith, le_or_l a b, le_or_r a b, or_add_and a b)

xor_by : (a b : ℕ) → (a ≡ b → bit_xor a b ≡ 0) → (bit_xor a b == 0) ≡ (a == b)
xor_by a b same = grind (arith, same, xor_add_and a b, and_le_l a b, and_le_r a b)

-- two numbers differ in some bit, or are equal
xor_is_zero : (a b : ℕ) → (bit_xor a b == 0) ≡ (a == b)
xor_is_zero a b = xor_by a b (λ same. ap (λ n. bit_xor n b) same ∙ xor_self b)

exchange : (a b c d : Bool) → ((a && b) && (c && d)) ≡ ((a && c) && (b && d))
exchange true true c d = refl
exchange true false true d = refl
exchange true false false d = refl
exchange false b c d = refl

-- two vectors lane by lane
four_lanes : (f : ℕ → ℕ → ℕ) (v w : List ℕ) → length v ≡ 4 → length w ≡ 4 → (k : ℕ) → k < 4
    → get_or (zip2 f v w) k 0 ≡ f (get_or v k 0) (get_or w k 0)
four_lanes f v w p q k l = get_or-zip2 f v w k 0 0 0 (omega (arith, p, l)) (omega (arith, q, l))

module _ (v w : List ℕ) (p : length v ≡ 4) (q : length w ≡ 4) where
  or_at : (k : ℕ) → k < 4 → (get_or (zip2 bit_or v w) k 0 == 0) ≡ (get_or v k 0 == 0 && get_or w k 0 == 0)
  or_at k l = ap (λ n. n == 0) (four_lanes bit_or v w p q k l) ∙ or_is_zero (get_or v k 0) (get_or w k 0)

  xor_at : (k : ℕ) → k < 4 → (get_or (zip2 bit_xor v w) k 0 == 0) ≡ (get_or v k 0 == get_or w k 0)
  xor_at k l = ap (λ n. n == 0) (four_lanes bit_xor v w p q k l) ∙ xor_is_zero (get_or v k 0) (get_or w k 0)

  -- no bit is set in either of two vectors
  pub none_in_either : has_none (zip2 bit_or v w) ≡ (has_none v && has_none w)
  none_in_either =
      let first = exchange (get_or v 0 0 == 0) (get_or w 0 0 == 0) (get_or v 1 0 == 0) (get_or w 1 0 == 0) in
      let last = exchange (get_or v 2 0 == 0) (get_or w 2 0 == 0) (get_or v 3 0 == 0) (get_or w 3 0 == 0) in
      ap₂ ◌&&◌ (ap₂ ◌&&◌ (or_at 0 (omega arith)) (or_at 1 (omega arith)) ∙ first)
      (ap₂ ◌&&◌ (or_at 2 (omega arith)) (or_at 3 (omega arith)) ∙ last)
      ∙ exchange (get_or v 0 0 == 0 && get_or v 1 0 == 0) (get_or w 0 0 == 0 && get_or w 1 0 == 0)
      (get_or v 2 0 == 0 && get_or v 3 0 == 0) (get_or w 2 0 == 0 && get_or w 3 0 == 0)

  -- two vectors that differ in no bit
  pub none_between : has_none (zip2 bit_xor v w) ≡ are_same_lanes v w
  none_between =
      ap₂ ◌&&◌ (ap₂ ◌&&◌ (xor_at 0 (omega arith)) (xor_at 1 (omega arith)))
      (ap₂ ◌&&◌ (xor_at 2 (omega arith)) (xor_at 3 (omega arith)))

-- no bit is set in any of four numbers
pub none_of_four : (a b c d : ℕ) → (bit_or (bit_or (bit_or a b) c) d == 0) ≡ (a == 0 && b == 0 && (c == 0 && d == 0))
none_of_four a b c d =
    or_is_zero (bit_or (bit_or a b) c) d
    ∙ ap (λ t. t && d == 0) (or_is_zero (bit_or a b) c ∙ ap (λ t. t && c == 0) (or_is_zero a b))
    ∙ and_assoc (a == 0 && b == 0) (c == 0) (d == 0)

-- coordinates of four places, four by four and three by three
pub by_places : (a b c d e f g h i j k l : Bool)
    → (a && b && (c && d) && (e && f && (g && h)) && (i && j && (k && l)))
    ≡ (a && b && c && (d && e && f) && (g && h && i) && (j && k && l))
by_places a b c d e f g h i j k l = search (and_assoc)

-- four places, four by four coordinates as they lie
pub same_lanes : (p q r s a b c d : Place)
    → (are_same_lanes (p.x ∷ p.y ∷ p.z ∷ q.x ∷ []) (a.x ∷ a.y ∷ a.z ∷ b.x ∷ [])
    && are_same_lanes (q.y ∷ q.z ∷ r.x ∷ r.y ∷ []) (b.y ∷ b.z ∷ c.x ∷ c.y ∷ [])
    && are_same_lanes (r.z ∷ s.x ∷ s.y ∷ s.z ∷ []) (c.z ∷ d.x ∷ d.y ∷ d.z ∷ []))
    ≡ (is_same_place p a && is_same_place q b && is_same_place r c && is_same_place s d)
same_lanes p q r s a b c d =
    by_places (p.x == a.x) (p.y == a.y) (p.z == a.z) (q.x == b.x) (q.y == b.y) (q.z == b.z) (r.x == c.x) (r.y == c.y)
    (r.z == c.z) (s.x == d.x) (s.y == d.y) (s.z == d.z)

in_order : (a b c d r : Bool) → (a && b && c && d && r) ≡ (a && (b && (c && (d && r))))
in_order a b c d r = search (and_assoc)

-- the places of two lists from one on
module _ (xs ys : List Place) (d : Place) where
  abbrev same : ℕ → Bool
  same i = is_same_place (get_or xs i d) (get_or ys i d)

  abbrev same_from : ℕ → Bool
  same_from i = are_same_places (drop i xs) (drop i ys)

  one_more : (i next : ℕ) → next ≡ i + 1 → i < length xs → length xs ≡ length ys → same_from i ≡ (same i && same_from next)
  one_more i next one l e =
      ap₂ are_same_places (drop_more xs i d l) (drop_more ys i d (omega (arith, l, e)))
      ∙ ap (λ n. same i && same_from n) (sym one)

  pub four_more : (i : ℕ) → i + 4 ≤ length xs → length xs ≡ length ys
      → (same i && same (i + 1) && same (i + 2) && same (i + 3) && same_from (i + 4)) ≡ same_from i
  four_more i l e =
      in_order (same i) (same (i + 1)) (same (i + 2)) (same (i + 3)) (same_from (i + 4))
      ∙ sym (one_more i (i + 1) (omega arith) (omega (arith, l)) e ∙ ap (λ t. same i && t) (one_more (i + 1) (i + 2) (omega arith) (omega (arith, l)) e
      ∙ ap (λ t. same (i + 1) && t) (one_more (i + 2) (i + 3) (omega arith) (omega (arith, l)) e
      ∙ ap (λ t. same (i + 2) && t) (one_more (i + 3) (i + 4) (omega arith) (omega (arith, l)) e))))
