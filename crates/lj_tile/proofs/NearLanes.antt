-- The steps of the quick test, lane by lane.
use Rattle.std.proofs.Common.{ℕ, ◌+◌, ◌-◌, ◌*◌, ◌/◌, ◌%◌, ◌^◌, ◌<◌, ◌≤◌, ◌≡◌, Bool, false, cond, ltb, ℤ, pos, List, length, get_or, map, refl, sym, ap, subst, ◌∙◌, inl, inr, bit_or, w16, max, min, ◌++◌, take, drop, pow_pos, to_z, of_z, arith}
use Rattle.std.specs.Simd.Lanes.{zip2, mask_l, top, chunk, pick_l}
use Rattle.std.specs.List.{range_with_len}
use Rattle.std.specs.Int.{bit_at}
use Rattle.std.specs.Int.Signed.{lt_z}
use Rattle.std.proofs.lemmas.List.{get_or-map, get_or-take, get_or-drop, get_or_append_left, length-map, length-append}
use Rattle.std.proofs.lemmas.List.FromFn.{length-range_with_len}
use Rattle.std.proofs.lemmas.Bool.{cases_lt, ltb-false}
use Rattle.std.proofs.lemmas.Nat.{mod-mul-add}
use Rattle.std.proofs.Math.Nat.{mod-lt}
use Rattle.std.proofs.lemmas.Nat.Bits.{bit_at_or, bit_at_cat_low, bit_at_cat_high}
use Rattle.std.proofs.lemmas.Int.{to_z_pos}
use Rattle.std.proofs.lemmas.Simd.{get_or-zip2, length-zip2, tops_compared, pick_l-range_with_len, get_or-chunk, mask_l-mod, bit_mask_l}
use Rattle.lj_ring.proofs.LaneLemmas.{chosen, min_lanes}
use Rattle.lj_tile.proofs.NearLemmas.{not_set}

-- sixteen lanes of a longer list
pub sixteen_of : (at : ℕ) (v : List ℕ) (k : ℕ) → at + 16 ≤ 64 → k < 16
    → get_or (chunk 0 16 (take (64 - at) (drop at v))) k 0 ≡ get_or v (at + k) 0
sixteen_of at v k in_v l =
    get_or-take 16 (take (64 - at) (drop at v)) k 0 l ∙ get_or-take (64 - at) (drop at v) k 0 (omega (arith, in_v, l)) ∙ get_or-drop at v k 0

-- neighbouring lanes, as they are taken out of a vector
abbrev part : ℕ → ℕ → List ℕ → List ℕ
part at n v = pick_l 0 (v ++ v) (range_with_len at n)

part_lanes : (at n : ℕ) (v : List ℕ) → at + n ≤ length v → (k : ℕ) → k < n → get_or (part at n v) k 0 ≡ get_or v (at + k) 0
part_lanes at n v room k l =
    let twice : length (v ++ v) ≡ length v + length v = length-append v v in
    ap (λ xs. get_or xs k 0) (pick_l-range_with_len 0 (v ++ v) at n (omega (arith, twice, room)))
    ∙ get_or-chunk at n (v ++ v) k 0 l ∙ get_or_append_left v v 0 (at + k) (omega (arith, room, l))

length-part : (at n : ℕ) (v : List ℕ) → length (part at n v) ≡ n
length-part at n v = length-map (range_with_len at n) (λ k. get_or (v ++ v) k 0) ∙ length-range_with_len at n

mod-small : (k n : ℕ) → k < n → k % n ≡ k
mod-small k n l = let none : 0 * n + k ≡ k = omega arith in subst (λ m. m % n ≡ k) none (mod-mul-add 0 n k l)

mod-once : (k n : ℕ) → n ≤ k → k < n + n → n + k % n ≡ k
mod-once k n some l =
    let rest : (1 * n + (k - n)) % n ≡ k - n = mod-mul-add 1 n (k - n) (omega (arith, some, l)) in
    let whole : k ≡ 1 * n + (k - n) = omega (arith, some) in
    let once : k % n ≡ k - n = ap (λ m. m % n) whole ∙ rest in
    omega (arith, once, some)

-- of the lanes of both halves, the lesser ones
abbrev pub min_half : ℕ → List ℕ → List ℕ
min_half n v = chosen w16 (part 0 n v) (part n n v) (part 0 n v) (part n n v)

pub min_of_both : (n : ℕ) (v : List ℕ) → 0 < n → length v ≡ n + n → (k : ℕ) → k < n + n → get_or (min_half n v) (k % n) 0 ≤ get_or v k 0
min_of_both n v some long k l =
    let j : ℕ = k % n in
    let in_half : j < n = mod-lt k some in
    let lane : get_or (min_half n v) j 0 ≡ min (get_or (part 0 n v) j 0) (get_or (part n n v) j 0) =
    min_lanes w16 n (part 0 n v) (part n n v) (length-part 0 n v) (length-part n n v) j in_half in
    let low : get_or (part 0 n v) j 0 ≡ get_or v (0 + j) 0 = part_lanes 0 n v (omega (arith, long)) j in_half in
    let high : get_or (part n n v) j 0 ≡ get_or v (n + j) 0 = part_lanes n n v (omega (arith, long)) j in_half in
    elim (cases_lt k n) [
      | inl first ↦
          let same : 0 + j ≡ k = omega (arith, mod-small k n first) in
          let at : get_or v (0 + j) 0 ≡ get_or v k 0 = ap (λ i. get_or v i 0) same in
          omega (arith, lane, low, at)
      | inr second ↦
          let same : n + j ≡ k = omega (arith, mod-once k n second l) in
          let at : get_or v (n + j) 0 ≡ get_or v k 0 = ap (λ i. get_or v i 0) same in
          omega (arith, lane, high, at)
    ]

-- a mask moved up
abbrev shifted : ℕ → ℕ → ℕ
shifted n by = n * 2 ^ by % 2 ^ 64

abbrev four_masks : ℕ → ℕ → ℕ → ℕ → ℕ
four_masks a b c d = bit_or (bit_or (bit_or a (shifted b 16)) (shifted c 32)) (shifted d 48)

bit_of_shifted : (n by k : ℕ) → by + k < 64 → bit_at (shifted n by) (by + k) ≡ bit_at n k
bit_of_shifted n by k h =
    let moved : ℕ = n * 2 ^ by in
    let whole : moved ≡ moved / 2 ^ 64 * 2 ^ 64 + moved % 2 ^ 64 = omega arith in
    let zero_added : moved ≡ moved + 0 = omega arith in
    let back : by + k - by ≡ k = omega arith in
    sym (bit_at_cat_low (moved / 2 ^ 64) 64 (moved % 2 ^ 64) (by + k) h)
    ∙ ap (λ m. bit_at m (by + k)) (sym whole ∙ zero_added)
    ∙ bit_at_cat_high n by 0 (by + k) (pow_pos by) (omega arith)
    ∙ ap (λ i. bit_at n i) back

-- a bit that neither of two masks has
neither_first : (a b k : ℕ) → bit_at (bit_or a b) k ≡ 0 → bit_at a k ≡ 0
neither_first a b k e = let most : max (bit_at a k) (bit_at b k) ≡ 0 = sym (bit_at_or a b k) ∙ e in omega (arith, most)

neither_second : (a b k : ℕ) → bit_at (bit_or a b) k ≡ 0 → bit_at b k ≡ 0
neither_second a b k e = let most : max (bit_at a k) (bit_at b k) ≡ 0 = sym (bit_at_or a b k) ∙ e in omega (arith, most)

abbrev pub is_less_signed : ℕ → ℕ → ℕ
is_less_signed a b = cond (lt_z (to_z w16 a) (to_z w16 b)) (2 ^ 16 - 1) 0

-- where a bit of the mask is 0, the first number is not below the second
pub not_less_signed : (u v : List ℤ) (a b k : ℕ) → length u ≡ 16 → length v ≡ 16 → k < 16
    → get_or u k (pos 0) ≡ pos a → get_or v k (pos 0) ≡ pos b → a < 2 ^ 15 → b < 2 ^ 15
    → bit_at (mask_l (map (top 15) (zip2 is_less_signed (map (of_z w16) u) (map (of_z w16) v))) % 2 ^ 64) k ≡ 0 → b ≤ a
not_less_signed u v a b k p q l is_a is_b a_small b_small none =
    let less : ℕ → ℕ → Bool = λ x y. lt_z (to_z w16 x) (to_z w16 y) in
    let us : List ℕ = map (of_z w16) u in
    let vs : List ℕ = map (of_z w16) v in
    let us_long : length us ≡ 16 = length-map u (of_z w16) ∙ p in
    let vs_long : length vs ≡ 16 = length-map v (of_z w16) ∙ q in
    let long : length (zip2 less us vs) ≡ 16 = length-zip2 less us vs (us_long ∙ sym vs_long) ∙ us_long in
    let a_lane : get_or us k 0 ≡ a = get_or-map (of_z w16) u k (pos 0) 0 (omega (arith, p, l)) ∙ ap (λ z. of_z w16 z) is_a in
    let b_lane : get_or vs k 0 ≡ b = get_or-map (of_z w16) v k (pos 0) 0 (omega (arith, q, l)) ∙ ap (λ z. of_z w16 z) is_b in
    let lane : get_or (zip2 less us vs) k false ≡ ltb a b =
    get_or-zip2 less us vs k 0 0 false (omega (arith, us_long, l)) (omega (arith, vs_long, l))
    ∙ rw (a_lane, b_lane, to_z_pos w16 a a_small, to_z_pos w16 b b_small) refl in
    let mask : mask_l (map (top 15) (zip2 is_less_signed us vs)) % 2 ^ 64 ≡ mask_l (zip2 less us vs) =
    rw (tops_compared w16 less us vs) (mask_l-mod (zip2 less us vs) 64 (omega (arith, long))) in
    ltb-false a b
    (sym lane ∙ not_set (get_or (zip2 less us vs) k false) (sym (bit_mask_l (zip2 less us vs) k) ∙ ap (λ m. bit_at m k) (sym mask) ∙ none))

-- a bit that no mask of four has, each sixteen bits after the one before
pub first_of_four : (a b c d k : ℕ) → k < 16 → bit_at (four_masks a b c d) k ≡ 0 → bit_at a k ≡ 0
first_of_four a b c d k l e = neither_first a (shifted b 16) k (neither_first _ (shifted c 32) k (neither_first _ (shifted d 48) k e))

pub second_of_four : (a b c d k : ℕ) → k < 16 → bit_at (four_masks a b c d) (16 + k) ≡ 0 → bit_at b k ≡ 0
second_of_four a b c d k l e =
    let h : bit_at (shifted b 16) (16 + k) ≡ 0 = neither_second a _ (16 + k) (neither_first _ (shifted c 32) (16 + k) (neither_first _ (shifted d 48) (16 + k) e)) in
    sym (bit_of_shifted b 16 k (omega (arith, l))) ∙ h

pub third_of_four : (a b c d k : ℕ) → k < 16 → bit_at (four_masks a b c d) (32 + k) ≡ 0 → bit_at c k ≡ 0
third_of_four a b c d k l e =
    let h : bit_at (shifted c 32) (32 + k) ≡ 0 = neither_second (bit_or a (shifted b 16)) (shifted c 32) (32 + k) (neither_first _ (shifted d 48) (32 + k) e) in
    sym (bit_of_shifted c 32 k (omega (arith, l))) ∙ h

pub fourth_of_four : (a b c d k : ℕ) → k < 16 → bit_at (four_masks a b c d) (48 + k) ≡ 0 → bit_at d k ≡ 0
fourth_of_four a b c d k l e = sym (bit_of_shifted d 48 k (omega (arith, l))) ∙ neither_second _ _ (48 + k) e

pub low_bit : (n k : ℕ) → bit_at n (0 + k) ≡ 0 → bit_at n k ≡ 0
low_bit n k none = let e : 0 + k ≡ k = omega arith in subst (λ i. bit_at n i ≡ 0) e none

-- what is true of each of four times sixteen places
pub each_of_four : (P : ℕ → Type 0) → ((k : ℕ) → k < 16 → P (0 + k)) → ((k : ℕ) → k < 16 → P (16 + k)) → ((k : ℕ) → k < 16 → P (32 + k))
    → ((k : ℕ) → k < 16 → P (48 + k)) → (k : ℕ) → k < 64 → P k
each_of_four P first second third fourth k l =
    elim (cases_lt k 32) [
      | inl low ↦ elim (cases_lt k 16) [
        | inl in_first ↦ subst P (omega arith) (first k in_first)
        | inr in_second ↦ subst P (omega (arith, in_second)) (second (k - 16) (omega (arith, low)))
      ]
      | inr high ↦ elim (cases_lt k 48) [
        | inl in_third ↦ subst P (omega (arith, high)) (third (k - 32) (omega (arith, in_third)))
        | inr in_fourth ↦ subst P (omega (arith, in_fourth)) (fourth (k - 48) (omega (arith, l)))
      ]
    ]
