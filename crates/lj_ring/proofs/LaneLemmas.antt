-- Numbers in lanes.
use Rattle.std.proofs.Common.{ℕ, ◌-◌, ◌^◌, ◌<◌, ◌≤◌, ◌≡◌, min, max, Bool, true, false, cond, ltb, pos, List, length, get_or, map, replicate, refl, ap, sym, ◌∙◌, Fits, w16, to_z, arith}
use mir.Syntax.{Width}
use mir.Val.{bits, hbits}
use Rattle.std.specs.Simd.Lanes.{zip2, sel_l, top, Each1}
use Rattle.std.proofs.lemmas.List.{get_or-map, get_or-replicate, length-map, length-replicate}
use Rattle.std.proofs.lemmas.Bool.{ltb-false, ltb-true}
use Rattle.std.proofs.lemmas.Int.{to_z_pos}
use Rattle.std.proofs.lemmas.Simd.{Each1-get_or, get_or-zip2, length-zip2, length-sel_l, tops_compared, get_or-sel_l}
use Rattle.lj_ring.specs.LaneArithmetic.{wrapping_sub}

-- two vectors lane by lane
pub both_lanes : (n : ℕ) (f : ℕ → ℕ → ℕ) (v w : List ℕ) → length v ≡ n → length w ≡ n → (k : ℕ) → k < n
    → get_or (zip2 f v w) k 0 ≡ f (get_or v k 0) (get_or w k 0)
both_lanes n f v w p q k l = get_or-zip2 f v w k 0 0 0 (omega (arith, p, l)) (omega (arith, q, l))

-- each lane with one number
pub splat_lanes : (n : ℕ) (f : ℕ → ℕ → ℕ) (v : List ℕ) (m : ℕ) → length v ≡ n → (k : ℕ) → k < n
    → get_or (zip2 f v (replicate n m)) k 0 ≡ f (get_or v k 0) m
splat_lanes n f v m long k l =
    both_lanes n f v (replicate n m) long (length-replicate {A = ℕ} n m) k l ∙ ap (f (get_or v k 0)) (get_or-replicate n k m 0 l)

-- one number with each lane
pub splat_left : (n : ℕ) (f : ℕ → ℕ → ℕ) (v : List ℕ) (m : ℕ) → length v ≡ n → (k : ℕ) → k < n
    → get_or (zip2 f (replicate n m) v) k 0 ≡ f m (get_or v k 0)
splat_left n f v m long k l =
    both_lanes n f (replicate n m) v (length-replicate {A = ℕ} n m) long k l ∙ ap (λ x. f x (get_or v k 0)) (get_or-replicate n k m 0 l)

-- the mask of a lane that is less than another
abbrev pub is_less : Width → ℕ → ℕ → ℕ
is_less w a b = cond (ltb a b) (2 ^ bits w - 1) 0

-- lanes of u where one is less than another, and else of v
abbrev pub chosen : Width → (a b u v : List ℕ) → List ℕ
chosen w a b u v = sel_l (map (top (hbits w)) (zip2 (is_less w) a b)) u v

pub chosen_lanes : (w : Width) (n : ℕ) (a b u v : List ℕ) → length a ≡ n → length b ≡ n → length u ≡ n → length v ≡ n → (k : ℕ) → k < n
    → get_or (chosen w a b u v) k 0 ≡ cond (ltb (get_or a k 0) (get_or b k 0)) (get_or u k 0) (get_or v k 0)
chosen_lanes w n a b u v a_long b_long u_long v_long k l =
    let long : length (zip2 ltb a b) ≡ n = length-zip2 ltb a b (a_long ∙ sym b_long) ∙ a_long in
    ap (λ ms. get_or (sel_l ms u v) k 0) (tops_compared w ltb a b)
    ∙ get_or-sel_l (zip2 ltb a b) u v k 0 (omega (arith, long, l)) (omega (arith, u_long, l)) (omega (arith, v_long, l))
    ∙ ap (λ t. cond t (get_or u k 0) (get_or v k 0)) (get_or-zip2 ltb a b k 0 0 false (omega (arith, a_long, l)) (omega (arith, b_long, l)))

pub length-chosen : (w : Width) (n : ℕ) (a b u v : List ℕ) → length a ≡ n → length b ≡ n → length u ≡ n → length v ≡ n
    → length (chosen w a b u v) ≡ n
length-chosen w n a b u v a_long b_long u_long v_long =
    let long : length (zip2 ltb a b) ≡ n = length-zip2 ltb a b (a_long ∙ sym b_long) ∙ a_long in
    ap (λ ms. length (sel_l ms u v)) (tops_compared w ltb a b)
    ∙ length-sel_l (zip2 ltb a b) u v (long ∙ sym u_long) (long ∙ sym v_long) ∙ long

chosen_min : (t : Bool) (a b : ℕ) → ltb a b ≡ t → cond t a b ≡ min a b
chosen_min true a b e = let less : a < b = ltb-true a b e in omega (arith, less)
chosen_min false a b e = let more : b ≤ a = ltb-false a b e in omega (arith, more)

chosen_max : (t : Bool) (a b : ℕ) → ltb a b ≡ t → cond t b a ≡ max a b
chosen_max true a b e = let less : a < b = ltb-true a b e in omega (arith, less)
chosen_max false a b e = let more : b ≤ a = ltb-false a b e in omega (arith, more)

-- the lesser of two lanes
pub min_lanes : (w : Width) (n : ℕ) (a b : List ℕ) → length a ≡ n → length b ≡ n → (k : ℕ) → k < n
    → get_or (chosen w a b a b) k 0 ≡ min (get_or a k 0) (get_or b k 0)
min_lanes w n a b p q k l =
    chosen_lanes w n a b a b p q p q k l ∙ chosen_min (ltb (get_or a k 0) (get_or b k 0)) (get_or a k 0) (get_or b k 0) refl

-- the greater of two lanes
pub max_lanes : (w : Width) (n : ℕ) (a b : List ℕ) → length a ≡ n → length b ≡ n → (k : ℕ) → k < n
    → get_or (chosen w a b b a) k 0 ≡ max (get_or a k 0) (get_or b k 0)
max_lanes w n a b p q k l =
    chosen_lanes w n a b b a p q q p k l ∙ chosen_max (ltb (get_or a k 0) (get_or b k 0)) (get_or a k 0) (get_or b k 0) refl

-- the greater of two numbers, less one of them
more_than : (t : Bool) (a b : ℕ) → a < 2 ^ 16 → b < 2 ^ 16 → ltb a b ≡ t → wrapping_sub 16 (cond t b a) b ≡ a - b
more_than true a b p q e = let less : a < b = ltb-true a b e in omega (arith, less, p, q)
more_than false a b p q e = let more : b ≤ a = ltb-false a b e in omega (arith, more, p, q)

-- what the second lane leaves of the first
pub left_lanes : (n : ℕ) (a b : List ℕ) → length a ≡ n → length b ≡ n → Each1 (Fits w16) a → Each1 (Fits w16) b → (k : ℕ) → k < n
    → get_or (zip2 (wrapping_sub 16) (chosen w16 a b b a) b) k 0 ≡ get_or a k 0 - get_or b k 0
left_lanes n a b p q a_fits b_fits k l =
    let more : List ℕ = chosen w16 a b b a in
    let a_fit : Fits w16 (get_or a k 0) = Each1-get_or (Fits w16) a k 0 (omega (arith, p, l)) a_fits in
    let b_fit : Fits w16 (get_or b k 0) = Each1-get_or (Fits w16) b k 0 (omega (arith, q, l)) b_fits in
    both_lanes n (wrapping_sub 16) more b (length-chosen w16 n a b b a p q q p) q k l
    ∙ ap (λ m. wrapping_sub 16 m (get_or b k 0)) (chosen_lanes w16 n a b b a p q q p k l)
    ∙ more_than (ltb (get_or a k 0) (get_or b k 0)) (get_or a k 0) (get_or b k 0) a_fit.fits b_fit.fits refl

-- lanes that are kept as numbers with a sign
pub signed_lanes : (n : ℕ) (f : ℕ → ℕ) (v : List ℕ) → length v ≡ n → ((m : ℕ) → f m ≡ m) → ((k : ℕ) → k < n → get_or v k 0 < 2 ^ 15)
    → (k : ℕ) → k < n → get_or (map (to_z w16) (map f v)) k (pos 0) ≡ pos (get_or v k 0)
signed_lanes n f v long same small k l =
    let kept : length (map f v) ≡ n = length-map v f ∙ long in
    get_or-map (to_z w16) (map f v) k 0 (pos 0) (omega (arith, kept, l))
    ∙ ap (λ m. to_z w16 m) (get_or-map f v k 0 0 (omega (arith, long, l)) ∙ same (get_or v k 0))
    ∙ to_z_pos w16 (get_or v k 0) (small k l)
