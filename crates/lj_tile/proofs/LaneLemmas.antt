-- Choices between numbers in eight lanes.
use Rattle.std.proofs.Common.{ℕ, ◌-◌, ◌^◌, ◌<◌, ◌≡◌, Bool, true, false, cond, ltb, leb, bit_xor, refl, if◌then◌else◌, List, length, get_or, map, replicate, ap, sym, ◌∙◌, arith}
use Rattle.std.specs.Simd.Lanes.{zip2, sel_l, top}
use Rattle.std.proofs.lemmas.List.{length-map, get_or-map, length-replicate}
use Rattle.std.proofs.lemmas.Simd.{length-zip2, get_or-sel_l}
use Rattle.lj_ring.proofs.LaneLemmas.{both_lanes, splat_left}

-- lanes of masks: of the numbers from n on, and of those above n
abbrev pub mask_from : ℕ → ℕ → ℕ
mask_from n x = cond (leb n x) (2 ^ 32 - 1) 0

abbrev pub mask_above : ℕ → ℕ → ℕ
mask_above n x = cond (ltb n x) (2 ^ 32 - 1) 0

-- of two masks the one or the other, but not both
abbrev either_choice : Bool → Bool → ℕ → ℕ → ℕ
either_choice a b x y = if a then (if b then y else x) else (if b then x else y)

one_of : (a b : Bool) (x y : ℕ)
    → cond (top 31 (bit_xor (cond a (2 ^ 32 - 1) 0) (cond b (2 ^ 32 - 1) 0))) x y ≡ either_choice a b x y
one_of true true x y = refl
one_of true false x y = refl
one_of false true x y = refl
one_of false false x y = refl

pub choice_lanes : (m n : ℕ) (v w x y : List ℕ) → length v ≡ 8 → length w ≡ 8 → length x ≡ 8 → length y ≡ 8
    → (k : ℕ) → k < 8
    → get_or (sel_l (map (top 31) (zip2 bit_xor (zip2 mask_from (replicate 8 m) v)
    (zip2 mask_above (replicate 8 n) w))) x y) k 0
    ≡ either_choice (leb m (get_or v k 0)) (ltb n (get_or w k 0)) (get_or x k 0) (get_or y k 0)
choice_lanes m n v w x y p q r s k l =
    let first = zip2 mask_from (replicate 8 m) v in
    let second = zip2 mask_above (replicate 8 n) w in
    let splat_m : length (replicate 8 m) ≡ 8 = length-replicate {A = ℕ} 8 m in
    let splat_n : length (replicate 8 n) ≡ 8 = length-replicate {A = ℕ} 8 n in
    let f : length first ≡ 8 = length-zip2 mask_from (replicate 8 m) v (splat_m ∙ sym p) ∙ splat_m in
    let g : length second ≡ 8 = length-zip2 mask_above (replicate 8 n) w (splat_n ∙ sym q) ∙ splat_n in
    let masks = zip2 bit_xor first second in
    let h : length masks ≡ 8 = length-zip2 bit_xor first second (f ∙ sym g) ∙ f in
    let tops : length (map (top 31) masks) ≡ 8 = length-map masks (top 31) ∙ h in
    get_or-sel_l (map (top 31) masks) x y k 0 (omega (arith, tops)) (omega (arith, r)) (omega (arith, s))
    ∙ ap (λ t. cond t (get_or x k 0) (get_or y k 0)) (get_or-map (top 31) masks k 0 false (omega (arith, h)))
    ∙ ap (λ t. cond (top 31 t) (get_or x k 0) (get_or y k 0)) (both_lanes 8 bit_xor first second f g k l)
    ∙ ap (λ t. cond (top 31 (bit_xor t (get_or second k 0))) (get_or x k 0) (get_or y k 0))
    (splat_left 8 mask_from v m p k l)
    ∙ ap (λ t. cond (top 31 (bit_xor (cond (leb m (get_or v k 0)) (2 ^ 32 - 1) 0) t)) (get_or x k 0) (get_or y k 0))
    (splat_left 8 mask_above w n q k l)
    ∙ one_of (leb m (get_or v k 0)) (ltb n (get_or w k 0)) (get_or x k 0) (get_or y k 0)
