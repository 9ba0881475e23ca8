-- The quick test of which places are near, lane by lane.
use Rattle.std.proofs.Common.{ℕ, zero, suc, ◌+◌, ◌-◌, ◌*◌, ◌/◌, ◌%◌, ◌^◌, ◌<◌, ◌≤◌, ◌≡◌, min, Bool, true, false, cond, ltb, unsigned_abs, List, length, get_or, map, refl, sym, ap, ◌∙◌, bit_and, pow_pos, ◌⊎◌, inl, inr, arith}
use Rattle.std.specs.Simd.Lanes.{mask_l}
use Rattle.std.specs.Int.{bit_at, div_ceil}
use Rattle.std.proofs.lemmas.List.{get_or-map}
use Rattle.std.proofs.lemmas.Bool.{cases_eq, cases_lt, ltb-false, ltb-true}
use Rattle.std.proofs.lemmas.Int.{ints}
use Rattle.std.proofs.lemmas.Nat.{mul-le, mod-mul-add, pow-add, le-div}
use Rattle.std.proofs.Math.Nat.{div-mul-le_self, mod-add-div, mod-lt, div-lt_iff_lt-mul, div-div-eq-div-mul}
use Rattle.std.proofs.lemmas.Grind.{pow_more, div_ceil_times}
use Rattle.std.proofs.lemmas.Nat.Bits.{bit_at_and}
use Rattle.std.proofs.lemmas.Simd.{bit_mask_l}
use Rattle.lj_ring.specs.Ring.{image}
use Rattle.lj_tile.specs.Grains.{grains, grains_between, grains_apart, square_unit}

pub not_set : (t : Bool) → cond {A = ℕ} t 1 0 ≡ 0 → t ≡ false
not_set true e = absurd (omega arith)
not_set false e = refl

-- where a bit of the mask is 0, its lane is not below
pub not_below : (v : List ℕ) (reach k : ℕ) → k < length v → bit_at (mask_l (map (λ x. ltb x reach) v)) k ≡ 0 → reach ≤ get_or v k 0
not_below v reach k l empty =
    let bit : cond {A = ℕ} (get_or (map (λ x. ltb x reach) v) k false) 1 0 ≡ 0 = sym (bit_mask_l (map (λ x. ltb x reach) v) k) ∙ empty in
    ltb-false (get_or v k 0) reach (sym (get_or-map (λ x. ltb x reach) v k 0 false l) ∙ not_set _ bit)

-- a difference in grains as a number with a sign, modulo 2^32
abbrev pub signed_value : ℕ → ℕ
signed_value d = ((d + 2 ^ 15) % 2 ^ 16 + (2 ^ 32 - 2 ^ 15)) % 2 ^ 32

product_turned : (q m : ℕ) → (q + m) * (q + m) ≡ q * (q + 2 * m) + m * m
product_turned q m = omega arith

square_turned : (s q m : ℕ) → s ≡ q + m → q + 2 * m ≡ 2 ^ 32 → m * m < 2 ^ 32 → s * s % 2 ^ 32 ≡ m * m
square_turned s q m whole ring small =
    let product : s * s ≡ q * 2 ^ 32 + m * m = rw whole (product_turned q m ∙ ap (λ r. q * r + m * m) ring) in
    rw product (mod-mul-add q (2 ^ 32) (m * m) small)

square_either : (t : Bool) (d : ℕ) → d < 2 ^ 16 → ltb d (2 ^ 15) ≡ t
    → signed_value d * signed_value d % 2 ^ 32 ≡ min d (2 ^ 16 - d) * min d (2 ^ 16 - d)
square_either true d h e =
    let below : d < 2 ^ 15 = ltb-true d (2 ^ 15) e in
    let small : d * d ≤ 2 ^ 15 * 2 ^ 15 = mul-le d d (2 ^ 15) (2 ^ 15) (omega (arith, below)) (omega (arith, below)) in
    let value : signed_value d ≡ d = omega (arith, below) in
    let size : min d (2 ^ 16 - d) ≡ d = omega (arith, below) in
    rw (value, size) (omega (arith, small))
square_either false d h e =
    let above : 2 ^ 15 ≤ d = ltb-false d (2 ^ 15) e in
    let m : ℕ = 2 ^ 16 - d in
    let small : m * m ≤ 2 ^ 15 * 2 ^ 15 = mul-le m m (2 ^ 15) (2 ^ 15) (omega (arith, above)) (omega (arith, above)) in
    let size : min d (2 ^ 16 - d) ≡ m = omega (arith, above) in
    rw size (square_turned (signed_value d) (2 ^ 32 - 2 * m) m (omega (arith, above)) (omega (arith, above)) (omega (arith, small)))

-- the square of a difference with a sign is that of its size
pub square_is : (d : ℕ) → d < 2 ^ 16 → signed_value d * signed_value d % 2 ^ 32 ≡ min d (2 ^ 16 - d) * min d (2 ^ 16 - d)
square_is d h = square_either (ltb d (2 ^ 15)) d h refl

-- the ring of 2^16 makes no way longer
size_up : (a b n w : ℕ) → a + n ≡ b + w * 2 ^ 16 → grains_apart (b % 2 ^ 16) (a % 2 ^ 16) ≤ n
size_up a b n w e = omega (arith, e)

turned : (a b : ℕ) → grains_apart (a % 2 ^ 16) (b % 2 ^ 16) ≡ grains_apart (b % 2 ^ 16) (a % 2 ^ 16)
turned a b = omega arith

scaled : (a n b m u : ℕ) → a + n ≡ b + m → a * u + n * u ≡ b * u + m * u
scaled a n b m u e = let right : (a + n) * u ≡ (b + m) * u = ap (λ s. s * u) e in omega (arith, right)

-- a coordinate between the grain that it is in and the next
cut_least : (a u : ℕ) → a / u * u ≤ a
cut_least a u = div-mul-le_self a u

cut_most : (a u : ℕ) → 1 ≤ u → a < a / u * u + u
cut_most a u some = omega (arith, mod-add-div a u, mod-lt a some)

-- one way from a up to b, of n grains
way_up : (a b n w u z : ℕ) → 1 ≤ u → a / u + n ≡ b / u + w * 2 ^ 16 → a + z ≡ b + w * 2 ^ 16 * u
    → grains_apart (b / u % 2 ^ 16) (a / u % 2 ^ 16) * u < z + u
way_up a b n w u z some e whole =
    let c : ℕ = grains_apart (b / u % 2 ^ 16) (a / u % 2 ^ 16) in
    let few : c * u ≤ n * u = mul-le c u n u (size_up (a / u) (b / u) n w e) (omega arith) in
    omega (arith, few, scaled (a / u) n (b / u) (w * 2 ^ 16) u e, cut_most a u some, cut_least b u, whole)

way_down : (a b n w u z : ℕ) → 1 ≤ u → b / u + n ≡ a / u + w * 2 ^ 16 → b + z ≡ a + w * 2 ^ 16 * u
    → grains_apart (b / u % 2 ^ 16) (a / u % 2 ^ 16) * u < z + u
way_down a b n w u z some e whole = rw (turned (b / u) (a / u)) (way_up b a n w u z some e whole)

-- the ring units of the box, by turns of the ring of 2^16 grains
turns_are : (grain : ℕ) → grain ≤ 16 → 2 ^ (16 - grain) * 2 ^ 16 * 2 ^ grain ≡ 2 ^ 32
turns_are grain most =
    let all : 16 - grain + grain ≡ 16 = omega (arith, most) in
    let power : 2 ^ (16 - grain) * 2 ^ grain ≡ 2 ^ 16 = sym (pow-add 2 (16 - grain) grain) ∙ ap (λ e. 2 ^ e) all in
    omega (arith, power)

-- the image's size is the way from the one to the other, on this side or round the box
image_ways : (a b : ℕ) → a < 2 ^ 32 → b < 2 ^ 32 → let z = unsigned_abs (image a b) in
    ((a ≡ b + z) ⊎ (b ≡ a + z)) ⊎ ((a + z ≡ b + 2 ^ 32) ⊎ (b + z ≡ a + 2 ^ 32))
image_ways a b p q = grind (arith, ints)

-- the size in grains is at most that of the image, but for the grain that was cut off
size_least : (grain a b : ℕ) → grain ≤ 16 → a < 2 ^ 32 → b < 2 ^ 32
    → grains_apart (grains grain b) (grains grain a) * 2 ^ grain < unsigned_abs (image a b) + 2 ^ grain
size_least grain a b most p q =
    let u : ℕ = 2 ^ grain in
    let w : ℕ = 2 ^ (16 - grain) in
    let z : ℕ = unsigned_abs (image a b) in
    let some : 1 ≤ u = omega (arith, pow_pos grain) in
    let box : w * 2 ^ 16 * u ≡ 2 ^ 32 = turns_are grain most in
    let a_in : a / u < w * 2 ^ 16 = (div-lt_iff_lt-mul {x = a} {y = w * 2 ^ 16} some).1 (omega (arith, p, box)) in
    let b_in : b / u < w * 2 ^ 16 = (div-lt_iff_lt-mul {x = b} {y = w * 2 ^ 16} some).1 (omega (arith, q, box)) in
    elim (image_ways a b p q) [
      | inl direct ↦ elim direct [
        | inl e ↦
            let up : b / u ≤ a / u = le-div (b / u) a u some (omega (arith, cut_least b u, e)) in
            way_down a b (a / u - b / u) 0 u z some (omega (arith, up)) (omega (arith, e))
        | inr e ↦
            let up : a / u ≤ b / u = le-div (a / u) b u some (omega (arith, cut_least a u, e)) in
            way_up a b (b / u - a / u) 0 u z some (omega (arith, up)) (omega (arith, e))
      ]
      | inr round ↦ elim round [
        | inl e ↦ way_up a b (b / u + w * 2 ^ 16 - a / u) w u z some (omega (arith, a_in)) (omega (arith, e, box))
        | inr e ↦ way_down a b (a / u + w * 2 ^ 16 - b / u) w u z some (omega (arith, b_in)) (omega (arith, e, box))
      ]
    ]

square_least : (c z u : ℕ) → 1 ≤ u → c ≤ 2 ^ 15 → c * u < z + u → c * c * (u * u) < z * z + 2 ^ 16 * (u * u)
square_least zero z u some small h = let square : 1 * 1 ≤ u * u = mul-le 1 1 u u some some in omega (arith, square)
square_least (suc c) z u some small h =
    let w : ℕ = c * u + 1 in
    let least : w * w ≤ z * z = mul-le w w z z (omega (arith, h)) (omega (arith, h)) in
    let cut : (2 * c + 1) * (u * u) ≤ 65535 * (u * u) = mul-le (2 * c + 1) (u * u) 65535 (u * u) (omega (arith, small)) (omega arith) in
    let square : 1 * 1 ≤ u * u = mul-le 1 1 u u some some in
    omega (arith, least, cut, square)

-- the square of a way round the ring of grains, that is at most the image's and what was cut off, is less than its square
-- and one unit
way_least : (grain o z : ℕ) → o ≤ 2 ^ 15 → o * 2 ^ grain < z + 2 ^ grain → o * o / 2 ^ 16 * square_unit grain < z * z + square_unit grain
way_least grain o z small h =
    let u : ℕ = 2 ^ grain in
    let least : o * o * (u * u) < z * z + 2 ^ 16 * (u * u) = square_least o z u (omega (arith, pow_pos grain)) small h in
    let whole : o * o / 2 ^ 16 * 2 ^ 16 * (u * u) ≤ o * o * (u * u) =
    mul-le (o * o / 2 ^ 16 * 2 ^ 16) (u * u) (o * o) (u * u) (omega arith) (omega arith) in
    omega (arith, least, whole)

-- the coarse square is less than the square of the image and one unit
pub coarse_least : (grain a b : ℕ) → grain ≤ 16 → a < 2 ^ 32 → b < 2 ^ 32
    → let o = grains_apart (grains grain b) (grains grain a) in
    o * o / 2 ^ 16 * square_unit grain < unsigned_abs (image a b) * unsigned_abs (image a b) + square_unit grain
coarse_least grain a b most p q =
    way_least grain (grains_apart (grains grain b) (grains grain a)) (unsigned_abs (image a b)) (omega arith) (size_least grain a b most p q)

pub coarse_small : (o : ℕ) → o ≤ 2 ^ 15 → o * o / 2 ^ 16 ≤ 2 ^ 14
coarse_small o h = let small : o * o ≤ 2 ^ 15 * 2 ^ 15 = mul-le o o (2 ^ 15) (2 ^ 15) h h in omega (arith, small)

-- two ways from the middle of a span differ by at most the way between their ends
apart_least : (a b m h : ℕ) → a < 2 ^ 16 → b < 2 ^ 16 → grains_apart b m ≤ h → grains_apart a m - h ≤ grains_apart b a
apart_least a b m h in_a in_b inside = omega (arith, inside, in_a, in_b)

-- how far a coordinate lies outside of a span is at most how far it is from one inside
pub outside_least : (a b m h : ℕ) → a < 2 ^ 32 → b < 2 ^ 32 → grains_apart (grains 16 b) m ≤ h
    → let o = grains_apart (grains 16 a) m - h in
    o * o / 2 ^ 16 * square_unit 16 < unsigned_abs (image a b) * unsigned_abs (image a b) + square_unit 16
outside_least a b m h p q inside =
    let o : ℕ = grains_apart (grains 16 a) m - h in
    let c : ℕ = grains_apart (grains 16 b) (grains 16 a) in
    let few : o ≤ c = apart_least (grains 16 a) (grains 16 b) m h (omega arith) (omega arith) inside in
    way_least 16 o (unsigned_abs (image a b)) (omega arith) (omega (arith, few, size_least 16 a b (omega arith) p q))

-- a coordinate between the least and the greatest lies in the span that is made of them
pub in_interval : (g start least greatest wide : ℕ) → start < 2 ^ 16 → wide ≡ greatest - least
    → least ≤ grains_between g start → grains_between g start ≤ greatest
    → let half = wide / 2 + 1 in
    grains_apart g (((start + least) % 2 ^ 16 + half) % 2 ^ 16) ≤ half
in_interval g start least greatest wide in_start is over under = omega (arith, in_start, is, over, under)

-- a sum of coarse squares is at most the squared distance and three units
pub distance_least : (reach cx cy cz x y z unit : ℕ) → reach ≤ cx + cy + cz
    → cx * unit < x * x + unit → cy * unit < y * y + unit → cz * unit < z * z + unit
    → reach * unit ≤ x * x + y * y + z * z + 3 * unit
distance_least reach cx cy cz x y z unit h p q r =
    let whole : reach * unit ≤ (cx + cy + cz) * unit = mul-le reach unit (cx + cy + cz) unit h (omega arith) in
    omega (arith, whole, p, q, r)

-- one image as long as a span makes the distance so
pub far_x : (s x y z : ℕ) → s ≤ x → s * s ≤ x * x + y * y + z * z
far_x s x y z h = let least : s * s ≤ x * x = mul-le s s x x h h in omega (arith, least)

pub far_y : (s x y z : ℕ) → s ≤ y → s * s ≤ x * x + y * y + z * z
far_y s x y z h = let least : s * s ≤ y * y = mul-le s s y y h h in omega (arith, least)

pub far_z : (s x y z : ℕ) → s ≤ z → s * s ≤ x * x + y * y + z * z
far_z s x y z h = let least : s * s ≤ z * z = mul-le s s z z h h in omega (arith, least)

-- a bit that two masks have not both
pub bit_of_either : (a b k : ℕ) → bit_at (bit_and a b) k ≡ 0 → (bit_at a k ≡ 0) ⊎ (bit_at b k ≡ 0)
bit_of_either a b k e =
    let both : min (bit_at a k) (bit_at b k) ≡ 0 = sym (bit_at_and a b k) ∙ e in
    elim (cases_eq (bit_at a k) 0) [
      | inl none ↦ inl none
      | inr some ↦ inr (omega (arith, both, some))
    ]

one_more : (q d n : ℕ) → q < n → q * d + d ≤ n * d
one_more q d n h = let more : (q + 1) * d ≤ n * d = mul-le (q + 1) d n d (omega (arith, h)) (omega arith) in omega (arith, more)

-- a reach that is few grains has yet fewer than four times as many of the next
pub finer : (reach grain : ℕ) → 0 < grain → reach / 2 ^ grain / 2 ^ grain < 2 ^ 20
    → reach < 2 ^ 22 * (2 ^ (grain - 1) * 2 ^ (grain - 1))
finer reach zero some h = absurd (omega (arith, some))
finer reach (suc grain) some h =
    let u : ℕ = 2 ^ grain in
    let v : ℕ = 2 ^ suc grain in
    let twice : v ≡ 2 * u = omega (arith, pow_more 2 grain) in
    let square : 1 * 1 ≤ v * v = mul-le 1 1 v v (omega (arith, pow_pos (suc grain))) (omega (arith, pow_pos (suc grain))) in
    let few : reach / (v * v) < 2 ^ 20 = rw (div-div-eq-div-mul reach v v) at h in
    let below : reach < 2 ^ 20 * (v * v) =
    omega (arith, one_more (reach / (v * v)) (v * v) (2 ^ 20) few, cut_most reach (v * v) square) in
    let squares : v * v ≡ 4 * (u * u) = rw twice (omega arith) in
    let before : suc grain - 1 ≡ grain = omega arith in
    rw before (omega (arith, below, squares))

-- a quotient rounded up, times what was divided by, and three of that
pub rounded_up : (reach side grain_side : ℕ) → side ≡ grain_side → 1 ≤ side → side ≤ 2 ^ 16
    → reach + 3 * (2 ^ 16 * (grain_side * grain_side))
    ≤ (div_ceil reach (side * side * 65536 % 2 ^ 64) + 3) * (2 ^ 16 * (grain_side * grain_side))
rounded_up reach side grain_side e some most =
    let least : 1 * 1 ≤ side * side = mul-le 1 1 side side some some in
    let small : side * side ≤ 2 ^ 16 * 2 ^ 16 = mul-le side side (2 ^ 16) (2 ^ 16) most most in
    let unit : side * side * 65536 % 2 ^ 64 ≡ side * side * 65536 = omega (arith, small) in
    let up : reach ≤ div_ceil reach (side * side * 65536) * (side * side * 65536) =
    (div_ceil_times reach (side * side * 65536) (omega (arith, least))).0 in
    rw (unit, sym e) (omega (arith, up))

most_times : (d n s r : ℕ) → d * s < r + s → r ≤ n * s → d ≤ n
most_times d n s r p q =
    elim (cases_lt n d) [
      | inl more ↦ let least : (n + 1) * s ≤ d * s = mul-le (n + 1) s d s (omega (arith, more)) (omega arith) in absurd (omega (arith, least, p, q))
      | inr some ↦ some
    ]

-- a quotient rounded up, of a reach that the ring has room for
pub rounded_small : (reach side grain_side : ℕ) → side ≡ grain_side → 1 ≤ side → side ≤ 2 ^ 16
    → reach ≤ 2 ^ 30 * (grain_side * grain_side)
    → div_ceil reach (side * side * 65536 % 2 ^ 64) + 3 < 2 ^ 15
rounded_small reach side grain_side e some most few =
    let least : 1 * 1 ≤ side * side = mul-le 1 1 side side some some in
    let small : side * side ≤ 2 ^ 16 * 2 ^ 16 = mul-le side side (2 ^ 16) (2 ^ 16) most most in
    let unit : side * side * 65536 % 2 ^ 64 ≡ side * side * 65536 = omega (arith, small) in
    let up = div_ceil_times reach (side * side * 65536) (omega (arith, least)) in
    let below : reach ≤ 2 ^ 30 * (side * side) = rw e few in
    let ceil : ℕ = div_ceil reach (side * side * 65536) in
    let ceil_most : ceil ≤ 2 ^ 14 = most_times ceil (2 ^ 14) (side * side * 65536) reach up.1 (omega (arith, below)) in
    rw unit (omega (arith, ceil_most))

-- the square of a longer side
pub square_most : (a b s : ℕ) → a ≤ b → b * b ≤ s → a * a ≤ s
square_most a b s h k = let most : a * a ≤ b * b = mul-le a a b b h h in omega (arith, most, k)
