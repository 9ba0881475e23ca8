-- The tiles of a step are a cover.
use Rattle.std.proofs.Common.{ℕ, zero, suc, ◌+◌, ◌*◌, ◌/◌, ◌<◌, ◌≤◌, ◌≡◌, ◌≢◌, ◌==◌, ◌&&◌, ◌||◌, ◌⊎◌, Bool, true}
use Rattle.std.proofs.Common.{false, not, nat_lt, nat_le, cond, List, [], ◌∷◌, length, map, count_by, inl, inr}
use Rattle.std.proofs.Common.{refl, sym, ap, ◌∙◌, zero-add, arith}
use Rattle.std.specs.List.{range_with_len, filter}
use Rattle.std.proofs.Math.Bool.{or-true}
use Rattle.std.proofs.lemmas.Bool.{cases_eq, cases_lt, cases_Bool, eqb-true, eq-eqb, leb-true, lt-ltb, and_parts, and_from}
use Rattle.std.proofs.lemmas.Bool.{true≢false, false_from_ne_true}
use Rattle.std.proofs.lemmas.Bool.Decides.{nat_tests}
use Rattle.std.proofs.lemmas.List.Sums.{sum_by-cons}
use Rattle.lj_ring.specs.declared.coordinates.Place.{Place}
use Rattle.lj_task.specs.Species.{Composition}
use Rattle.lj_task.specs.declared.task_name.Kind.{Kind}
use Rattle.lj_task.specs.declared.task_name.Kind.TheVariants.{Force, Energy}
use Rattle.lj_task.specs.Tiles.{Tile, times, force_tile, energy_tile, are_between, IsForceCover, IsEnergyCover}
use Rattle.lj_step.specs.MotionLaws.{IsFrameOnRing}
use Rattle.lj_step.specs.OpenSteps.{blocks, first_block, second_block, is_in_order, is_out_of_reach}
use Rattle.lj_step.specs.OpenSteps.{is_tile, tile_of, cover_tiles}
use Rattle.lj_step.specs.Sums.{pair_number}
use Rattle.lj_step.proofs.OpenedFlags.{pair_within, pair_parts, near_is_tile}

-- how many numbers of a range pass a test that one number at most passes
module _ (test : ℕ → Bool) where
  counted : List ℕ → ℕ
  counted xs = count_by test xs

  counted_more : (x : ℕ) (xs : List ℕ) → counted (x ∷ xs) ≡ cond (test x) 1 0 + counted xs
  unfolding counted
  counted_more x xs = sum_by-cons (λ k. cond (test k) 1 0) x xs

  counted_none : (a n : ℕ) → ((k : ℕ) → a ≤ k → test k ≡ false) → counted (range_with_len a n) ≡ 0
  unfolding counted
  counted_none a zero fails = refl
  counted_none a (suc n) fails =
      counted_more a (range_with_len (a + 1) n)
      ∙ ap (λ (b : Bool). cond b 1 0 + counted (range_with_len (a + 1) n)) (fails a (omega arith))
      ∙ zero-add (counted (range_with_len (a + 1) n))
      ∙ counted_none (a + 1) n (λ k h. fails k (omega arith))

  pub counted_one : (a n k : ℕ) → a ≤ k → k < a + n → test k ≡ true → ((m : ℕ) → m ≢ k → test m ≡ false)
      → count_by test (range_with_len a n) ≡ 1
  unfolding counted
  counted_one a zero k from below passes others = absurd (omega arith)
  counted_one a (suc n) k from below passes others =
      elim (cases_eq a k) [
        | inl here ↦
            counted_more a (range_with_len (a + 1) n)
            ∙ ap (λ (b : Bool). cond b 1 0 + counted (range_with_len (a + 1) n)) (ap test here ∙ passes)
            ∙ ap (λ m. 1 + m) (counted_none (a + 1) n (λ m h. let apart : m ≢ k = omega arith in others m apart))
        | inr later ↦
            counted_more a (range_with_len (a + 1) n)
            ∙ ap (λ (b : Bool). cond b 1 0 + counted (range_with_len (a + 1) n)) (others a later)
            ∙ zero-add (counted (range_with_len (a + 1) n))
            ∙ counted_one (a + 1) n k (omega arith) (omega arith) passes others
      ]

  pub counted_most : (n k : ℕ) → k < n → ((m : ℕ) → m ≢ k → test m ≡ false) → count_by test (range_with_len 0 n) ≤ 1
  unfolding counted
  counted_most n k below others =
      elim (cases_Bool (test k)) [
        | inl passes ↦
            let one = counted_one 0 n k (omega arith) (omega (arith, below)) passes others in omega (arith, one)
        | inr fails ↦
            let none : count_by test (range_with_len 0 n) ≡ 0 =
            counted_none 0 n (λ m h. elim (cases_eq m k) [ inl same ↦ ap test same ∙ fails | inr other ↦ others m other ]) in
            omega (arith, none)
      ]

  pub counted_never : (n : ℕ) → ((m : ℕ) → test m ≡ false) → count_by test (range_with_len 0 n) ≡ 0
  unfolding counted
  counted_never n fails = counted_none 0 n (λ k h. fails k)

-- the tiles of a cover that have a pair
pub times_is : (kind : Kind) (p : ℕ → Bool) (i j : ℕ) (xs : List ℕ)
    → times i j (map (tile_of kind) (filter p xs)) ≡ count_by (λ k. p k && tile_of kind k i j) xs
times_is kind p i j [] = refl
times_is kind p i j (x ∷ xs) =
    first (p x) (times_is kind p i j xs)
    ∙ sym (sum_by-cons (λ k. cond (p k && tile_of kind k i j) 1 0) x xs)
  where
    first : (b : Bool) → times i j (map (tile_of kind) (filter p xs)) ≡ count_by (λ k. p k && tile_of kind k i j) xs
        → times i j (map (tile_of kind) (cond b (x ∷ filter p xs) (filter p xs)))
        ≡ cond (b && tile_of kind x i j) 1 0 + count_by (λ k. p k && tile_of kind k i j) xs
    first true rest = sum_by-cons (λ (t : Tile). cond (t i j) 1 0) (tile_of kind x) (map (tile_of kind) (filter p xs))
        ∙ ap (λ m. cond (tile_of kind x i j) 1 0 + m) rest
    first false rest = rest ∙ sym (zero-add (count_by (λ k. p k && tile_of kind k i j) xs))

-- the blocks of the pairs of a tile
both_blocks : (a b c d : ℕ) → (a == b && c == d) ≡ true → (a ≡ b) × (c ≡ d)
both_blocks a b c d h =
    let parts = and_parts (a == b) (c == d) h in (eqb-true a b parts.0, eqb-true c d parts.1)

force_blocks : (bi bj i j : ℕ) → force_tile bi bj i j ≡ true
    → ((i / 64 ≡ bi) × (j / 64 ≡ bj)) ⊎ ((i / 64 ≡ bj) × (j / 64 ≡ bi))
force_blocks bi bj i j h =
    let between = (and_parts (are_between bi bj i j) (not (i == j)) h).0 in
    elim (cases_Bool (i / 64 == bi && j / 64 == bj)) [
      | inl first ↦ inl (both_blocks (i / 64) bi (j / 64) bj first)
      | inr other ↦
          inr (both_blocks (i / 64) bj (j / 64) bi
          (sym (ap (λ (b : Bool). b || i / 64 == bj && j / 64 == bi) other) ∙ between))
    ]

energy_blocks : (bi bj i j : ℕ) → energy_tile bi bj i j ≡ true → (i / 64 ≡ bi) × (j / 64 ≡ bj)
energy_blocks bi bj i j h =
    both_blocks (i / 64) bi (j / 64) bj (and_parts (i / 64 == bi && j / 64 == bj) (nat_lt i j) h).0

tile_ordered : (u : Composition) (frame : List Place) (k : ℕ) → is_tile u frame k ≡ true → first_block k ≤ second_block k
tile_ordered u frame k h =
    let in_order = (and_parts (is_in_order (length frame) k) (not (is_out_of_reach u frame k)) h).0 in
    leb-true (first_block k) (second_block k)
    (and_parts (nat_lt (second_block k) (blocks (length frame))) (nat_le (first_block k) (second_block k)) in_order).1

-- a pair lies in no tile but that of its two blocks
number_is : (kind : Kind) (k i j : ℕ) → first_block k ≤ second_block k → tile_of kind k i j ≡ true
    → k ≡ pair_number i j
number_is Force k i j ordered h =
    elim (force_blocks (first_block k) (second_block k) i j h) [
      | inl b ↦ omega (arith, ordered, b.0, b.1)
      | inr b ↦ omega (arith, ordered, b.0, b.1)
    ]
number_is Energy k i j ordered h =
    let b = energy_blocks (first_block k) (second_block k) i j h in omega (arith, ordered, b.0, b.1)

others : (kind : Kind) (u : Composition) (frame : List Place) (i j k : ℕ) → k ≢ pair_number i j
    → (is_tile u frame k && tile_of kind k i j) ≡ false
others kind u frame i j k other =
    false_from_ne_true (is_tile u frame k && tile_of kind k i j)
    (λ both.
    let parts = and_parts (is_tile u frame k) (tile_of kind k i j) both in
    other (number_is kind k i j (tile_ordered u frame k parts.0) parts.1))

-- the tile of its two blocks has a pair
force_here : (i j : ℕ) → i < 4096 → j < 4096 → i ≢ j → tile_of Force (pair_number i j) i j ≡ true
force_here i j hi hj other =
    let k = pair_number i j in
    let parts = pair_parts i j hi hj in
    let apart : (i == j) ≡ false = grind (arith, nat_tests) in
    let between : are_between (first_block k) (second_block k) i j ≡ true =
    elim (cases_lt (j / 64) (i / 64)) [
      | inl after ↦
          let second : (i / 64 == second_block k && j / 64 == first_block k) ≡ true =
          and_from (i / 64 == second_block k) (j / 64 == first_block k)
          (eq-eqb (i / 64) (second_block k) (omega (arith, parts.1, after)))
          (eq-eqb (j / 64) (first_block k) (omega (arith, parts.0, after))) in
          ap (λ (b : Bool). i / 64 == first_block k && j / 64 == second_block k || b) second
          ∙ or-true (i / 64 == first_block k && j / 64 == second_block k)
      | inr before ↦
          let first : (i / 64 == first_block k && j / 64 == second_block k) ≡ true =
          and_from (i / 64 == first_block k) (j / 64 == second_block k)
          (eq-eqb (i / 64) (first_block k) (omega (arith, parts.0, before)))
          (eq-eqb (j / 64) (second_block k) (omega (arith, parts.1, before))) in
          ap (λ (b : Bool). b || i / 64 == second_block k && j / 64 == first_block k) first
    ] in
    and_from (are_between (first_block k) (second_block k) i j) (not (i == j)) between (ap not apart)

energy_here : (i j : ℕ) → i < j → j < 4096 → tile_of Energy (pair_number i j) i j ≡ true
energy_here i j before hj =
    let k = pair_number i j in
    let parts = pair_parts i j (omega (arith, before, hj)) hj in
    and_from (i / 64 == first_block k && j / 64 == second_block k) (nat_lt i j)
    (and_from (i / 64 == first_block k) (j / 64 == second_block k)
    (eq-eqb (i / 64) (first_block k) (omega (arith, parts.0, before)))
    (eq-eqb (j / 64) (second_block k) (omega (arith, parts.1, before)))) (lt-ltb i j before)

-- how often a pair of atoms lies in a tile
module _ (kind : Kind) (u : Composition) (frame : List Place) (few : length frame ≤ 4096) (i j : ℕ) (hi : i < length frame)
    (hj : j < length frame) where
  times_most : times i j (cover_tiles kind u frame) ≤ 1
  times_most =
      let most =
      counted_most (λ k. is_tile u frame k && tile_of kind k i j) (64 * blocks (length frame)) (pair_number i j)
      (pair_within (length frame) i j hi hj few) (others kind u frame i j) in
      rw (times_is kind (is_tile u frame) i j (range_with_len 0 (64 * blocks (length frame)))) most

  times_once : is_tile u frame (pair_number i j) ≡ true → tile_of kind (pair_number i j) i j ≡ true
      → times i j (cover_tiles kind u frame) ≡ 1
  times_once made pair =
      times_is kind (is_tile u frame) i j (range_with_len 0 (64 * blocks (length frame)))
      ∙ counted_one (λ k. is_tile u frame k && tile_of kind k i j) 0 (64 * blocks (length frame)) (pair_number i j)
      (omega arith) (let within = pair_within (length frame) i j hi hj few in omega (arith, within))
      (and_from (is_tile u frame (pair_number i j)) (tile_of kind (pair_number i j) i j) made pair)
      (others kind u frame i j)

force_itself : (u : Composition) (frame : List Place) (i k : ℕ) → (is_tile u frame k && tile_of Force k i i) ≡ false
force_itself u frame i k =
    false_from_ne_true (is_tile u frame k && tile_of Force k i i)
    (λ both.
    let tile = (and_parts (is_tile u frame k) (tile_of Force k i i) both).1 in
    let apart = (and_parts (are_between (first_block k) (second_block k) i i) (not (i == i)) tile).1 in
    let same : (i == i) ≡ true = grind (arith, nat_tests) in
    true≢false (sym apart ∙ ap not same))

-- the force tasks of a step are a cover
pub force_cover : (u : Composition) (frame : List Place) → IsFrameOnRing frame → length frame ≤ 4096
    → IsForceCover u frame (cover_tiles Force u frame)
force_cover u frame ring few = record {
  near = λ i j hi hj other near.
      times_once Force u frame few i j hi hj (near_is_tile u frame ring few i j hi hj other near)
      (force_here i j (omega arith) (omega arith) other);
  far = λ i j hi hj other far. times_most Force u frame few i j hi hj;
  itself = λ i hi.
      times_is Force (is_tile u frame) i i (range_with_len 0 (64 * blocks (length frame)))
      ∙ counted_never (λ k. is_tile u frame k && tile_of Force k i i) (64 * blocks (length frame))
      (force_itself u frame i);
}

-- the energy tasks of a step are a cover
pub energy_cover : (u : Composition) (frame : List Place) → IsFrameOnRing frame → length frame ≤ 4096
    → IsEnergyCover u frame (cover_tiles Energy u frame)
energy_cover u frame ring few = record {
  near = λ i j before hj near.
      let hi : i < length frame = omega arith in
      let other : i ≢ j = omega arith in
      times_once Energy u frame few i j hi hj (near_is_tile u frame ring few i j hi hj other near)
      (energy_here i j before (omega arith));
  far = λ i j before hj far.
      let hi : i < length frame = omega arith in times_most Energy u frame few i j hi hj;
}
