-- The flags of a step as it is opened.
use Rattle.std.proofs.Common.{ℕ, ◌*◌, ◌/◌, ◌<◌, ◌≤◌, ◌≡◌, ◌≢◌, true, false, not, nat_lt, nat_le, min, max}
use Rattle.std.proofs.Common.{List, length, map, slice_index_or, inl, inr, sym, ap, ◌∙◌, arith}
use Rattle.std.specs.List.{range_with_len}
use Rattle.std.proofs.lemmas.Bool.{cases_lt, and_from, true≢false}
use Rattle.std.proofs.lemmas.Bool.Decides.{nat_tests}
use Rattle.std.proofs.lemmas.List.{get_or_past}
use Rattle.std.proofs.lemmas.List.FromFn.{get_or-map-range_with_len, length-map-range_with_len}
use Rattle.lj_ring.specs.declared.coordinates.Place.{Place}
use Rattle.lj_task.specs.Species.{Composition}
use Rattle.lj_task.specs.Tiles.{are_near}
use Rattle.lj_step.specs.MotionLaws.{IsFrameOnRing}
use Rattle.lj_step.specs.OpenSteps.{blocks, first_block, second_block, is_in_order, is_out_of_reach, is_tile}
use Rattle.lj_step.specs.Sums.{pair_number, is_pair_awaited}
use Rattle.lj_step.proofs.Reach.{near_in_reach}

-- the first flag of an opened step at each number
pub opened_flag : (u : Composition) (frame : List Place) (k : ℕ) → k < 64 * blocks (length frame)
    → slice_index_or (map (is_tile u frame) (range_with_len 0 (64 * blocks (length frame)))) k false
    ≡ is_tile u frame k
opened_flag u frame k within =
    get_or-map-range_with_len (is_tile u frame) 0 (64 * blocks (length frame)) k k false within (omega arith)

-- the flags that are set are those of tiles
pub opened_within : (u : Composition) (frame : List Place) (k : ℕ) → slice_index_or
    (map (is_tile u frame) (range_with_len 0 (64 * blocks (length frame)))) k false ≡ true
    → is_tile u frame k ≡ true
opened_within u frame k set =
    elim (cases_lt k (64 * blocks (length frame))) [
      | inl within ↦ sym (opened_flag u frame k within) ∙ set
      | inr past ↦
          let length_is = length-map-range_with_len (is_tile u frame) 0 (64 * blocks (length frame)) in
          let clear =
          get_or_past (map (is_tile u frame) (range_with_len 0 (64 * blocks (length frame))))
          k false (rw length_is past) in
          absurd (true≢false (sym set ∙ clear))
    ]

pub pair_within : (count i j : ℕ) → i < count → j < count → count ≤ 4096 → pair_number i j < 64 * blocks count
pair_within count i j hi hj few = omega arith

-- the blocks of the number of a pair
pub pair_parts : (i j : ℕ) → i < 4096 → j < 4096 → (first_block (pair_number i j) ≡ min (i / 64) (j / 64))
    × (second_block (pair_number i j) ≡ max (i / 64) (j / 64))
pair_parts i j hi hj = (omega arith, omega arith)

pub pair_in_order : (count i j : ℕ) → i < count → j < count → count ≤ 4096
    → is_in_order count (pair_number i j) ≡ true
pair_in_order count i j hi hj few =
    let k = pair_number i j in
    let below : second_block k < blocks count = omega arith in
    let ordered : first_block k ≤ second_block k = omega arith in
    let within : nat_lt (second_block k) (blocks count) ≡ true = grind (arith, nat_tests) in
    let in_order : nat_le (first_block k) (second_block k) ≡ true = grind (arith, nat_tests) in
    and_from (nat_lt (second_block k) (blocks count)) (nat_le (first_block k) (second_block k)) within in_order

-- a step has the tile of two different atoms that interact
pub near_is_tile : (u : Composition) (frame : List Place) → IsFrameOnRing frame → length frame ≤ 4096 → (i j : ℕ)
    → i < length frame → j < length frame → i ≢ j → are_near u frame i j ≡ true
    → is_tile u frame (pair_number i j) ≡ true
near_is_tile u frame ring few i j hi hj other near =
    and_from (is_in_order (length frame) (pair_number i j)) (not (is_out_of_reach u frame (pair_number i j)))
    (pair_in_order (length frame) i j hi hj few) (ap not (near_in_reach u frame ring few i j hi hj other near))

-- an opened step awaits it
pub near_awaited : (u : Composition) (frame : List Place) → IsFrameOnRing frame → length frame ≤ 4096 → (i j : ℕ)
    → i < length frame → j < length frame → i ≢ j → are_near u frame i j ≡ true
    → is_pair_awaited (map (is_tile u frame) (range_with_len 0 (64 * blocks (length frame)))) i j ≡ true
near_awaited u frame ring few i j hi hj other near =
    opened_flag u frame (pair_number i j) (pair_within (length frame) i j hi hj few)
    ∙ near_is_tile u frame ring few i j hi hj other near
