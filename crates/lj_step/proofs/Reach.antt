-- Blocks out of reach of each other: no pair of their atoms interacts.
use Rattle.std.proofs.Common.{ℕ, ◌+◌, ◌-◌, ◌*◌, ◌/◌, ◌<◌, ◌≤◌, ◌≡◌, ◌≢◌, ◌==◌, Bool, true, false, not}
use Rattle.std.proofs.Common.{if◌then◌else◌, List, length, map, slice_index_or, inl, inr, sym, ap, ◌∙◌, subst, arith}
use Rattle.std.specs.List.{range_with_len}
use Rattle.std.proofs.lemmas.List.FromFn.{get_or-map-range_with_len}
use Rattle.std.proofs.Math.Nat.{div-zero, div-mul-le_self}
use Rattle.std.proofs.lemmas.Nat.{le-div}
use Rattle.std.proofs.lemmas.Bool.{cases_lt, cases_eq, ltb-true, lt-ltb}
use Rattle.std.proofs.lemmas.Bool.Decides.{nat_tests}
use Rattle.lj_ring.specs.declared.coordinates.Place.{Place}
use Rattle.lj_ring.specs.declared.arcs.Arcs.{Arcs}
use Rattle.lj_ring.specs.Ring.{IsOnRing, squared_distance}
use Rattle.lj_task.specs.Species.{Composition, class_between, species_at}
use Rattle.lj_ring.specs.Scale.{Scale, bin, is_in_cutoff}
use Rattle.lj_ring.specs.Mix.{can_interact}
use Rattle.lj_ring.specs.declared.mixes.Class.{Class}
use Rattle.lj_ring.proofs.MixLemmas.{can_interact_from}
use Rattle.lj_step.proofs.BlockClasses.{class_turned}
use Rattle.lj_ring.specs.Arcs.{squared_gap}
use Rattle.lj_ring.proofs.ArcLemmas.{squared_gap_least}
use Rattle.lj_task.specs.Tiles.{are_near}
use Rattle.lj_task.proofs.Opposites.{distance_symmetric}
use Rattle.lj_step.specs.Motion.{place_at}
use Rattle.lj_step.specs.MotionLaws.{IsFrameOnRing}
use Rattle.lj_step.specs.KeptSims.{block_arcs}
use Rattle.lj_step.specs.OpenSteps.{blocks, block, tile_number, first_block, second_block, is_out_of_reach}
use Rattle.lj_step.specs.Sums.{pair_number}
use Rattle.lj_step.proofs.BlockSums.{length_in}
use Rattle.lj_step.proofs.BlockPlaces.{block_length, block_place, atom_within, place_in}

-- the number of two blocks tells both
pub number_parts : (first second : ℕ) → second < 64 → (first_block (tile_number first second) ≡ first)
    × (second_block (tile_number first second) ≡ second)
number_parts first second few = (omega arith, omega arith)

-- of the number of two blocks, whether they are out of reach
reach_by_blocks : (u : Composition) (frame : List Place) (first second : ℕ) → second < 64
    → is_out_of_reach u frame (tile_number first second)
    ≡ (if first == second then length (block frame first) == 1
    else not (can_interact u.mix (squared_gap (block_arcs frame first) (block_arcs frame second))))
unfolding is_out_of_reach
reach_by_blocks u frame first second few =
    let parts = number_parts first second few in
    ap (λ (b : ℕ). if b == second_block (tile_number first second) then length (block frame b) == 1
    else not (can_interact u.mix (squared_gap (block_arcs frame b)
    (block_arcs frame (second_block (tile_number first second)))))) parts.0
    ∙ ap (λ (b : ℕ). if first == b then length (block frame first) == 1
    else not (can_interact u.mix (squared_gap (block_arcs frame first) (block_arcs frame b)))) parts.1

pub reach_of_one : (u : Composition) (frame : List Place) (b : ℕ) → b < 64
    → is_out_of_reach u frame (tile_number b b) ≡ (length (block frame b) == 1)
reach_of_one u frame b few =
    let same : (b == b) ≡ true = grind (arith, nat_tests) in
    reach_by_blocks u frame b b few
    ∙ ap (λ (t : Bool). if t then length (block frame b) == 1
    else not (can_interact u.mix (squared_gap (block_arcs frame b) (block_arcs frame b)))) same

pub reach_of_two : (u : Composition) (frame : List Place) (first second : ℕ) → second < 64 → first ≢ second
    → is_out_of_reach u frame (tile_number first second)
    ≡ not (can_interact u.mix (squared_gap (block_arcs frame first) (block_arcs frame second)))
reach_of_two u frame first second few other =
    let apart : (first == second) ≡ false = grind (arith, nat_tests) in
    reach_by_blocks u frame first second few
    ∙ ap (λ (t : Bool). if t then length (block frame first) == 1
    else not (can_interact u.mix (squared_gap (block_arcs frame first) (block_arcs frame second)))) apart

-- the arcs of a block among those of all blocks
arcs_at : (frame : List Place) (arcs : List Arcs) (b : ℕ) (d : Arcs)
    → arcs ≡ map (block_arcs frame) (range_with_len 0 (blocks (length frame))) → b < blocks (length frame)
    → slice_index_or arcs b d ≡ block_arcs frame b
arcs_at frame arcs b d same within =
    ap (λ xs. slice_index_or xs b d) same
    ∙ get_or-map-range_with_len (block_arcs frame) 0 (blocks (length frame)) b b d within (omega arith)

pub gap_at : (frame : List Place) (arcs : List Arcs) (a b gap : ℕ) (d e : Arcs)
    → arcs ≡ map (block_arcs frame) (range_with_len 0 (blocks (length frame))) → a < blocks (length frame)
    → b < blocks (length frame) → gap ≡ squared_gap (slice_index_or arcs a d) (slice_index_or arcs b e)
    → gap ≡ squared_gap (block_arcs frame a) (block_arcs frame b)
gap_at frame arcs a b gap d e same first second is =
    is
    ∙ ap (λ x. squared_gap x (slice_index_or arcs b e)) (arcs_at frame arcs a d same first)
    ∙ ap (squared_gap (block_arcs frame a)) (arcs_at frame arcs b e same second)

-- a lesser number has no greater a quotient
quotient_rises : (a b k : ℕ) → a ≤ b → a / k ≤ b / k
quotient_rises a b k less =
    elim (cases_eq k 0) [
      | inl none ↦ let zero_is : a / k ≡ 0 = ap (λ d. a / d) none ∙ div-zero a in omega (arith, zero_is)
      | inr some ↦
          le-div (a / k) b k (let positive : 0 < k = omega arith in positive)
          (let most = div-mul-le_self a k in omega (arith, most, less))
    ]

-- a pair nearer than one that interacts does too
nearer : (u : Scale) (gap s : ℕ) → gap ≤ s → is_in_cutoff u s ≡ true → is_in_cutoff u gap ≡ true
nearer u gap s less near =
    let below : bin u s < 800 = ltb-true (bin u s) 800 near in
    let bins : bin u gap ≤ bin u s = quotient_rises (128 * gap) (128 * s) (u.sigma * u.sigma) (omega arith) in
    let within : bin u gap < 800 = omega (arith, below, bins) in
    lt-ltb (bin u gap) 800 within

-- each place of a block is one of the frame's
block_on_ring : (frame : List Place) → IsFrameOnRing frame → (b t : ℕ) → t < length (block frame b)
    → IsOnRing (place_at (block frame b) t)
block_on_ring frame ring b t h =
    let within : t < length_in b (length frame) = subst (λ n. t < n) (block_length frame b) h in
    subst IsOnRing (sym (block_place frame b t within)) (ring (64 * b + t) (atom_within (length frame) b t within))

-- the gap of the blocks of two atoms is at most their distance
gap_least : (frame : List Place) → IsFrameOnRing frame → (i j : ℕ) → i < length frame → j < length frame
    → squared_gap (block_arcs frame (i / 64)) (block_arcs frame (j / 64))
    ≤ squared_distance (place_at frame i) (place_at frame j)
gap_least frame ring i j hi hj =
    let in_i = place_in (length frame) i hi in
    let in_j = place_in (length frame) j hj in
    let least =
    squared_gap_least (block frame (i / 64)) (block frame (j / 64)) (block_on_ring frame ring (i / 64))
    (block_on_ring frame ring (j / 64)) (i - 64 * (i / 64)) (j - 64 * (j / 64))
    (subst (λ n. i - 64 * (i / 64) < n) (sym (block_length frame (i / 64))) in_i.0)
    (subst (λ n. j - 64 * (j / 64) < n) (sym (block_length frame (j / 64))) in_j.0) in
    let first : place_at (block frame (i / 64)) (i - 64 * (i / 64)) ≡ place_at frame i =
    block_place frame (i / 64) (i - 64 * (i / 64)) in_i.0 ∙ ap (place_at frame) in_i.1 in
    let second : place_at (block frame (j / 64)) (j - 64 * (j / 64)) ≡ place_at frame j =
    block_place frame (j / 64) (j - 64 * (j / 64)) in_j.0 ∙ ap (place_at frame) in_j.1 in
    subst (λ p. squared_gap (block_arcs frame (i / 64)) (block_arcs frame (j / 64)) ≤ squared_distance p (place_at frame j)) first
    (subst (λ q. squared_gap (block_arcs frame (i / 64)) (block_arcs frame (j / 64))
    ≤ squared_distance (place_at (block frame (i / 64)) (i - 64 * (i / 64))) q) second least)

-- the atoms of two blocks in order that interact
near_in_order : (u : Composition) (frame : List Place) → IsFrameOnRing frame → length frame ≤ 4096 → (i j : ℕ)
    → i < length frame → j < length frame → i / 64 < j / 64 → are_near u frame i j ≡ true
    → is_out_of_reach u frame (tile_number (i / 64) (j / 64)) ≡ false
near_in_order u frame ring few i j hi hj before near =
    let met =
    can_interact_from u.mix (species_at u.species_bits i) (species_at u.species_bits j)
    (squared_gap (block_arcs frame (i / 64)) (block_arcs frame (j / 64)))
    (nearer (class_between u i j).scale (squared_gap (block_arcs frame (i / 64)) (block_arcs frame (j / 64)))
    (squared_distance (place_at frame i) (place_at frame j)) (gap_least frame ring i j hi hj) near) in
    reach_of_two u frame (i / 64) (j / 64) (omega arith) (omega arith) ∙ ap not met

-- a block of two atoms
more_than_one : (n b count i j : ℕ) → count ≡ length_in b n → i < n → j < n → i / 64 ≡ b → j / 64 ≡ b → i ≢ j
    → (count == 1) ≡ false
unfolding length_in
more_than_one n b count i j e hi hj first second other =
    let more : count ≢ 1 = omega arith in grind (arith, nat_tests)

-- the blocks of two atoms that interact are not out of reach
pub near_in_reach : (u : Composition) (frame : List Place) → IsFrameOnRing frame → length frame ≤ 4096 → (i j : ℕ)
    → i < length frame → j < length frame → i ≢ j → are_near u frame i j ≡ true
    → is_out_of_reach u frame (pair_number i j) ≡ false
near_in_reach u frame ring few i j hi hj other near =
    elim (cases_lt (i / 64) (j / 64)) [
      | inl before ↦
          let number : pair_number i j ≡ tile_number (i / 64) (j / 64) = omega (arith, before) in
          ap (is_out_of_reach u frame) number ∙ near_in_order u frame ring few i j hi hj before near
      | inr not_before ↦
          elim (cases_lt (j / 64) (i / 64)) [
            | inl after ↦
                let number : pair_number i j ≡ tile_number (j / 64) (i / 64) = omega (arith, after) in
                let turned : are_near u frame j i ≡ true =
                ap (is_in_cutoff (class_between u j i).scale)
                (distance_symmetric (place_at frame i) (place_at frame j) (ring i hi) (ring j hj))
                ∙ ap (λ (class : Class). is_in_cutoff class.scale (squared_distance (place_at frame i) (place_at frame j)))
                (class_turned u j i)
                ∙ near in
                ap (is_out_of_reach u frame) number ∙ near_in_order u frame ring few j i hj hi after turned
            | inr not_after ↦
                let number : pair_number i j ≡ tile_number (i / 64) (i / 64) = omega (arith, not_before, not_after) in
                let same : i / 64 ≡ j / 64 = omega (arith, not_before, not_after) in
                ap (is_out_of_reach u frame) number
                ∙ reach_of_one u frame (i / 64) (omega arith)
                ∙ more_than_one (length frame) (i / 64) (length (block frame (i / 64))) i j
                (block_length frame (i / 64)) hi hj (omega arith) (omega (arith, same)) other
          ]
    ]
