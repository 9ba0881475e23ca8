-- The energies of the tiles that are in.
use Rattle.std.proofs.Common.{ℕ, ◌+◌, ◌*◌, ◌/◌, ◌<◌, ◌≤◌, ◌≡◌, ◌≢◌, ◌==◌, ◌⊎◌, ℤ, pos, ◌+ℤ◌, Bool, true, false, nat_lt, List}
use Rattle.std.proofs.Common.{length, slice_index_or, slice_set, count_by, if◌then◌else◌, inl, inr, refl, sym, ap, ◌∙◌}
use Rattle.std.proofs.Common.{arith}
use Rattle.std.proofs.Math.IntN.{+ℤ_idl, +ℤ_idr}
use Rattle.std.proofs.lemmas.Bool.{cases_eq, cases_Bool, eqb-true, eqb-false, true≢false}
use Rattle.std.proofs.lemmas.Bool.Decides.{nat_tests}
use Rattle.lj_ring.specs.declared.coordinates.Place.{Place}
use Rattle.lj_ring.specs.Ring.{int_sum_below}
use Rattle.lj_task.specs.Species.{Composition, class_between}
use Rattle.lj_task.specs.Pushes.{energy}
use Rattle.lj_task.specs.Tiles.{chosen_energy}
use Rattle.lj_ring.specs.declared.mixes.Class.{Class}
use Rattle.lj_task.specs.Block.{Block}
use Rattle.lj_task.specs.Task.{Task, class_in, task_energy}
use Rattle.lj_step.proofs.BlockClasses.{class_is}
use Rattle.lj_step.specs.Motion.{place_at, potential}
use Rattle.lj_step.specs.OpenSteps.{sites_of, tile_number}
use Rattle.lj_step.specs.Sums.{pair_number, is_pair_awaited, energy_so_far_of, energy_so_far}
use Rattle.lj_step.proofs.BlockSums.{length_in, int_block_sum, int_sum_same, int_sum_none, int_sum_plus, int_sum_cut}
use Rattle.lj_step.proofs.BlockPlaces.{block_length, block_place, atom_within, in_block}
use Rattle.lj_step.proofs.Flags.{pair_in, pair_first_apart, pair_second_apart, flag_in, flag_before, flag_other}
use Rattle.lj_step.proofs.Flags.{none_left}

-- the energy of a pair of atoms of a frame
pair : Composition → List Place → ℕ → ℕ → ℤ
pair u frame i j = energy (class_between u i j) (place_at frame i) (place_at frame j)

-- what a pair adds where a tile comes in
term : (e : ℤ) (before after here : Bool) → (here ≡ true → (before ≡ true) × (after ≡ false))
    → (here ≡ false → after ≡ before)
    → (if after then pos 0 else e) ≡ (if before then pos 0 else e) +ℤ (if here then e else pos 0)
term e before after here comes stays =
    elim (cases_Bool here) [
      | inl t ↦
          ap (λ (b : Bool). if b then pos 0 else e) (comes t).1
          ∙ sym (ap (λ (b : Bool). (if b then pos 0 else e) +ℤ (if here then e else pos 0)) (comes t).0
          ∙ ap (λ (b : Bool). pos 0 +ℤ (if b then e else pos 0)) t
          ∙ +ℤ_idl e)
      | inr f ↦
          ap (λ (b : Bool). if b then pos 0 else e) (stays f)
          ∙ sym (ap (λ (b : Bool). (if before then pos 0 else e) +ℤ (if b then e else pos 0)) f
          ∙ +ℤ_idr (if before then pos 0 else e))
    ]

-- of the pairs with atom j, those whose first atom stands in a block
unfoldable pub in_first : (e : ℕ → ℕ → ℤ) (b j : ℕ) → ℤ
in_first e b j = int_sum_below j (λ i. if i / 64 == b then e i j else pos 0)

swap_tests : (s t : Bool) (e : ℤ) → (if s then (if t then e else pos 0) else pos 0)
    ≡ (if t then (if s then e else pos 0) else pos 0)
swap_tests true true e = refl
swap_tests true false e = refl
swap_tests false true e = refl
swap_tests false false e = refl

-- these pairs by their places in the block
first_places : (e : ℕ → ℕ → ℤ) (b j n : ℕ) → j ≤ n
    → in_first e b j ≡ int_sum_below (length_in b n) (λ t. if nat_lt (64 * b + t) j then e (64 * b + t) j else pos 0)
unfolding in_first
first_places e b j n below =
    sym (int_sum_cut (λ i. if i / 64 == b then e i j else pos 0) j n below)
    ∙ int_sum_same n (λ i. if nat_lt i j then (if i / 64 == b then e i j else pos 0) else pos 0)
    (λ i. if i / 64 == b then (if nat_lt i j then e i j else pos 0) else pos 0)
    (λ i h. swap_tests (nat_lt i j) (i / 64 == b) (e i j))
    ∙ int_block_sum (λ i. if nat_lt i j then e i j else pos 0) b n

-- the pairs of two blocks, by their places in these
pub block_pairs : (e : ℕ → ℕ → ℤ) (bi bj n : ℕ) → int_sum_below n (λ j. if j / 64 == bj then in_first e bi j else pos 0)
    ≡ int_sum_below (length_in bj n) (λ s. int_sum_below (length_in bi n)
    (λ t. if nat_lt (64 * bi + t) (64 * bj + s) then e (64 * bi + t) (64 * bj + s) else pos 0))
block_pairs e bi bj n =
    int_block_sum (in_first e bi) bj n
    ∙ int_sum_same (length_in bj n) (λ s. in_first e bi (64 * bj + s))
    (λ s. int_sum_below (length_in bi n) (λ t. if nat_lt (64 * bi + t) (64 * bj + s)
    then e (64 * bi + t) (64 * bj + s) else pos 0))
    (λ s h. let within : 64 * bj + s < n = atom_within n bj s h in first_places e bi (64 * bj + s) n (omega arith))

module _ (e : ℕ → ℕ → ℤ) (bi bj n : ℕ) (before after : ℕ → ℕ → Bool)
    (comes : (i j : ℕ) → i < j → j < n → i / 64 ≡ bi → j / 64 ≡ bj → (before i j ≡ true) × (after i j ≡ false))
    (first_stays : (i j : ℕ) → i < j → j < n → i / 64 ≢ bi → after i j ≡ before i j)
    (second_stays : (i j : ℕ) → i < j → j < n → j / 64 ≢ bj → after i j ≡ before i j) where
  so_far : (ℕ → ℕ → Bool) → ℕ → ℤ
  so_far flags j = int_sum_below j (λ i. if flags i j then pos 0 else e i j)

  row_in : (j : ℕ) → j < n → j / 64 ≡ bj → so_far after j ≡ so_far before j +ℤ in_first e bi j
  unfolding so_far in_first
  row_in j h second =
      int_sum_same j (λ i. if after i j then pos 0 else e i j)
      (λ i. (if before i j then pos 0 else e i j) +ℤ (if i / 64 == bi then e i j else pos 0))
      (λ i below. term (e i j) (before i j) (after i j) (i / 64 == bi)
      (λ t. comes i j below h (eqb-true (i / 64) bi t) second) (λ f. first_stays i j below h (eqb-false (i / 64) bi f)))
      ∙ int_sum_plus j (λ i. if before i j then pos 0 else e i j) (λ i. if i / 64 == bi then e i j else pos 0)

  row_out : (j : ℕ) → j < n → j / 64 ≢ bj → so_far after j ≡ so_far before j
  unfolding so_far
  row_out j h other =
      int_sum_same j (λ i. if after i j then pos 0 else e i j) (λ i. if before i j then pos 0 else e i j)
      (λ i below. ap (λ (b : Bool). if b then pos 0 else e i j) (second_stays i j below h other))

  row : (j : ℕ) → j < n → so_far after j ≡ so_far before j +ℤ (if j / 64 == bj then in_first e bi j else pos 0)
  row j h =
      elim (cases_eq (j / 64) bj) [
        | inl same ↦
            let t : (j / 64 == bj) ≡ true = grind (arith, nat_tests) in
            row_in j h same ∙ sym (ap (λ (b : Bool). so_far before j +ℤ (if b then in_first e bi j else pos 0)) t)
        | inr other ↦
            let f : (j / 64 == bj) ≡ false = grind (arith, nat_tests) in
            row_out j h other ∙ sym (ap (λ (b : Bool). so_far before j +ℤ (if b then in_first e bi j else pos 0)) f
            ∙ +ℤ_idr (so_far before j))
      ]

  rows : int_sum_below n (so_far after)
      ≡ int_sum_below n (so_far before)
      +ℤ int_sum_below (length_in bj n) (λ s. int_sum_below (length_in bi n)
      (λ t. if nat_lt (64 * bi + t) (64 * bj + s) then e (64 * bi + t) (64 * bj + s) else pos 0))
  rows =
      int_sum_same n (so_far after) (λ j. so_far before j +ℤ (if j / 64 == bj then in_first e bi j else pos 0)) row
      ∙ int_sum_plus n (so_far before) (λ j. if j / 64 == bj then in_first e bi j else pos 0)
      ∙ ap (λ w. int_sum_below n (so_far before) +ℤ w) (block_pairs e bi bj n)

-- the sum of the energies of the pairs of two blocks
unfoldable pub block_energy : Composition → List Place → ℕ → ℕ → ℤ
block_energy u frame bi bj =
    int_sum_below (length_in bj (length frame)) (λ s. int_sum_below (length_in bi (length frame))
    (λ t. if nat_lt (64 * bi + t) (64 * bj + s) then energy (class_between u (64 * bi + t) (64 * bj + s))
    (place_at frame (64 * bi + t))
    (place_at frame (64 * bj + s)) else pos 0))

-- the value of the energy task of two blocks
pub energy_task_is : (u : Composition) (frame : List Place) (work : Task) → work.mix ≡ u.mix
    → work.a ≡ sites_of u frame work.name.bi → work.b ≡ sites_of u frame work.name.bj
    → task_energy work ≡ block_energy u frame work.name.bi work.name.bj
unfolding task_energy block_energy
energy_task_is u frame work mix a b =
    let bi : ℕ = work.name.bi in
    let bj : ℕ = work.name.bj in
    let n : ℕ = length frame in
    let order : ℕ → ℕ → Bool = λ t s. nat_lt (64 * bi + t) (64 * bj + s) in
    let kept : ℕ → ℕ → ℤ =
    λ s t. chosen_energy (class_in work t s) (order t s) (place_at work.a.places t) (place_at work.b.places s) in
    let meant : ℕ → ℕ → ℤ =
    λ s t. chosen_energy (class_between u (64 * bi + t) (64 * bj + s)) (order t s) (place_at frame (64 * bi + t))
    (place_at frame (64 * bj + s)) in
    ap (λ m. int_sum_below m (λ s. int_sum_below (length work.a.places) (kept s))) second
    ∙ int_sum_same (length_in bj n) (λ s. int_sum_below (length work.a.places) (kept s))
    (λ s. int_sum_below (length_in bi n) (meant s))
    (λ s h.
    ap (λ m. int_sum_below m (kept s)) first
    ∙ int_sum_same (length_in bi n) (kept s) (meant s)
    (λ t k.
    ap (λ (class : Class). chosen_energy class (order t s) (place_at work.a.places t) (place_at work.b.places s))
    (class_is u frame work t s mix a b (in_block bi n t k) (in_block bj n s h))
    ∙ ap (λ p. chosen_energy (class_between u (64 * bi + t) (64 * bj + s)) (order t s) p (place_at work.b.places s))
    (ap (λ (sites : Block). place_at sites.places t) a ∙ block_place frame bi t k)
    ∙ ap (λ q. chosen_energy (class_between u (64 * bi + t) (64 * bj + s)) (order t s) (place_at frame (64 * bi + t)) q)
    (ap (λ (sites : Block). place_at sites.places s) b ∙ block_place frame bj s h)))
  where
    first : length work.a.places ≡ length_in work.name.bi (length frame)
    first = ap (λ (sites : Block). length sites.places) a ∙ block_length frame work.name.bi

    second : length work.b.places ≡ length_in work.name.bj (length frame)
    second = ap (λ (sites : Block). length sites.places) b ∙ block_length frame work.name.bj

module _ (u : Composition) (frame : List Place) (flags : List Bool) (bi bj : ℕ) (few : length frame ≤ 4096) (ordered : bi ≤ bj)
    (second : bj < 64) (within : tile_number bi bj < length flags)
    (awaited : slice_index_or flags (tile_number bi bj) false ≡ true) where
  -- an energy tile that comes in adds its sum
  pub energy_more : energy_so_far u frame (slice_set flags (tile_number bi bj) false)
      ≡ energy_so_far u frame flags +ℤ block_energy u frame bi bj
  unfolding energy_so_far block_energy so_far pair
  energy_more =
      rows (pair u frame) bi bj (length frame) (is_pair_awaited flags)
      (is_pair_awaited (slice_set flags (tile_number bi bj) false))
      (λ i j h k ei ej.
      let same = pair_in bi bj i j ordered ei ej in
      (flag_before flags (tile_number bi bj) i j same awaited, flag_in flags (tile_number bi bj) i j same within))
      (λ i j h k other. flag_other flags (tile_number bi bj) i j
      (pair_first_apart bi bj i j second h (omega (arith, k, few)) other))
      (λ i j h k other. flag_other flags (tile_number bi bj) i j
      (pair_second_apart bi bj i j second h (omega (arith, k, few)) other))

-- a whole step has the energies of all pairs
pub energy_whole : (u : Composition) (frame : List Place) (flags : List Bool) → count_by (λ awaited. awaited) flags ≡ 0
    → energy_so_far u frame flags ≡ potential u frame
unfolding energy_so_far
energy_whole u frame flags whole =
    int_sum_same (length frame) (λ j. int_sum_below j (λ i. energy_so_far_of u frame flags i j))
    (λ j. int_sum_below j (λ i. energy (class_between u i j) (place_at frame i) (place_at frame j)))
    (λ j h. int_sum_same j (λ i. energy_so_far_of u frame flags i j)
    (λ i. energy (class_between u i j) (place_at frame i) (place_at frame j))
    (λ i k. ap (λ (b : Bool). if b then pos 0 else energy (class_between u i j) (place_at frame i) (place_at frame j))
    (none_left flags (pair_number i j) whole)))

-- a pair that is awaited, or has no energy, adds nothing
nothing_yet : (b : Bool) (e : ℤ) → (b ≡ true) ⊎ (e ≡ pos 0) → (if b then pos 0 else e) ≡ pos 0
nothing_yet true e h = refl
nothing_yet false e (inl set) = absurd (true≢false (sym set))
nothing_yet false e (inr none) = none

-- a step that awaits each pair that has an energy has none
pub energy_none : (u : Composition) (frame : List Place) (flags : List Bool)
    → ((i j : ℕ) → i < j → j < length frame
    → (is_pair_awaited flags i j ≡ true) ⊎ (energy (class_between u i j) (place_at frame i) (place_at frame j) ≡ pos 0))
    → energy_so_far u frame flags ≡ pos 0
unfolding energy_so_far
energy_none u frame flags all =
    int_sum_none (length frame) (λ j. int_sum_below j (λ i. energy_so_far_of u frame flags i j))
    (λ j h. int_sum_none j (λ i. energy_so_far_of u frame flags i j)
    (λ i k. nothing_yet (is_pair_awaited flags i j) (energy (class_between u i j) (place_at frame i) (place_at frame j)) (all i j k h)))
