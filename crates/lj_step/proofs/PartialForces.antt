-- The pushes of the tiles that are in.
use Rattle.std.proofs.Common.{ℕ, ◌+◌, ◌*◌, ◌/◌, ◌%◌, ◌^◌, ◌<◌, ◌≤◌, ◌≡◌, ◌≢◌, ◌==◌, ◌⊎◌, Bool, true, false, not, List}
use Rattle.std.proofs.Common.{length, slice_index_or, slice_set, count_by, if◌then◌else◌, inl, inr, refl, sym, ap, ◌∙◌}
use Rattle.std.proofs.Common.{zero-add, add-zero, arith}
use Rattle.std.proofs.lemmas.Bool.{cases_Bool, eqb-true, eqb-false, true≢false}
use Rattle.std.proofs.lemmas.Bool.Decides.{nat_tests}
use Rattle.lj_ring.specs.declared.coordinates.Place.{Place}
use Rattle.lj_ring.specs.Ring.{sum_below, ring_sum}
use Rattle.lj_task.specs.Species.{Composition, class_between}
use Rattle.lj_task.specs.declared.pushes.Push.{Push}
use Rattle.lj_task.specs.Pushes.{push, no_push, sum_of_pushes}
use Rattle.lj_task.specs.Tiles.{chosen_push, push_sum}
use Rattle.lj_ring.specs.declared.mixes.Class.{Class}
use Rattle.lj_ring.specs.Scale.{Scale}
use Rattle.lj_task.specs.Block.{Block}
use Rattle.lj_task.specs.Task.{Task, class_in, task_force, task_second}
use Rattle.lj_step.specs.Motion.{place_at, push_of, force}
use Rattle.lj_step.specs.OpenSteps.{block, sites_of, tile_number}
use Rattle.lj_step.proofs.BlockClasses.{class_is, class_turned}
use Rattle.lj_step.specs.Sums.{pair_number, is_pair_awaited, push_so_far, force_so_far}
use Rattle.lj_step.proofs.RingSums.{sum_same, ring_sum_zero, sum_plus}
use Rattle.lj_task.proofs.Opposites.{same_push}
use Rattle.lj_step.proofs.BlockSums.{length_in, block_sum}
use Rattle.lj_step.proofs.BlockPlaces.{block_length, block_place, in_block}
use Rattle.lj_step.proofs.Flags.{pair_in, pair_in_turned, pair_second_other, pair_turned_other, pair_outside, flag_in}
use Rattle.lj_step.proofs.Flags.{flag_before, flag_other, none_left}

-- what a tile that comes in adds, along one axis
module _ (axis : Push → ℕ) (none : axis no_push ≡ 0) where
  term : (p : Push) (before after here : Bool) → (here ≡ true → (before ≡ true) × (after ≡ false))
      → (here ≡ false → after ≡ before)
      → axis (if after then no_push else p) ≡ axis (if before then no_push else p) + (if here then axis p else 0)
  term p before after here comes stays =
      elim (cases_Bool here) [
        | inl t ↦
            ap (λ (b : Bool). axis (if b then no_push else p)) (comes t).1
            ∙ sym (ap (λ (b : Bool). axis (if b then no_push else p) + (if here then axis p else 0)) (comes t).0
            ∙ ap (λ (b : Bool). axis no_push + (if b then axis p else 0)) t
            ∙ ap (λ m. m + axis p) none
            ∙ zero-add (axis p))
        | inr f ↦
            ap (λ (b : Bool). axis (if b then no_push else p)) (stays f)
            ∙ sym (ap (λ (b : Bool). axis (if before then no_push else p) + (if b then axis p else 0)) f
            ∙ add-zero (axis (if before then no_push else p)))
      ]

  more_on_axis : (n b : ℕ) (g : ℕ → Push) (before after : ℕ → Bool)
      → ((j : ℕ) → j < n → j / 64 ≡ b → (before j ≡ true) × (after j ≡ false))
      → ((j : ℕ) → j < n → j / 64 ≢ b → after j ≡ before j)
      → sum_below n (λ j. axis (if after j then no_push else g j))
      ≡ sum_below n (λ j. axis (if before j then no_push else g j)) + sum_below
      (length_in b n) (λ s. axis (g (64 * b + s)))
  more_on_axis n b g before after comes stays =
      sum_same n (λ j. axis (if after j then no_push else g j))
      (λ j. axis (if before j then no_push else g j) + (if j / 64 == b then axis (g j) else 0))
      (λ j h. term (g j) (before j) (after j) (j / 64 == b) (λ t. comes j h (eqb-true (j / 64) b t))
      (λ f. stays j h (eqb-false (j / 64) b f)))
      ∙ sum_plus n (λ j. axis (if before j then no_push else g j)) (λ j. if j / 64 == b then axis (g j) else 0)
      ∙ ap (λ s. sum_below n (λ j. axis (if before j then no_push else g j)) + s) (block_sum (λ j. axis (g j)) b n)

  parts : (a b : ℕ) → (a + b) % 2 ^ 32 ≡ (a % 2 ^ 32 + b % 2 ^ 32) % 2 ^ 32
  parts a b = omega arith

  more_on_ring : (n b : ℕ) (g : ℕ → Push) (before after : ℕ → Bool)
      → ((j : ℕ) → j < n → j / 64 ≡ b → (before j ≡ true) × (after j ≡ false))
      → ((j : ℕ) → j < n → j / 64 ≢ b → after j ≡ before j)
      → ring_sum n (λ j. axis (if after j then no_push else g j))
      ≡ (ring_sum n (λ j. axis (if before j then no_push else g j)) + ring_sum (length_in b n)
      (λ s. axis (g (64 * b + s)))) % 2 ^ 32
  more_on_ring n b g before after comes stays =
      ap (λ s. s % 2 ^ 32) (more_on_axis n b g before after comes stays)
      ∙ parts (sum_below n (λ j. axis (if before j then no_push else g j)))
      (sum_below (length_in b n) (λ s. axis (g (64 * b + s))))

  same_on_ring : (n : ℕ) (g h : ℕ → Push) → ((j : ℕ) → j < n → g j ≡ h j)
      → ring_sum n (λ j. axis (g j)) ≡ ring_sum n (λ j. axis (h j))
  same_on_ring n g h same =
      ap (λ s. s % 2 ^ 32) (sum_same n (λ j. axis (g j)) (λ j. axis (h j)) (λ j below. ap axis (same j below)))

-- the sum on the ring of the pushes on atom i of the atoms of one block
unfoldable pub block_force : Composition → List Place → ℕ → ℕ → Push
block_force u frame i b = record {
  x = ring_sum (length_in b (length frame)) (λ s. (push_of u frame i (64 * b + s)).x);
  y = ring_sum (length_in b (length frame)) (λ s. (push_of u frame i (64 * b + s)).y);
  z = ring_sum (length_in b (length frame)) (λ s. (push_of u frame i (64 * b + s)).z);
}

not_chosen : (u : Scale) (b : Bool) (p q : Place) → chosen_push u (not b) p q ≡ (if b then no_push else push u p q)
not_chosen u true p q = refl
not_chosen u false p q = refl

same_test : (i j : ℕ) → (i == j) ≡ (j == i)
same_test i j = grind (arith, nat_tests)

pub chosen_is : (u : Composition) (frame : List Place) (i j : ℕ)
    → chosen_push (class_between u i j).scale (not (i == j)) (place_at frame i) (place_at frame j) ≡ push_of u frame i j
chosen_is u frame i j =
    ap (λ (b : Bool). chosen_push (class_between u i j).scale (not b) (place_at frame i) (place_at frame j)) (same_test i j)
    ∙ not_chosen (class_between u i j).scale (j == i) (place_at frame i) (place_at frame j)

-- a sum over the places of a block
sum_is : (u : Composition) (class : ℕ → Class) (frame : List Place) (p : Place) (places : List Place) (chosen : ℕ → Bool)
    (i b : ℕ) → p ≡ place_at frame i → places ≡ block frame b
    → ((s : ℕ) → s < length_in b (length frame) → class s ≡ class_between u i (64 * b + s))
    → ((s : ℕ) → chosen_push (class_between u i (64 * b + s)).scale (chosen s) (place_at frame i) (place_at frame (64 * b + s))
    ≡ push_of u frame i (64 * b + s))
    → push_sum class p places chosen ≡ block_force u frame i b
unfolding push_sum block_force
sum_is u class frame p places chosen i b here block_is classes terms =
    same_push (push_sum class p places chosen) (block_force u frame i b) (along (λ p. p.x) refl)
    (along (λ p. p.y) refl) (along (λ p. p.z) refl)
  where
    along : (axis : Push → ℕ) → axis no_push ≡ 0
        → ring_sum (length places) (λ s. axis (chosen_push (class s).scale (chosen s) p (place_at places s)))
        ≡ ring_sum (length_in b (length frame)) (λ s. axis (push_of u frame i (64 * b + s)))
    along axis none =
        ap (λ m. ring_sum m (λ s. axis (chosen_push (class s).scale (chosen s) p (place_at places s))))
        (ap length block_is ∙ block_length frame b)
        ∙ same_on_ring axis none (length_in b (length frame))
        (λ s. chosen_push (class s).scale (chosen s) p (place_at places s)) (λ s. push_of u frame i (64 * b + s))
        (λ s below.
        ap (λ (k : Class). chosen_push k.scale (chosen s) p (place_at places s)) (classes s below)
        ∙ ap (λ r. chosen_push (class_between u i (64 * b + s)).scale (chosen s) r (place_at places s)) here
        ∙ ap (λ q. chosen_push (class_between u i (64 * b + s)).scale (chosen s) (place_at frame i) q)
        (ap (λ list. place_at list s) block_is ∙ block_place frame b s below)
        ∙ terms s)

-- the value of the force task of two blocks, for an atom of the first
pub task_is : (u : Composition) (frame : List Place) (work : Task) (t : ℕ) → work.mix ≡ u.mix
    → work.a ≡ sites_of u frame work.name.bi → work.b ≡ sites_of u frame work.name.bj
    → t < length_in work.name.bi (length frame) → task_force work t
    ≡ block_force u frame (64 * work.name.bi + t) work.name.bj
task_is u frame work t mix a b within =
    sum_is u (class_in work t) frame (place_at work.a.places t) work.b.places
    (λ s. not (64 * work.name.bi + t == 64 * work.name.bj + s)) (64 * work.name.bi + t) work.name.bj
    (ap (λ (sites : Block). place_at sites.places t) a ∙ block_place frame work.name.bi t within)
    (ap (λ (sites : Block). sites.places) b)
    (λ s below. class_is u frame work t s mix a b (in_block work.name.bi (length frame) t within)
    (in_block work.name.bj (length frame) s below))
    (λ s. chosen_is u frame (64 * work.name.bi + t) (64 * work.name.bj + s))

-- and for an atom of the second
pub second_is : (u : Composition) (frame : List Place) (work : Task) (s : ℕ) → work.mix ≡ u.mix
    → work.a ≡ sites_of u frame work.name.bi → work.b ≡ sites_of u frame work.name.bj
    → s < length_in work.name.bj (length frame) → task_second work s
    ≡ block_force u frame (64 * work.name.bj + s) work.name.bi
second_is u frame work s mix a b within =
    sum_is u (λ t. class_in work t s) frame (place_at work.b.places s) work.a.places
    (λ t. not (64 * work.name.bi + t == 64 * work.name.bj + s)) (64 * work.name.bj + s) work.name.bi
    (ap (λ (sites : Block). place_at sites.places s) b ∙ block_place frame work.name.bj s within)
    (ap (λ (sites : Block). sites.places) a)
    (λ t below. class_is u frame work t s mix a b (in_block work.name.bi (length frame) t below)
    (in_block work.name.bj (length frame) s within)
    ∙ class_turned u (64 * work.name.bi + t) (64 * work.name.bj + s))
    (λ t. not_chosen (class_between u (64 * work.name.bj + s) (64 * work.name.bi + t)).scale
    (64 * work.name.bi + t == 64 * work.name.bj + s) (place_at frame (64 * work.name.bj + s))
    (place_at frame (64 * work.name.bi + t)))

module _ (u : Composition) (frame : List Place) (flags : List Bool) (bi bj : ℕ) (few : length frame ≤ 4096) (ordered : bi ≤ bj)
    (second : bj < 64) (within : tile_number bi bj < length flags)
    (awaited : slice_index_or flags (tile_number bi bj) false ≡ true) where
  -- an atom all whose pairs in the tile have their other atom in one block gets the sum over this block
  more_of_block : (i b : ℕ) → ((j : ℕ) → j < length frame → j / 64 ≡ b → pair_number i j ≡ tile_number bi bj)
      → ((j : ℕ) → j < length frame → j / 64 ≢ b → pair_number i j ≢ tile_number bi bj)
      → force_so_far u frame (slice_set flags (tile_number bi bj) false) i
      ≡ sum_of_pushes (force_so_far u frame flags i) (block_force u frame i b)
  unfolding force_so_far block_force
  more_of_block i b same other =
      same_push (force_so_far u frame (slice_set flags (tile_number bi bj) false) i)
      (sum_of_pushes (force_so_far u frame flags i) (block_force u frame i b))
      (along (λ p. p.x) refl) (along (λ p. p.y) refl) (along (λ p. p.z) refl)
    where
      along : (axis : Push → ℕ) → axis no_push ≡ 0
          → ring_sum (length frame) (λ j. axis (push_so_far u frame (slice_set flags (tile_number bi bj) false) i j))
          ≡ (ring_sum (length frame) (λ j. axis (push_so_far u frame flags i j))
          + ring_sum (length_in b (length frame)) (λ s. axis (push_of u frame i (64 * b + s)))) % 2 ^ 32
      along axis none =
          more_on_ring axis none (length frame) b (push_of u frame i) (is_pair_awaited flags i)
          (is_pair_awaited (slice_set flags (tile_number bi bj) false) i)
          (λ j h e. (
            flag_before flags (tile_number bi bj) i j (same j h e) awaited,
            flag_in flags (tile_number bi bj) i j (same j h e) within,
          ))
          (λ j h e. flag_other flags (tile_number bi bj) i j (other j h e))

  -- an atom of the first block gets the sums over the second
  pub force_more : (i : ℕ) → i / 64 ≡ bi → force_so_far u frame (slice_set flags (tile_number bi bj) false) i
      ≡ sum_of_pushes (force_so_far u frame flags i) (block_force u frame i bj)
  force_more i first =
      more_of_block i bj (λ j h e. pair_in bi bj i j ordered first e)
      (λ j h e. pair_second_other bi bj i j ordered second first e (omega (arith, h, few)))

  -- an atom of the second block gets the sums over the first
  pub force_more_second : (i : ℕ) → i / 64 ≡ bj → force_so_far u frame (slice_set flags (tile_number bi bj) false) i
      ≡ sum_of_pushes (force_so_far u frame flags i) (block_force u frame i bi)
  force_more_second i here =
      more_of_block i bi (λ j h e. pair_in_turned bi bj i j ordered here e)
      (λ j h e. pair_turned_other bi bj i j ordered second here e (omega (arith, h, few)))

  -- another atom keeps its sums
  pub force_same : (i : ℕ) → i < length frame → i / 64 ≢ bi → i / 64 ≢ bj
      → force_so_far u frame (slice_set flags (tile_number bi bj) false) i ≡ force_so_far u frame flags i
  unfolding force_so_far
  force_same i below first other =
      same_push (force_so_far u frame (slice_set flags (tile_number bi bj) false) i) (force_so_far u frame flags i)
      (along (λ p. p.x) refl) (along (λ p. p.y) refl) (along (λ p. p.z) refl)
    where
      along : (axis : Push → ℕ) → axis no_push ≡ 0
          → ring_sum (length frame) (λ j. axis (push_so_far u frame (slice_set flags (tile_number bi bj) false) i j))
          ≡ ring_sum (length frame) (λ j. axis (push_so_far u frame flags i j))
      along axis none =
          same_on_ring axis none (length frame) (push_so_far u frame (slice_set flags (tile_number bi bj) false) i)
          (push_so_far u frame flags i)
          (λ j h. ap (λ (b : Bool). if b then no_push else push_of u frame i j)
          (flag_other flags (tile_number bi bj) i j
          (pair_outside bi bj i j second first other (omega (arith, below, few)) (omega (arith, h, few)))))

-- a whole step has all pushes
pub force_whole : (u : Composition) (frame : List Place) (flags : List Bool) (i : ℕ) → count_by (λ awaited. awaited) flags ≡ 0
    → force_so_far u frame flags i ≡ force u frame i
unfolding force_so_far force
force_whole u frame flags i whole =
    same_push (force_so_far u frame flags i) (force u frame i) (along (λ p. p.x) refl)
    (along (λ p. p.y) refl) (along (λ p. p.z) refl)
  where
    along : (axis : Push → ℕ) → axis no_push ≡ 0
        → ring_sum (length frame) (λ j. axis (push_so_far u frame flags i j))
        ≡ ring_sum (length frame) (λ j. axis (push_of u frame i j))
    along axis none =
        same_on_ring axis none (length frame) (push_so_far u frame flags i) (push_of u frame i)
        (λ j h. ap (λ (b : Bool). if b then no_push else push_of u frame i j)
        (none_left flags (pair_number i j) whole))

-- a pair that is awaited, or does not push, adds nothing
nothing_yet : (b : Bool) (p : Push) → (b ≡ true) ⊎ (p ≡ no_push) → (if b then no_push else p) ≡ no_push
nothing_yet true p h = refl
nothing_yet false p (inl set) = absurd (true≢false (sym set))
nothing_yet false p (inr none) = none

-- a step that awaits each pair that pushes has no pushes
pub force_none : (u : Composition) (frame : List Place) (flags : List Bool) (i : ℕ)
    → ((j : ℕ) → j < length frame → (is_pair_awaited flags i j ≡ true) ⊎ (push_of u frame i j ≡ no_push))
    → force_so_far u frame flags i ≡ no_push
unfolding force_so_far
force_none u frame flags i all =
    same_push (force_so_far u frame flags i) no_push (along (λ p. p.x) refl)
    (along (λ p. p.y) refl) (along (λ p. p.z) refl)
  where
    along : (axis : Push → ℕ) → axis no_push ≡ 0 → ring_sum (length frame)
        (λ j. axis (push_so_far u frame flags i j)) ≡ 0
    along axis none =
        ring_sum_zero (length frame) (λ j. axis (push_so_far u frame flags i j))
        (λ j h. ap (λ p. axis p % 2 ^ 32) (nothing_yet (is_pair_awaited flags i j) (push_of u frame i j) (all j h))
        ∙ ap (λ m. m % 2 ^ 32) none)
