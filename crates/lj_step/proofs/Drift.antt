-- The drift: a step keeps it, and a reverse changes its sign.
use Rattle.std.proofs.Common.{ℕ, zero, suc, ◌+◌, ◌%◌, ◌^◌, ◌<◌, ◌≡◌, List, length, true, false, ◌==◌, inl, inr, refl}
use Rattle.std.proofs.Common.{sym, ap, ◌∙◌, subst, arith}
use Rattle.std.proofs.lemmas.Bool.{cases_eq}
use Rattle.std.proofs.lemmas.Bool.Decides.{nat_tests}
use Rattle.lj_ring.specs.declared.coordinates.Place.{Place}
use Rattle.lj_ring.specs.Ring.{sum_below, ring_sum}
use Rattle.lj_ring.specs.declared.mixes.Class.{Class}
use Rattle.lj_task.specs.Species.{Composition, class_between, species_at}
use Rattle.lj_task.specs.declared.pushes.Push.{Push}
use Rattle.lj_task.specs.Pushes.{no_push, push}
use Rattle.lj_step.specs.Motion.{Simulation, place_at, push_of, force, next_coordinate, next_place, next_simulation, steps}
use Rattle.lj_step.specs.Motion.{reversal}
use Rattle.lj_step.specs.MotionLaws.{IsOnRing, IsWellFormed, IsMixture, ring_difference, drift_along, drift, opposite_push}
use Rattle.lj_step.proofs.BlockClasses.{class_turned}
use Rattle.lj_step.proofs.RingSums.{ring_sum_same, ring_sum_zero, sum_plus, square_zero}
use Rattle.lj_task.proofs.Opposites.{AddToNone, pushes_opposite, same_push}
use Rattle.lj_step.proofs.Undone.{next_frame_at, next_frame_length, stepped_whole}

no_pushes : AddToNone no_push no_push
no_pushes = record { x = refl; y = refl; z = refl }

-- what two atoms of a frame push each other adds up to none
pair_opposite : (u : Composition) (frame : List Place) (i j : ℕ) → IsMixture u.mix → IsOnRing (place_at frame i)
    → IsOnRing (place_at frame j)
    → AddToNone (push_of u frame i j) (push_of u frame j i)
pair_opposite u frame i j scale hi hj =
    elim (cases_eq j i) [
      | inl same ↦
          let e : (j == i) ≡ true = grind (arith, nat_tests) in
          let f : (i == j) ≡ true = grind (arith, nat_tests) in
          rw (e, f) no_pushes
      | inr other ↦
          let e : (j == i) ≡ false = grind (arith, nat_tests) in
          let f : (i == j) ≡ false = grind (arith, nat_tests) in
          let p : Place = place_at frame i in
          let q : Place = place_at frame j in
          rw (e, f)
          (subst (λ (class : Class). AddToNone (push class.scale p q) (push (class_between u j i).scale q p))
          (class_turned u j i)
          (pushes_opposite (class_between u j i).scale q p (scale (species_at u.species_bits j) (species_at u.species_bits i)) hj hi))
    ]

itself_none : (u : Composition) (frame : List Place) (i : ℕ) → push_of u frame i i ≡ no_push
itself_none u frame i = let e : (i == i) ≡ true = grind (arith, nat_tests) in rw e refl

-- the forces on all atoms add up to none, along one axis
module _ (axis : Push → ℕ) (none : axis no_push ≡ 0) where
  pushes : Composition → List Place → ℕ → ℕ → ℕ
  pushes u frame i j = axis (push_of u frame i j)

  forces_none : (u : Composition) (frame : List Place) → ((i j : ℕ) → i < length frame → j < length frame
      → (axis (push_of u frame i j) + axis (push_of u frame j i)) % 2 ^ 32 ≡ 0)
      → ring_sum (length frame) (λ i. ring_sum (length frame) (pushes u frame i)) ≡ 0
  unfolding pushes
  forces_none u frame opposite_push =
      ring_sum_same (length frame) (λ i. ring_sum (length frame) (pushes u frame i))
      (λ i. sum_below (length frame) (pushes u frame i)) (λ k below. omega arith)
      ∙ square_zero (pushes u frame) (length frame) opposite_push
      (λ i below. ap (λ (p : Push). axis p % 2 ^ 32) (itself_none u frame i) ∙ ap (λ n. n % 2 ^ 32) none)

-- one coordinate of an atom: what a step adds to its displacement is its force
one_step : (p c f : ℕ) → p < 2 ^ 32 → c < 2 ^ 32 → ring_difference (next_coordinate p c f) c % 2 ^ 32
    ≡ (ring_difference c p + f) % 2 ^ 32
one_step p c f hp hc = omega arith

joined : (a b : ℕ) → b % 2 ^ 32 ≡ 0 → (a + b) % 2 ^ 32 ≡ a % 2 ^ 32
joined a b none = omega arith

-- the displacements along one axis add up to what they did before the step
axis_kept : (n : ℕ) (p c f m : ℕ → ℕ) → ((i : ℕ) → i < n → p i < 2 ^ 32) → ((i : ℕ) → i < n → c i < 2 ^ 32)
    → ((i : ℕ) → i < n → m i ≡ next_coordinate (p i) (c i) (f i)) → ring_sum n f ≡ 0
    → ring_sum n (λ i. ring_difference (m i) (c i)) ≡ ring_sum n (λ i. ring_difference (c i) (p i))
axis_kept n p c f m hp hc moves none =
    ring_sum_same n (λ i. ring_difference (m i) (c i)) (λ i. ring_difference (c i) (p i) + f i)
    (λ k below. ap (λ w. ring_difference w (c k) % 2 ^ 32) (moves k below)
    ∙ one_step (p k) (c k) (f k) (hp k below) (hc k below))
    ∙ ap (λ s. s % 2 ^ 32) (sum_plus n (λ i. ring_difference (c i) (p i)) f)
    ∙ joined (sum_below n (λ i. ring_difference (c i) (p i))) (sum_below n f) none

module _ (u : Composition) (sim : Simulation) (scale : IsMixture u.mix) (whole : IsWellFormed sim) where
  pairs : (i j : ℕ) → i < length sim.cur → j < length sim.cur
      → AddToNone (push_of u sim.cur i j) (push_of u sim.cur j i)
  pairs i j p q = pair_opposite u sim.cur i j scale (whole.cur i p) (whole.cur j q)

  before : (i : ℕ) → i < length sim.cur → IsOnRing (place_at sim.prev i)
  before i h = let same : length sim.prev ≡ length sim.cur = whole.same in let within : i < length sim.prev =
      omega arith in whole.prev i within

  -- the drift along one axis of places, that of the pushes beside it
  along : (axis : Place → ℕ) (push_axis : Push → ℕ) → push_axis no_push ≡ 0
      → ((p c : Place) (f : Push) → axis (next_place p c f) ≡ next_coordinate (axis p) (axis c) (push_axis f))
      → ((p : Place) → IsOnRing p → axis p < 2 ^ 32)
      → ((i : ℕ) → push_axis (force u sim.cur i) ≡ ring_sum (length sim.cur) (λ j. push_axis (push_of u sim.cur i j)))
      → ((i j : ℕ) → i < length sim.cur → j < length sim.cur
      → (push_axis (push_of u sim.cur i j) + push_axis (push_of u sim.cur j i)) % 2 ^ 32 ≡ 0)
      → drift_along axis (next_simulation u sim) ≡ drift_along axis sim
  unfolding pushes
  along axis push_axis none next below sum opposite_push =
      ap (λ n. ring_sum n (λ i. ring_difference (axis (place_at (next_simulation u sim).cur i)) (axis (place_at sim.cur i))))
      (next_frame_length u sim.prev sim.cur)
      ∙ axis_kept (length sim.cur) (λ i. axis (place_at sim.prev i)) (λ i. axis (place_at sim.cur i))
      (λ i. push_axis (force u sim.cur i)) (λ i. axis (place_at (next_simulation u sim).cur i))
      (λ i h. below (place_at sim.prev i) (before i h)) (λ i h. below (place_at sim.cur i) (whole.cur i h))
      (λ i h. ap axis (next_frame_at u sim.prev sim.cur i h)
      ∙ next (place_at sim.prev i) (place_at sim.cur i) (force u sim.cur i))
      (ring_sum_same (length sim.cur) (λ i. push_axis (force u sim.cur i))
      (λ i. ring_sum (length sim.cur) (λ j. push_axis (push_of u sim.cur i j)))
      (λ k h. ap (λ n. n % 2 ^ 32) (sum k))
      ∙ forces_none push_axis none u sim.cur opposite_push)

  step_kept : drift (next_simulation u sim) ≡ drift sim
  unfolding drift force
  step_kept =
      same_push (drift (next_simulation u sim)) (drift sim)
      (along (λ p. p.x) (λ p. p.x) refl (λ p c f. refl) (λ p h. h.x) (λ i. refl) (λ i j p q. (pairs i j p q).x))
      (along (λ p. p.y) (λ p. p.y) refl (λ p c f. refl) (λ p h. h.y) (λ i. refl) (λ i j p q. (pairs i j p q).y))
      (along (λ p. p.z) (λ p. p.z) refl (λ p c f. refl) (λ p h. h.z) (λ i. refl) (λ i j p q. (pairs i j p q).z))

pub drift_kept : (u : Composition) (n : ℕ) (sim : Simulation) → IsMixture u.mix → IsWellFormed sim → drift (steps u n sim) ≡ drift sim
drift_kept u zero sim scale whole = refl
drift_kept u (suc n) sim scale whole =
    drift_kept u n (next_simulation u sim) scale (stepped_whole u sim whole) ∙ step_kept u sim scale whole

-- differences the other way round add up to the opposite sum
axis_turned : (n : ℕ) (p c : ℕ → ℕ) → ((i : ℕ) → i < n → p i < 2 ^ 32) → ((i : ℕ) → i < n → c i < 2 ^ 32)
    → ring_sum n (λ i. ring_difference (p i) (c i)) ≡ ring_difference 0 (ring_sum n (λ i. ring_difference (c i) (p i)))
axis_turned n p c hp hc =
    let both : (sum_below n (λ i. ring_difference (p i) (c i)) + sum_below n (λ i. ring_difference (c i) (p i))) % 2 ^ 32 ≡ 0 =
    ap (λ s. s % 2 ^ 32) (sym (sum_plus n (λ i. ring_difference (p i) (c i)) (λ i. ring_difference (c i) (p i))))
    ∙ ring_sum_zero n (λ i. ring_difference (p i) (c i) + ring_difference (c i) (p i))
    (λ k below. turned_none (p k) (c k) (hp k below) (hc k below)) in
    turned_sum (sum_below n (λ i. ring_difference (p i) (c i))) (sum_below n (λ i. ring_difference (c i) (p i))) both
  where
    turned_none : (p c : ℕ) → p < 2 ^ 32 → c < 2 ^ 32 → (ring_difference p c + ring_difference c p) % 2 ^ 32 ≡ 0
    turned_none p c hp hc = omega arith

    turned_sum : (a b : ℕ) → (a + b) % 2 ^ 32 ≡ 0 → a % 2 ^ 32 ≡ ring_difference 0 (b % 2 ^ 32)
    turned_sum a b none = omega arith

module _ (sim : Simulation) (whole : IsWellFormed sim) where
  prev_on_ring : (i : ℕ) → i < length sim.cur → IsOnRing (place_at sim.prev i)
  prev_on_ring i h = let same : length sim.prev ≡ length sim.cur = whole.same in let within : i < length sim.prev =
      omega arith in whole.prev i within

  turned_along : (axis : Place → ℕ) → ((p : Place) → IsOnRing p → axis p < 2 ^ 32)
      → drift_along axis (reversal sim) ≡ ring_difference 0 (drift_along axis sim)
  turned_along axis below =
      ap (λ n. ring_sum n (λ i. ring_difference (axis (place_at sim.prev i)) (axis (place_at sim.cur i)))) whole.same
      ∙ axis_turned (length sim.cur) (λ i. axis (place_at sim.prev i)) (λ i. axis (place_at sim.cur i))
      (λ i h. below (place_at sim.prev i) (prev_on_ring i h)) (λ i h. below (place_at sim.cur i) (whole.cur i h))

  turned : drift (reversal sim) ≡ opposite_push (drift sim)
  unfolding drift
  turned = same_push (drift (reversal sim)) (opposite_push (drift sim))
      (turned_along (λ p. p.x) (λ p h. h.x)) (turned_along (λ p. p.y) (λ p h. h.y)) (turned_along
      (λ p. p.z) (λ p h. h.z))

pub drift_turned : (sim : Simulation) → IsWellFormed sim → drift (reversal sim) ≡ opposite_push (drift sim)
drift_turned sim whole = turned sim whole
