-- The tasks of a step have the values of the tiles of its cover.
use Rattle.std.proofs.Common.{ℕ, ◌+◌, ◌*◌, ◌/◌, ◌%◌, ◌^◌, ◌<◌, ◌≤◌, ◌≡◌, ◌≢◌, ◌==◌, ◌&&◌, ℤ, pos, Bool, true}
use Rattle.std.proofs.Common.{false, not, nat_lt, List, length, slice_get, Option, Some, None, if◌then◌else◌, inl, inr}
use Rattle.std.proofs.Common.{refl, sym, ap, ◌∙◌, subst, arith}
use Rattle.std.proofs.lemmas.Bool.Decides.{nat_tests}
use Rattle.std.proofs.lemmas.List.{get_or-map, length-map}
use Rattle.std.proofs.lemmas.Option.{slice_get_within, get_or_from_slice_get}
use Rattle.lj_ring.specs.declared.coordinates.Place.{Place}
use Rattle.lj_ring.specs.Ring.{ring_sum, int_sum_below}
use Rattle.lj_task.specs.Species.{Composition, class_between}
use Rattle.lj_ring.specs.Scale.{Scale}
use Rattle.lj_task.specs.declared.pushes.Push.{Push}
use Rattle.lj_base.specs.declared.names.Label.{Label}
use Rattle.lj_task.specs.declared.task_name.Kind.{Kind}
use Rattle.lj_task.specs.declared.task_name.Kind.TheVariants.{Force, Energy}
use Rattle.lj_task.specs.Pushes.{no_push, energy}
use Rattle.lj_task.specs.Tiles.{chosen_push, chosen_energy, push_sum, tile_force, tile_energy, are_between, force_tile}
use Rattle.lj_task.specs.Tiles.{energy_tile}
use Rattle.lj_task.specs.Task.{Task}
use Rattle.lj_step.specs.Motion.{place_at, push_of}
use Rattle.lj_step.specs.MotionLaws.{IsFrameOnRing}
use Rattle.lj_step.specs.Sim.{Sim, OpenStep}
use Rattle.lj_step.specs.OpenSteps.{first_block, second_block, block, cover, cover_tiles, tile_of, tile_task, tiles_in}
use Rattle.lj_step.specs.TileTasks.{HasForces, HasEnergy, HasValue, HasValueIn, HasTileValue, IsCover, IsCoveredIn}
use Rattle.lj_step.specs.TileTasks.{tile_at}
use Rattle.lj_step.specs.Sums.{IsOutside}
use Rattle.lj_step.proofs.RingSums.{sum_same, ring_sum_zero}
use Rattle.lj_step.proofs.BlockSums.{length_in, block_sum, int_sum_same, int_sum_none}
use Rattle.lj_step.proofs.BlockPlaces.{block_length, atom_block}
use Rattle.lj_task.proofs.Opposites.{same_push}
use Rattle.lj_step.proofs.PartialForces.{block_force, chosen_is, task_is, second_is}
use Rattle.lj_step.proofs.TaskCovers.{force_cover, energy_cover}
use Rattle.lj_step.proofs.PartialEnergies.{in_first, block_pairs, block_energy, energy_task_is}

-- which pairs a tile has, of an atom of its first block, of one of its second, and of another
between_first : (bi bj i j : ℕ) → i / 64 ≡ bi → are_between bi bj i j ≡ (j / 64 == bj)
between_first bi bj i j here = grind (arith, nat_tests)

between_second : (bi bj i j : ℕ) → i / 64 ≡ bj → are_between bi bj i j ≡ (j / 64 == bi)
between_second bi bj i j here = grind (arith, nat_tests)

between_none : (bi bj i j : ℕ) → i / 64 ≢ bi → i / 64 ≢ bj → are_between bi bj i j ≡ false
between_none bi bj i j first second = grind (arith, nat_tests)

-- the sum along one axis of the pairs of a tile that have atom i first
module _ (axis : Push → ℕ) (none : axis no_push ≡ 0) where
  pick : (u : Scale) (inside other : Bool) (p q : Place) (here : Push) → chosen_push u other p q ≡ here
      → axis (chosen_push u (inside && other) p q) ≡ (if inside then axis here else 0)
  pick u true other p q here same = ap axis same
  pick u false other p q here same = none

  tile_along : (u : Composition) (frame : List Place) (bi bj i b : ℕ)
      → ((j : ℕ) → are_between bi bj i j ≡ (j / 64 == b))
      → ring_sum (length frame) (λ j. axis (chosen_push (class_between u i j).scale (force_tile bi bj i j) (place_at frame i) (place_at frame j)))
      ≡ ring_sum (length_in b (length frame)) (λ s. axis (push_of u frame i (64 * b + s)))
  tile_along u frame bi bj i b pairs =
      ap (λ s. s % 2 ^ 32)
      (sum_same (length frame) (λ j. axis (chosen_push (class_between u i j).scale (force_tile bi bj i j) (place_at frame i) (place_at frame j)))
      (λ j. if j / 64 == b then axis (push_of u frame i j) else 0)
      (λ j h. ap (λ (t : Bool). axis (chosen_push (class_between u i j).scale (t && not (i == j)) (place_at frame i) (place_at frame j))) (pairs j)
      ∙ pick (class_between u i j).scale (j / 64 == b) (not (i == j)) (place_at frame i) (place_at frame j) (push_of u frame i j)
      (chosen_is u frame i j))
      ∙ block_sum (λ j. axis (push_of u frame i j)) b (length frame))

  other_along : (u : Composition) (frame : List Place) (bi bj i : ℕ) → i / 64 ≢ bi → i / 64 ≢ bj
      → ring_sum (length frame) (λ j. axis (chosen_push (class_between u i j).scale (force_tile bi bj i j) (place_at frame i) (place_at frame j)))
      ≡ 0
  other_along u frame bi bj i first second =
      ring_sum_zero (length frame) (λ j. axis (chosen_push (class_between u i j).scale (force_tile bi bj i j)
      (place_at frame i) (place_at frame j)))
      (λ j h. ap (λ (t : Bool). axis (chosen_push (class_between u i j).scale (t && not (i == j)) (place_at frame i)
      (place_at frame j)) % 2 ^ 32) (between_none bi bj i j first second) ∙ ap (λ m. m % 2 ^ 32) none)

-- the value of a force tile for an atom whose pairs in it have their other atom in one block
tile_force_in : (u : Composition) (frame : List Place) (bi bj i b : ℕ) → ((j : ℕ) → are_between bi bj i j ≡ (j / 64 == b))
    → tile_force u frame (force_tile bi bj) i ≡ block_force u frame i b
unfolding push_sum block_force
tile_force_in u frame bi bj i b pairs =
    same_push (tile_force u frame (force_tile bi bj) i) (block_force u frame i b)
    (tile_along (λ p. p.x) refl u frame bi bj i b pairs) (tile_along (λ p. p.y) refl u frame bi bj i b pairs)
    (tile_along (λ p. p.z) refl u frame bi bj i b pairs)

-- and for an atom of neither block
tile_force_other : (u : Composition) (frame : List Place) (bi bj i : ℕ) → i / 64 ≢ bi → i / 64 ≢ bj
    → tile_force u frame (force_tile bi bj) i ≡ no_push
unfolding push_sum
tile_force_other u frame bi bj i first second =
    same_push (tile_force u frame (force_tile bi bj) i) no_push
    (other_along (λ p. p.x) refl u frame bi bj i first second)
    (other_along (λ p. p.y) refl u frame bi bj i first second)
    (other_along (λ p. p.z) refl u frame bi bj i first second)

outside : (frame : List Place) (b i : ℕ) → i < length frame → IsOutside b (length (block frame b)) i → i / 64 ≢ b
unfolding length_in
outside frame b i h (inl below) = omega arith
outside frame b i h (inr past) = let count = block_length frame b in omega (arith, h, past, count)

-- a sum for place t of block a over the atoms of block b is the push of the tile on that atom
sum_value : (live : Sim) (k a b t : ℕ) (sum : Push) → t < length (block live.sim.cur a)
    → ((i j : ℕ) → i / 64 ≡ a → are_between (first_block k) (second_block k) i j ≡ (j / 64 == b))
    → (t < length_in a (length live.sim.cur) → sum ≡ block_force live.composition live.sim.cur (64 * a + t) b)
    → sum ≡ tile_force live.composition live.sim.cur (tile_of Force k) (64 * a + t)
sum_value live k a b t sum h between is =
    let within : t < length_in a (length live.sim.cur) = subst (λ n. t < n) (block_length live.sim.cur a) h in
    is within
    ∙ sym (tile_force_in live.composition live.sim.cur (first_block k) (second_block k) (64 * a + t) b
    (λ j. between (64 * a + t) j (atom_block (length live.sim.cur) a t within)))

force_value : (live : Sim) (label : Label) (k : ℕ)
    → HasForces live.composition live.sim.cur (tile_of Force k) (tile_task live label Force k)
force_value live label k =
    let bi = first_block k in
    let bj = second_block k in
    let work = tile_task live label Force k in
    record {
      kind = refl;
      first = λ t h. sum_value live k bi bj t _ h (between_first bi bj)
          (task_is live.composition live.sim.cur work t refl refl refl);
      second = λ before s h. sum_value live k bj bi s _ h (between_second bi bj)
          (second_is live.composition live.sim.cur work s refl refl refl);
      others = λ i h first second.
          tile_force_other live.composition live.sim.cur bi bj i (outside live.sim.cur bi i h first)
          (outside live.sim.cur bj i h second);
    }

pick_energy : (first second ordered : Bool) (e : ℤ) → ordered ≡ true
    → (if first && second && ordered then e else pos 0) ≡ (if second then (if first then e else pos 0) else pos 0)
pick_energy true true ordered e in_order = ap (λ (b : Bool). if b then e else pos 0) in_order
pick_energy true false ordered e in_order = refl
pick_energy false true ordered e in_order = refl
pick_energy false false ordered e in_order = refl

all_or_none : (b : Bool) (n : ℕ) (f : ℕ → ℤ) → int_sum_below n (λ i. if b then f i else pos 0)
    ≡ (if b then int_sum_below n f else pos 0)
all_or_none true n f = refl
all_or_none false n f = int_sum_none n (λ i. pos 0) (λ k h. refl)

-- the value of an energy tile
tile_energy_is : (u : Composition) (frame : List Place) (bi bj : ℕ)
    → tile_energy u frame (energy_tile bi bj) ≡ block_energy u frame bi bj
unfolding in_first block_energy
tile_energy_is u frame bi bj =
    int_sum_same (length frame) (λ j. int_sum_below j
    (λ i. chosen_energy (class_between u i j) (energy_tile bi bj i j) (place_at frame i) (place_at frame j)))
    (λ j. if j / 64 == bj then in_first (λ i j. energy (class_between u i j) (place_at frame i) (place_at frame j)) bi j else pos 0)
    (λ j h.
    int_sum_same j (λ i. chosen_energy (class_between u i j) (energy_tile bi bj i j) (place_at frame i) (place_at frame j))
    (λ i. if j / 64 == bj then (if i / 64 == bi then energy (class_between u i j) (place_at frame i) (place_at frame j) else pos 0)
    else pos 0)
    (λ i below. let t : nat_lt i j ≡ true = grind (arith, nat_tests) in pick_energy (i / 64 == bi) (j / 64 == bj)
    (nat_lt i j) (energy (class_between u i j) (place_at frame i) (place_at frame j)) t)
    ∙ all_or_none (j / 64 == bj) j (λ i. if i / 64 == bi
    then energy (class_between u i j) (place_at frame i) (place_at frame j) else pos 0))
    ∙ block_pairs (λ i j. energy (class_between u i j) (place_at frame i) (place_at frame j)) bi bj (length frame)

energy_value : (live : Sim) (label : Label) (k : ℕ)
    → HasEnergy live.composition live.sim.cur (tile_of Energy k) (tile_task live label Energy k)
energy_value live label k = record {
  kind = refl;
  energy =
      energy_task_is live.composition live.sim.cur (tile_task live label Energy k) refl refl refl
      ∙ sym (tile_energy_is live.composition live.sim.cur (first_block k) (second_block k));
}

-- the task of a tile has that tile's value
pub tile_value : (kind : Kind) (live : Sim) (label : Label) (k : ℕ)
    → HasValue kind live.composition live.sim.cur (tile_of kind k) (tile_task live label kind k)
tile_value Force live label k = force_value live label k
tile_value Energy live label k = energy_value live label k

-- the same of the i-th task of an open step
pub open_value : (live : Sim) (label : Label) (p : OpenStep) (i k : ℕ) (work : Task) → live.part ≡ Some p
    → slice_get (cover live.composition live.sim.cur) i ≡ Some k
    → work ≡ tile_task live label p.kind k → HasTileValue live i work
open_value live label p i k work part found same =
    let within = slice_get_within (cover live.composition live.sim.cur) i k found in
    let tile : tile_at (cover_tiles p.kind live.composition live.sim.cur) i ≡ tile_of p.kind k =
    get_or-map (tile_of p.kind) (cover live.composition live.sim.cur) i 0 (λ i j. false) within
    ∙ ap (tile_of p.kind) (get_or_from_slice_get (cover live.composition live.sim.cur) i k 0 found) in
    let value : HasValue p.kind live.composition live.sim.cur (tile_at (cover_tiles p.kind live.composition live.sim.cur) i) work =
    subst (λ t. HasValue p.kind live.composition live.sim.cur t work) (sym tile)
    (subst (HasValue p.kind live.composition live.sim.cur (tile_of p.kind k)) (sym same) (tile_value p.kind live label k)) in
    subst (HasValueIn live i work) (sym part) value

-- the tiles of an open step are a cover
pub step_covered : (live : Sim) → IsFrameOnRing live.sim.cur → length live.sim.cur ≤ 4096 → (part : Option OpenStep)
    → live.part ≡ part → IsCoveredIn live part
step_covered live ring few None e = tt
step_covered live ring few (Some p) e = record {
  count = length-map (cover live.composition live.sim.cur) (tile_of p.kind)
      ∙ sym (ap (tiles_in live.composition live.sim.cur) e);
  cover = cover_is p.kind live.composition live.sim.cur ring few;
}
  where
    cover_is : (kind : Kind) (u : Composition) (frame : List Place) → IsFrameOnRing frame → length frame ≤ 4096
        → IsCover kind u frame (cover_tiles kind u frame)
    cover_is Force u frame ring few = force_cover u frame ring few
    cover_is Energy u frame ring few = energy_cover u frame ring few
