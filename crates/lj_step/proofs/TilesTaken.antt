-- The tiles of a step taken in the order of its cover.
use Rattle.std.proofs.Common.{ℕ, ◌+◌, ◌-◌, ◌*◌, ◌<◌, ◌≤◌, ◌≡◌, ◌≢◌, Bool, true, false, nat_le, cond, List, length, map}
use Rattle.std.proofs.Common.{slice_index_or, slice_set, slice_get, count_by, Option, Some, None, inl, inr, sym, ap}
use Rattle.std.proofs.Common.{◌∙◌, subst, get_or-set_other, arith}
use Rattle.std.specs.List.{range_with_len, AllPairs}
use Rattle.std.specs.Option.{option_map}
use Rattle.std.proofs.lemmas.List.Kept.{AllPairs-filter}
use Rattle.std.proofs.lemmas.List.Sums.{length-filter, sum_by-set}
use Rattle.std.proofs.lemmas.List.FromFn.{get_or-range_with_len, length-range_with_len}
use Rattle.std.proofs.lemmas.Option.{slice_get_cases, same_Some, none-some, get_or_from_slice_get}
use Rattle.lj_ring.specs.declared.coordinates.Place.{Place}
use Rattle.lj_task.specs.Species.{Composition}
use Rattle.lj_base.specs.declared.names.Label.{Label}
use Rattle.lj_task.specs.declared.task_name.Kind.{Kind}
use Rattle.lj_task.specs.Task.{Task}
use Rattle.lj_step.specs.Sim.{Sim, OpenStep}
use Rattle.lj_step.specs.OpenSteps.{blocks, is_tile, cover, opened_step, tile_number_of, tile_task, task_of_open, task_at}
use Rattle.lj_step.specs.OpenSteps.{IsAwaitedTaskIn, IsAwaitedTask, with_tile, kind_of, is_whole}
use Rattle.lj_step.proofs.Flags.{count_flags}
use Rattle.lj_step.proofs.OpenedFlags.{opened_flag}
use Rattle.lj_step.specs.InOrder.{AwaitsFrom}
use Rattle.lj_step.proofs.Steps.{cover_tile, cover_within, set_within}

-- the numbers of a cover rise
range_rises : (a n : ℕ) → AllPairs (λ x y. x < y) (range_with_len a n)
range_rises a n i j d before below =
    let within : j < n = rw length-range_with_len at below in
    let first_within : i < n = omega arith in
    rw (get_or-range_with_len a n i d first_within, get_or-range_with_len a n j d within) (omega arith)

pub cover_rises : (u : Composition) (frame : List Place) → AllPairs (λ x y. x < y) (cover u frame)
cover_rises u frame =
    AllPairs-filter (λ x y. x < y) (is_tile u frame) (range_with_len 0 (64 * blocks (length frame)))
    (range_rises 0 (64 * blocks (length frame)))

-- an opened step
pub opened_awaits : (kind : Kind) (u : Composition) (frame : List Place) (part : Option OpenStep) → part ≡ Some (opened_step kind u frame)
    → AwaitsFrom kind u frame 0 part
opened_awaits kind u frame part e = record {
  flags = map (is_tile u frame) (range_with_len 0 (64 * blocks (length frame)));
  is_open = e;
  waiting = λ k from within.
      opened_flag u frame (slice_index_or (cover u frame) k 0) (cover_within u frame k 0 within)
      ∙ cover_tile u frame k 0 within;
  left =
      let flags = count_flags (is_tile u frame) (range_with_len 0 (64 * blocks (length frame))) in
      let tiles = length-filter (is_tile u frame) (range_with_len 0 (64 * blocks (length frame))) in
      omega (arith, flags, tiles);
}

pub kind_is : (kind : Kind) (u : Composition) (frame : List Place) (i : ℕ) (part : Option OpenStep) → AwaitsFrom kind u frame i part
    → kind_of part ≡ Some kind
kind_is kind u frame i part h = ap kind_of h.is_open

-- once all tiles are in, the step is whole
pub all_taken : (kind : Kind) (u : Composition) (frame : List Place) (i : ℕ) (part : Option OpenStep) → AwaitsFrom kind u frame i part
    → length (cover u frame) ≤ i → is_whole part ≡ true
all_taken kind u frame i part h past =
    let none : count_by (λ awaited. awaited) h.flags ≡ 0 = omega (arith, h.left, past) in
    ap is_whole h.is_open ∙ ap (λ n. nat_le n 0) none

pub number_is : (live : Sim) (label : Label) (kind : Kind) (k : ℕ) → tile_number_of (tile_task live label kind k) ≡ k
number_is live label kind k = omega arith

-- the i-th task of the step is that of the i-th number of the cover
task_read : (live : Sim) (label : Label) (kind : Kind) (i : ℕ) (o : Option Task)
    → AwaitsFrom kind live.composition live.sim.cur i live.part → o ≡ task_at live label i
    → o ≡ option_map (tile_task live label kind) (slice_get (cover live.composition live.sim.cur) i)
task_read live label kind i o h e = e ∙ ap (task_of_open live label i) h.is_open

pub none_past : (live : Sim) (label : Label) (kind : Kind) (i : ℕ) (o : Option Task)
    → AwaitsFrom kind live.composition live.sim.cur i live.part → o ≡ task_at live label i → o ≡ None
    → length (cover live.composition live.sim.cur) ≤ i
none_past live label kind i o h e none =
    elim ((slice_get_cases (cover live.composition live.sim.cur) i).1) [
      | inl r ↦
          absurd (none-some (tile_task live label kind r.0)
          (sym none ∙ task_read live label kind i o h e ∙ ap (option_map (tile_task live label kind)) r.2))
      | inr r ↦ r.0
    ]

pub task_at_place : (live : Sim) (label : Label) (kind : Kind) (i : ℕ) (o : Option Task) (work : Task)
    → AwaitsFrom kind live.composition live.sim.cur i live.part → o ≡ task_at live label i → o ≡ Some work
    → (number : ℕ) × (i < length (cover live.composition live.sim.cur))
    × (slice_index_or (cover live.composition live.sim.cur) i 0 ≡ number) × (work ≡ tile_task live label kind number)
task_at_place live label kind i o work h e some =
    elim ((slice_get_cases (cover live.composition live.sim.cur) i).1) [
      | inl r ↦ (
        r.0,
        r.1,
        get_or_from_slice_get (cover live.composition live.sim.cur) i r.0 0 r.2,
        same_Some work (tile_task live label kind r.0)
            (sym some ∙ task_read live label kind i o h e ∙ ap (option_map (tile_task live label kind)) r.2),
      )
      | inr r ↦
          absurd (none-some work (sym (sym some ∙ task_read live label kind i o h e
          ∙ ap (option_map (tile_task live label kind)) r.1)))
    ]

-- the i-th task is awaited, and once it is in those from the next one on
module _ (live : Sim) (label : Label) (kind : Kind) (i : ℕ) (o : Option Task) (work : Task)
    (h : AwaitsFrom kind live.composition live.sim.cur i live.part)
    (e : o ≡ task_at live label i) (some : o ≡ Some work) where
  place : (number : ℕ) × (i < length (cover live.composition live.sim.cur))
      × (slice_index_or (cover live.composition live.sim.cur) i 0 ≡ number) × (work ≡ tile_task live label kind number)
  place = task_at_place live label kind i o work h e some

  number_same : tile_number_of work ≡ slice_index_or (cover live.composition live.sim.cur) i 0
  number_same = ap tile_number_of place.3 ∙ number_is live label kind place.0 ∙ sym place.2

  flag_set : slice_index_or h.flags (tile_number_of work) false ≡ true
  flag_set = ap (λ k. slice_index_or h.flags k false) number_same ∙ h.waiting i (omega arith) place.1

  work_is : work ≡ tile_task live label kind (tile_number_of work)
  work_is = place.3 ∙ ap (tile_task live label kind) (sym place.2 ∙ sym number_same)

  pub is_awaited : IsAwaitedTask live label work
  is_awaited = subst (IsAwaitedTaskIn live label work) (sym h.is_open) (flag_set, work_is)

  waiting_after : (k : ℕ) → i + 1 ≤ k → k < length (cover live.composition live.sim.cur)
      → slice_index_or (slice_set h.flags (tile_number_of work) false)
      (slice_index_or (cover live.composition live.sim.cur) k 0) false ≡ true
  waiting_after k from within =
      let rises : slice_index_or (cover live.composition live.sim.cur) i 0 < slice_index_or
      (cover live.composition live.sim.cur) k 0 =
      cover_rises live.composition live.sim.cur i k 0 (omega arith) within in
      let other : slice_index_or (cover live.composition live.sim.cur) k 0 ≢ tile_number_of work =
      omega (arith, number_same, rises) in
      get_or-set_other h.flags (tile_number_of work) (slice_index_or (cover live.composition live.sim.cur) k 0)
      false false other ∙ h.waiting k (omega arith) within

  left_after : count_by (λ awaited. awaited) (slice_set h.flags (tile_number_of work) false)
      ≡ length (cover live.composition live.sim.cur) - (i + 1)
  left_after =
      let set : count_by (λ awaited. awaited) (slice_set h.flags (tile_number_of work) false)
      + cond (slice_index_or h.flags (tile_number_of work) false) 1 0
      ≡ count_by (λ awaited. awaited) h.flags + 0 =
      sum_by-set (λ (awaited : Bool). cond awaited 1 0) h.flags (tile_number_of work) false false
      (set_within h.flags (tile_number_of work) flag_set) in
      omega (arith, h.left, rw flag_set at set)

  pub awaits_next : AwaitsFrom kind live.composition live.sim.cur (i + 1) (with_tile (tile_number_of work) live.part)
  awaits_next = record {
    flags = slice_set h.flags (tile_number_of work) false;
    is_open = ap (with_tile (tile_number_of work)) h.is_open;
    waiting = waiting_after;
    left = left_after;
  }
