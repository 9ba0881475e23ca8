-- The value of a simulation in the code, and its invariant.
use Rattle.std.specs.Prelude.{ℕ, ◌≤◌, ◌≡◌, Bool, false, slice_index_or, ℤ, pos, negsuc, ◌-ℤ◌, unsigned_abs, List, length, Option, Some, None}
use Rattle.std.specs.List.{range_with_len, filter}
use Rattle.lj_ring.specs.declared.coordinates.Place.{Place}
use Rattle.lj_ring.specs.declared.arcs.Arcs.{Arcs}
use Rattle.lj_ring.specs.Arcs.{arcs_of}
use Rattle.lj_task.specs.declared.task_name.Kind.{Kind}
use Rattle.lj_step.specs.declared.frames.TheConstants.{MAX_ATOMS}
use Rattle.lj_step.specs.declared.simulations.TheConstants.{MAX_STEP}
use Rattle.lj_step.specs.declared.simulations.Direction.{Direction}
use Rattle.lj_step.specs.declared.simulations.Direction.TheVariants.{Forward, Backward}
use Rattle.lj_step.specs.declared.simulations.Sim.TheInside.{Inside}
use Rattle.lj_step.specs.MotionLaws.{IsFrameOnRing}
use Rattle.lj_step.specs.Sim.{Sim, OpenStep}
use Rattle.lj_step.specs.OpenSteps.{block}
use Rattle.lj_step.specs.Sums.{HasCapacity, IsPartial}
use Rattle.lj_step.specs.Shared.{AreFramesOf}

-- the arcs of a block of a frame
abbrev pub block_arcs : List Place → ℕ → Arcs
block_arcs frame b = arcs_of (block frame b)

-- the numbers of the flags that are set
abbrev pub set_numbers : List Bool → List ℕ
set_numbers flags = filter (λ k. slice_index_or flags k false) (range_with_len 0 (length flags))

-- the direction as a number
abbrev pub sign_of : Direction → ℤ
sign_of Forward = pos 1
sign_of Backward = negsuc 0

-- the open step by its kind, if there is one, and its flags
abbrev pub open_step_of : Option Kind → List Bool → Option OpenStep
open_step_of None awaited = None
open_step_of (Some kind) awaited = Some (record { kind = kind; awaited = awaited })

abbrev pub sim_of : Inside → Sim
sim_of a = record {
  composition = a.atoms;
  sim = record { prev = a.prev.items; cur = a.cur.items; step = a.step; dir = sign_of a.dir };
  part = open_step_of a.partial.kind a.partial.awaited.items;
}

-- both frames have one count of atoms and lie on the ring, this and the last step number are at most MAX_STEP in size,
-- the sums of the open step are those of the tiles that are in, and what tasks share is the present frame
pub record IsSound (a : Inside) : Type 0 where
  pub same : length a.prev.items ≡ length a.cur.items
  pub some : 1 ≤ length a.cur.items
  pub most : length a.cur.items ≤ MAX_ATOMS
  pub prev_on_ring : IsFrameOnRing a.prev.items
  pub cur_on_ring : IsFrameOnRing a.cur.items
  pub step_bound : unsigned_abs a.step ≤ MAX_STEP
  pub last_bound : unsigned_abs (a.step -ℤ sign_of a.dir) ≤ MAX_STEP
  pub room : HasCapacity (length a.cur.items) a.partial
  pub partial : IsPartial a.atoms a.cur.items a.partial a.partial.kind
  pub shared : AreFramesOf a.cur.items a.shared
