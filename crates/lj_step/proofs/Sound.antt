-- What stays of a simulation in the code where its open step changes.
use Rattle.std.proofs.Common.{◌≡◌, ◌≤◌, ◌+◌, ◌*◌, ◌^◌, ◌+ℤ◌, ◌-ℤ◌, unsigned_abs, false, true, length, slice_index_or}
use Rattle.std.proofs.Common.{slice_set, vec_capacity, Some, None, refl, sym, ap, ◌∙◌, subst}
use Rattle.std.proofs.lemmas.Bool.{true≢false}
use Rattle.std.proofs.lemmas.List.{length-set}
use Rattle.lj_base.specs.declared.names.Label.{Label}
use Rattle.lj_task.specs.declared.task_name.Kind.{Kind}
use Rattle.lj_task.specs.declared.task_name.Kind.TheVariants.{Energy}
use Rattle.lj_task.specs.Task.{Task, task_energy}
use Rattle.lj_step.specs.declared.partial.Partial.{Partial}
use Rattle.lj_step.specs.declared.step_frames.StepFrames.{StepFrames}
use Rattle.lj_step.specs.declared.frames.TheConstants.{MAX_ATOMS}
use Rattle.lj_step.specs.declared.simulations.TheConstants.{MAX_STEP}
use Rattle.lj_step.specs.declared.simulations.Sim.TheInside.{Inside}
use Rattle.lj_step.specs.KeptSims.{IsSound, sim_of, sign_of}
use Rattle.lj_step.specs.MotionLaws.{IsFrameOnRing}
use Rattle.lj_step.specs.Sim.{Sim}
use Rattle.lj_step.specs.OpenSteps.{blocks, tile_number_of, tile_task, IsAwaitedTask}
use Rattle.lj_step.specs.Shared.{AreFramesOf}
use Rattle.lj_step.specs.Sums.{CanAdd, HasAdded, HasCapacity, IsPartial}
use Rattle.lj_step.proofs.TakenIn.{awaited_at, accepts, partial_after}

-- with another open step, and frames that its tasks share
pub with_step : (a : Inside) (p : Partial) (shared : StepFrames) → IsSound a → HasCapacity (length a.cur.items) p
    → IsPartial a.atoms a.cur.items p p.kind → AreFramesOf a.cur.items shared
    → IsSound (record a { partial = p; shared = shared })
with_step a p shared sound room partial frames = record {
  same = sound.same;
  some = sound.some;
  most = sound.most;
  prev_on_ring = sound.prev_on_ring;
  cur_on_ring = sound.cur_on_ring;
  step_bound = sound.step_bound;
  last_bound = sound.last_bound;
  room = room;
  partial = partial;
  shared = frames;
}

-- with another open step
pub with_partial : (a : Inside) (p : Partial) → IsSound a → HasCapacity (length a.cur.items) p
    → IsPartial a.atoms a.cur.items p p.kind
    → IsSound (record a { partial = p })
with_partial a p sound room partial = with_step a p a.shared sound room partial sound.shared

-- with the present frame as the one before, another one as the present, and no step open
pub with_frames : (a b : Inside) → IsSound a → b.prev.items ≡ a.cur.items
    → length b.cur.items ≡ length a.cur.items → IsFrameOnRing b.cur.items
    → unsigned_abs b.step ≤ MAX_STEP → unsigned_abs (b.step -ℤ sign_of b.dir) ≤ MAX_STEP
    → b.partial ≡ record a.partial { kind = None } → b.atoms ≡ a.atoms
    → b.shared ≡ record a.shared { is_written = false } → IsSound b
with_frames a b sound prev count cur step last partial atoms shared =
    let room = subst (λ n. HasCapacity n a.partial) (sym count) sound.room in
    record {
      same = ap length prev ∙ sym count;
      some = subst (λ n. 1 ≤ n) (sym count) sound.some;
      most = subst (λ n. n ≤ MAX_ATOMS) (sym count) sound.most;
      prev_on_ring = subst IsFrameOnRing (sym prev) sound.cur_on_ring;
      cur_on_ring = cur;
      step_bound = step;
      last_bound = last;
      room = subst (HasCapacity (length b.cur.items)) (sym partial)
          (record { pushes = room.pushes; awaited = room.awaited; tiles = room.tiles; arcs = room.arcs });
      partial = subst (λ p. IsPartial b.atoms b.cur.items p p.kind) (sym partial) tt;
      shared = subst (AreFramesOf b.cur.items) (sym shared) (record {
        present = sound.shared.present ∙ sym count;
        last = sound.shared.last ∙ sym count;
        written = λ h. absurd (true≢false (sym h));
      });
    }

-- with one result more, of a task that is awaited
module _ (a : Inside) (now : Sim) (label : Label) (asked work : Task) (sound : IsSound a)
    (view : sim_of a ≡ now) (same : asked ≡ work)
    (awaited : IsAwaitedTask now label asked) where
  wanted : (kind : Kind) × (a.partial.kind ≡ Some kind)
      × (slice_index_or a.partial.awaited.items (tile_number_of work) false ≡ true)
      × (work ≡ tile_task (sim_of a) label kind (tile_number_of work))
  wanted = awaited_at (sim_of a) now label asked work a.partial.kind a.partial.awaited.items view refl same awaited

  pub takes_in : CanAdd work a.partial
  takes_in = accepts (sim_of a) label work a.partial sound.most sound.room sound.partial wanted

  pub with_result : (q : Partial) → q.kind ≡ a.partial.kind → vec_capacity q.arcs ≡ vec_capacity a.partial.arcs
      → q.tiles.items ≡ a.partial.tiles.items
      → vec_capacity q.tiles ≡ vec_capacity a.partial.tiles
      → q.awaited.items ≡ slice_set a.partial.awaited.items (tile_number_of work) false → q.left + 1 ≡ a.partial.left
      → HasAdded work a.partial.pushes.items q.pushes.items
      → (work.name.kind ≡ Energy → q.energy ≡ a.partial.energy +ℤ task_energy work)
      → unsigned_abs q.energy ≤ unsigned_abs a.partial.energy + 2 ^ 63 → IsSound (record a { partial = q })
  with_result q kind arcs tiles capacity flags less added energy size =
      with_partial a q sound
      (record {
        pushes = added.count ∙ sound.room.pushes;
        awaited = ap length flags ∙ simp length-set sound.room.awaited;
        tiles = subst (λ n. 64 * blocks (length a.cur.items) ≤ n) (sym capacity) sound.room.tiles;
        arcs = subst (λ n. blocks (length a.cur.items) ≤ n) (sym arcs) sound.room.arcs;
      })
      (partial_after (sim_of a) label work a.partial sound.most sound.room sound.partial wanted q kind tiles
      flags less added energy size)
