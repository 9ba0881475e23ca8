-- The value of a snapshot of a simulation, and its invariant.
use Rattle.std.specs.Prelude.{◌≤◌, ◌≡◌, ◌-ℤ◌, unsigned_abs, length}
use Rattle.lj_step.specs.declared.simulations.TheConstants.{MAX_STEP}
use Rattle.lj_step.specs.Motion.{Simulation}
use Rattle.lj_step.specs.MotionLaws.{IsFrameOnRing}
use Rattle.lj_step.specs.KeptSims.{sign_of}
use Rattle.lj_step.specs.declared.snapshots.Snapshot.TheInside.{Inside}

abbrev pub simulation_of : Inside → Simulation
simulation_of a = record { prev = a.prev.items; cur = a.cur.items; step = a.step; dir = sign_of a.dir }

-- both frames have one count of atoms and lie on the ring, and this and the last step number are at most MAX_STEP in
-- size
pub record IsSaved (a : Inside) : Type 0 where
  pub same : length a.prev.items ≡ length a.cur.items
  pub prev_on_ring : IsFrameOnRing a.prev.items
  pub cur_on_ring : IsFrameOnRing a.cur.items
  pub step_bound : unsigned_abs a.step ≤ MAX_STEP
  pub last_bound : unsigned_abs (a.step -ℤ sign_of a.dir) ≤ MAX_STEP
