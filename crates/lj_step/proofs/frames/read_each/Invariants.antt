use Rattle.std.proofs.Common.{ℕ, ◌<◌}
use Rattle.lj_step.specs.Motion.{place_at}
use Rattle.lj_step.specs.MotionLaws.{IsOnRing}
use Rattle.lj_step.proofs.frames.read_each.Given as goal

abbrev pub invariant-loop-place : goal.invariant-loop-place
invariant-loop-place l = (k : ℕ) → k < l.place-index → IsOnRing (place_at l.places k)
