use Rattle.std.proofs.Common.{◌≡◌, ◌<◌, ◌≤◌, ℕ, length, slice_index_or}
use Rattle.lj_task.specs.Pushes.{no_push}
use Rattle.lj_step.specs.Motion.{place_at, next_place}
use Rattle.lj_step.proofs.simulations.advance.Given as goal

abbrev pub invariant-loop-i : goal.invariant-loop-i
invariant-loop-i l = record {
  same : length l.prev.items ≡ length l.cur;
  done : (k : ℕ) → k < l.i → place_at l.prev.items k
      ≡ next_place (place_at l.fn.prev.items k) (place_at l.cur k) (slice_index_or l.pushes k no_push);
  left : (k : ℕ) → l.i ≤ k → place_at l.prev.items k ≡ place_at l.fn.prev.items k;
}
