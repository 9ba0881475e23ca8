use Rattle.std.proofs.Common.{◌≡◌, ◌≤◌, ◌*◌, ◌^◌}
use Rattle.lj_ring.specs.Ring.{squared_distance, sum_below}
use Rattle.lj_step.specs.Motion.{place_at}
use Rattle.lj_step.proofs.measures.kinetic_of.Given as goal

abbrev pub invariant-loop-i : goal.invariant-loop-i
invariant-loop-i l = record {
  value : l.sum ≡ sum_below l.i (λ i. squared_distance (place_at l.cur i) (place_at l.prev i));
  most : l.sum ≤ l.i * (3 * 2 ^ 62);
}
