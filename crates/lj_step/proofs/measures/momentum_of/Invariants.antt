use Rattle.std.proofs.Common.{◌≡◌, ◌≤◌, ◌*◌, ◌^◌, unsigned_abs}
use Rattle.lj_ring.specs.Ring.{image, int_sum_below}
use Rattle.lj_step.specs.Motion.{place_at}
use Rattle.lj_step.proofs.measures.momentum_of.Given as goal

abbrev pub invariant-loop-i : goal.invariant-loop-i
invariant-loop-i l = record {
  x : l.sum.x ≡ int_sum_below l.i (λ i. image (place_at l.cur i).x (place_at l.prev i).x);
  y : l.sum.y ≡ int_sum_below l.i (λ i. image (place_at l.cur i).y (place_at l.prev i).y);
  z : l.sum.z ≡ int_sum_below l.i (λ i. image (place_at l.cur i).z (place_at l.prev i).z);
  x_most : unsigned_abs l.sum.x ≤ l.i * 2 ^ 31;
  y_most : unsigned_abs l.sum.y ≤ l.i * 2 ^ 31;
  z_most : unsigned_abs l.sum.z ≤ l.i * 2 ^ 31;
}
