use Rattle.std.proofs.Common.{◌≡◌, ◌≤◌, ◌+◌, unsigned_abs}
use Rattle.lj_step.specs.Motion.{steps}
use Rattle.lj_step.proofs.round_trip.go.Given as goal

abbrev pub invariant-loop : goal.invariant-loop
invariant-loop g l = record {
  composition : l.sim.composition ≡ l.fn.sim.composition;
  motion : l.sim.sim ≡ steps l.fn.sim.composition l.counter l.fn.sim.sim;
  step : unsigned_abs l.sim.sim.step ≤ unsigned_abs l.fn.sim.sim.step + l.counter;
  dir : unsigned_abs l.sim.sim.dir ≡ 1;
}
