use Rattle.std.proofs.Common.{◌≡◌, length}
use Rattle.lj_task.specs.declared.task_name.Kind.TheVariants.{Force}
use Rattle.lj_step.specs.OpenSteps.{cover}
use Rattle.lj_step.specs.InOrder.{AwaitsFrom}
use Rattle.lj_step.proofs.round_trip.step.Given as goal

abbrev pub invariant-loop-i : goal.invariant-loop-i
invariant-loop-i g l = record {
  composition : l.sim.composition ≡ l.fn.sim.composition;
  motion : l.sim.sim ≡ l.fn.sim.sim;
  end : l.i-end ≡ length (cover l.sim.composition l.sim.sim.cur);
  tiles : AwaitsFrom Force l.sim.composition l.sim.sim.cur l.i l.sim.part;
}
