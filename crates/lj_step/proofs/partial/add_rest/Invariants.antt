use Rattle.lj_step.specs.Sums.{HasPartAdded, sum_of}
use Rattle.lj_step.proofs.partial.add_rest.Given as goal

abbrev pub invariant-loop-place : goal.invariant-loop-place
invariant-loop-place l = HasPartAdded l.start l.from l.place (sum_of l.sums) l.fn.pushes l.pushes
