use Rattle.std.proofs.Common.{◌*◌}
use Rattle.lj_step.specs.Sums.{HasPartAdded, sum_of}
use Rattle.lj_step.proofs.partial.add_fours.Given as goal

abbrev pub invariant-loop-group : goal.invariant-loop-group
invariant-loop-group l = HasPartAdded l.start 0 (4 * l.group) (sum_of l.sums) l.fn.pushes l.pushes
