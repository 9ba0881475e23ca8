use Rattle.lj_wire.proofs.Passing.{Counting}
use Rattle.lj_wire.proofs.reader.load_body.pass.Given as goal

abbrev pub invariant-loop-left : goal.invariant-loop-left
invariant-loop-left g l = Counting l.fn.input l.input l.count l.left

abbrev pub decreases-loop-left : goal.decreases-loop-left
decreases-loop-left g l = l.left
