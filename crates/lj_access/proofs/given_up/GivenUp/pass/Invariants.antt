use Rattle.std.proofs.Common.{length}
use Rattle.lj_access.proofs.Passing.{Passes}
use Rattle.lj_access.proofs.given_up.GivenUp.pass.Given as goal

abbrev pub invariant-loop-at : goal.invariant-loop-at
invariant-loop-at l = Passes l.user l.initial.directory l.directory l.initial.self l.self

abbrev pub decreases-loop-at : goal.decreases-loop-at
decreases-loop-at l = length l.self
