use Rattle.std.proofs.Common.{◌≤◌}
use Rattle.lj_program.proofs.serve.server.fn.answer_all.scope.Given as goal

abbrev pub invariant-loop-number : goal.invariant-loop-number
invariant-loop-number g l = l.accepted ≤ l.number-counter
