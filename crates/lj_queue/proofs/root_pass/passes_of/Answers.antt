use Rattle.std.proofs.Common.{arith, ap}
use Rattle.lj_queue.specs.declared.rule.PassHistory.{PassHistory}
use Rattle.lj_queue.proofs.Moves.{forks}
use Rattle.lj_queue.proofs.root_pass.passes_of.Goals as goal

pub another-requires-clause-rule : goal.another-requires-clause-rule
another-requires-clause-rule g c =
    let rest = c.loop-number.invariant.rest in
    forks _ _ (omega (arith, rest.most, ap (λ (v : PassHistory). v.parts) rest.rest))
