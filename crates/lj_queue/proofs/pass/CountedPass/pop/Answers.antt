use Rattle.lj_queue.proofs.Moves.{pop_asked}
use Rattle.std.proofs.Common.{rules}
use Rattle.lj_queue.proofs.pass.CountedPass.pop.Goals as goal

pub pop_as-requires-clause-rule : goal.pop_as-requires-clause-rule
pop_as-requires-clause-rule g c = pop_asked _ _ (search rules)
