use Rattle.lj_queue.proofs.Moves.{push_asked}
use Rattle.std.proofs.Common.{rules}
use Rattle.lj_queue.proofs.pass.CountedPass.push.Goals as goal

pub push_as-requires-clause-rule : goal.push_as-requires-clause-rule
push_as-requires-clause-rule g c = push_asked _ _ _ _ (search rules)
