use Rattle.std.proofs.Common.{Decides}
use Rattle.lj_base.proofs.SameLemmas.{SameBefore}
use Rattle.lj_base.proofs.tokens.is_same.Given as goal

abbrev pub invariant-loop-i : goal.invariant-loop-i
invariant-loop-i l = Decides l.same (SameBefore l.i l.bytes l.word)
