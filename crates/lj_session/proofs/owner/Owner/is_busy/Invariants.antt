use Rattle.lj_session.specs.Owner.{has_pending}
use Rattle.lj_session.specs.UserState.{loaded_names}
use Rattle.lj_session.proofs.Firsts.{NoneBefore}
use Rattle.lj_session.proofs.owner.Owner.is_busy.Given as goal

-- none of the sessions before has a pending step
abbrev pub invariant-loop-i : goal.invariant-loop-i
invariant-loop-i l = NoneBefore (has_pending l.self) (loaded_names l.self.state) l.i
