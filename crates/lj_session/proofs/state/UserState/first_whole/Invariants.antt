use Rattle.lj_session.specs.UserState.{is_whole_in, loaded_names}
use Rattle.lj_session.proofs.Firsts.{NoneBefore}
use Rattle.lj_session.proofs.state.UserState.first_whole.Given as goal

-- none of the sessions before passes
abbrev pub invariant-loop-i : goal.invariant-loop-i
invariant-loop-i l = NoneBefore (is_whole_in l.self) (loaded_names l.self) l.i
