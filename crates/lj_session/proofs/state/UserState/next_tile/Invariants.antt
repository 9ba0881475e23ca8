use Rattle.lj_session.specs.UserState.{NoTaskBefore}
use Rattle.lj_session.proofs.state.UserState.next_tile.Given as goal

-- none of the sessions before has a task
abbrev pub invariant-loop-i : goal.invariant-loop-i
invariant-loop-i l = NoTaskBefore l.self l.i
