-- The value of a user's state in the code, and its invariant.
use Rattle.std.specs.Prelude.{◌≡◌}
use Rattle.lj_session.specs.UserState.{UserState, Reached, used_by}
use Rattle.lj_session.specs.declared.state.UserState.TheInside.{Inside}

-- the value of a state's fields
abbrev pub state_of_kept : Inside → UserState
state_of_kept a = record { quota = a.quota; sessions = a.sessions.entries }

-- The running totals are the sums over the sessions, and commands lead to this user.
pub record IsState (a : Inside) : Type 0 where
  pub counted : a.used ≡ used_by (state_of_kept a)
  pub reached : Reached (state_of_kept a)
