-- The value of a session in the code, and its invariant.
use Rattle.std.specs.Prelude.{◌≡◌, ◌≤◌, ◌*◌, unsigned_abs, pos, ◌+ℤ◌, ◌*ℤ◌, length}
use Rattle.std.specs.List.{AllByRecursion}
use Rattle.lj_step.specs.declared.simulations.TheConstants.{MAX_STEP}
use Rattle.lj_session.specs.UserState.{LiveSession, HasCount}
use Rattle.lj_session.specs.declared.live_session.LiveSession.TheInside.{Inside}

-- the value of a session's fields
abbrev pub session_of_kept : Inside → LiveSession
session_of_kept a =
    record { symbols = a.symbols.items; live = a.sim; passed = a.passed; saved = a.branches; pending = a.pending }

-- Each atom has its symbol, saved simulations have as many atoms as the session, and the step number after all pending
-- steps is in range.
pub record IsHeld (a : Inside) : Type 0 where
  pub symbols : length a.symbols.items ≡ length a.sim.sim.cur
  pub saved : AllByRecursion (HasCount (length a.sim.sim.cur)) a.branches
  pub near : unsigned_abs (a.sim.sim.step +ℤ a.sim.sim.dir *ℤ pos a.pending) ≤ MAX_STEP
  pub few : a.pending ≤ 2 * MAX_STEP
