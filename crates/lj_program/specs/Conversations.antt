-- A conversation of one user, who begins without sessions.
use Rattle.std.specs.Prelude.{◌≡◌, ℕ, List, Option, Result, Err}
use Rattle.std.specs.Io.KnownBytes.{IsAtEnd}
use Rattle.lj_quota.specs.declared.Quota.{Quota}
use Rattle.lj_session.specs.UserState.{UserState, empty_state}
use Rattle.lj_engine.specs.declared.served.Served.{Served}
use Rattle.lj_engine.specs.declared.served.Served.TheVariants.{End, PoolClosed, TooManyStrays}
use Rattle.lj_end.specs.Seen.{Seen, nothing_seen}
use Rattle.lj_engine.specs.Served.{Serves}
use Rattle.lj_program.specs.declared.program_fault.ProgramFault.{ProgramFault}
use Rattle.lj_program.specs.declared.program_fault.ProgramFault.TheVariants.{Write}
use Rattle.lj_program.specs.Outcomes.{ComesTo}

-- What was written is the dialogue of what was read, from a user of this quota without sessions, and serving ended as `served`
-- says; at the end of the input all was read. The pool is never given up.
pub record Converses (served : Served) (quota : Quota) (left was is : Option (List ℕ)) : Type 0 where
  pub rest : Option (List ℕ)
  pub seen : Seen
  pub next : Option UserState
  pub serves : Serves served (empty_state quota) left rest was is nothing_seen seen next
  pub all : served ≡ End → IsAtEnd rest
  pub never_closed : served ≡ PoolClosed → ⊥
  pub few_strays : served ≡ TooManyStrays → ⊥

-- A conversation, and its outcome by how serving ended; where the last flush fails it is a write fault.
pub record RunsOver (quota : Quota) (left was is : Option (List ℕ)) (outcome : Result (Unit {0}) ProgramFault) : Type 0 where
  pub served : Served
  pub converses : Converses served quota left was is
  pub comes_to : (outcome ≡ Err Write → ⊥) → ComesTo served outcome
