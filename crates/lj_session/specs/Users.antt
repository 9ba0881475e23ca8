-- A user: a quota, and sessions under names.
use Rattle.std.specs.Prelude.{ℕ, List, [], length}
use Rattle.std.specs.List.{sum_by}
use Rattle.lj_branch.specs.Named.{with_value}
use Rattle.lj_task.specs.Species.{Composition}
use Rattle.lj_step.specs.Motion.{Simulation}
use Rattle.lj_quota.specs.declared.Quota.{Quota}

-- a session: the symbols and the composition of its atoms, its simulation, and simulations saved under names, in order
-- of saving
pub record Session : Type 0 where
  pub symbols : List (List ℕ)
  pub composition : Composition
  pub sim : Simulation
  pub saved : List (List ℕ × Simulation)

-- a user: a quota, and sessions under names, in order of loading
pub record User : Type 0 where
  pub quota : Quota
  pub sessions : List (List ℕ × Session)

-- the user without sessions
abbrev pub fresh_user : Quota → User
fresh_user quota = record { quota = quota; sessions = [] }

-- the user with this session under a name
abbrev pub with_session : List ℕ → Session → User → User
with_session name session user = record user { sessions = with_value name session user.sessions }

-- how many atoms a session has
abbrev pub atoms_of : Session → ℕ
atoms_of session = length session.sim.cur

-- how many sessions a user has
abbrev pub sessions_used : User → ℕ
sessions_used user = length user.sessions

-- how many atoms its sessions have together
abbrev pub atoms_used : User → ℕ
atoms_used user = sum_by (λ entry. atoms_of entry.1) user.sessions

-- how many simulations its sessions have saved together
abbrev pub branches_used : User → ℕ
branches_used user = sum_by (λ entry. length entry.1.saved) user.sessions
