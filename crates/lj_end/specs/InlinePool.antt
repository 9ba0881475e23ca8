-- A pool without threads: its state, and what its end has seen.
use Rattle.std.specs.Prelude.{ℕ, Bool, false, List, [], ◌∷◌, Option, Some, None}
use Rattle.lj_task.specs.Blank.{blank_task}
use Rattle.lj_task.specs.Task.{Task}
use Rattle.lj_end.specs.Seen.{Seen}

-- the task of the result that is owed, if there is one; whether it was taken, and is not counted yet; the number of results counted,
-- saturating; and the task of the result in its slot, owed or handed out
pub record InlinePool : Type 0 where
  pub owed : Option Task
  pub taken : Bool
  pub expected : ℕ
  pub last : Task

-- no result is owed or taken, none is counted, and the task in its slot is blank
abbrev pub empty_pool : InlinePool
empty_pool = record { owed = None; taken = false; expected = 0; last = blank_task }

-- the task that is there, if there is one
abbrev pub tasks_in : Option Task → List Task
tasks_in (Some task) = task ∷ []
tasks_in None = []

-- what the pool owes is owed to its end; there are no strays, and the pool is never closed
abbrev pub seen_of : InlinePool → Seen
seen_of pool = record { owed = tasks_in pool.owed; expected = pool.expected; strays = 0; closed = false }
