-- What an end of a pool has seen: the tasks that it is owed, the number of results it was handed, and whether the pool is closed.
use Rattle.std.specs.Prelude.{◌≡◌, ℕ, ◌+◌, ◌-◌, ◌^◌, min, max, Bool, true, false, List, [], ◌∷◌, ◌++◌, ◌⊎◌}
use Rattle.std.specs.List.{Contains}
use Rattle.lj_task.specs.Task.{Task}

-- the tasks owed, in the order of their posts; the numbers of results that were owed and of strays, saturating; and whether the
-- pool was seen closed
pub record Seen : Type 0 where
  pub owed : List Task
  pub expected : ℕ
  pub strays : ℕ
  pub closed : Bool

-- nothing is owed, nothing is counted, and the pool is open
abbrev pub nothing_seen : Seen
nothing_seen = record { owed = []; expected = 0; strays = 0; closed = false }

-- the last value of a count
abbrev pub last_count : ℕ
last_count = 2 ^ 64 - 1

-- a count plus one, saturating at its last value
abbrev pub one_more : ℕ → ℕ
one_more n = max n (min (n + 1) last_count)

-- a pool that was seen closed stays closed
abbrev pub StaysClosed : Seen → Seen → Type 0
StaysClosed old new = old.closed ≡ true → new.closed ≡ true

-- The same tasks are owed, and nothing is counted.
pub record SameOwed (old new : Seen) : Type 0 where
  pub owed : new.owed ≡ old.owed
  pub expected : new.expected ≡ old.expected
  pub strays : new.strays ≡ old.strays

-- The task is owed after the others, and nothing is counted.
pub record IsPosted (task : Task) (old new : Seen) : Type 0 where
  pub owed : new.owed ≡ old.owed ++ task ∷ []
  pub expected : new.expected ≡ old.expected
  pub strays : new.strays ≡ old.strays

-- The tasks are owed after the others, in their order, and nothing is counted.
pub record ArePosted (tasks : List Task) (old new : Seen) : Type 0 where
  pub owed : new.owed ≡ old.owed ++ tasks
  pub expected : new.expected ≡ old.expected
  pub strays : new.strays ≡ old.strays

-- The first owed task that is equal to this one is taken off, and one more result that was owed is counted.
pub record TakesOff (task : Task) (old new : Seen) : Type 0 where
  pub front : List Task
  pub behind : List Task
  pub was : old.owed ≡ front ++ task ∷ behind
  pub first : Contains front task → ⊥
  pub owed : new.owed ≡ front ++ behind
  pub expected : new.expected ≡ one_more old.expected
  pub strays : new.strays ≡ old.strays

-- The task is not owed, and one more stray is counted.
pub record IsStray (task : Task) (old new : Seen) : Type 0 where
  pub absent : Contains old.owed task → ⊥
  pub owed : new.owed ≡ old.owed
  pub expected : new.expected ≡ old.expected
  pub strays : new.strays ≡ one_more old.strays

-- a result of this task is handed out
abbrev pub IsHandedOut : Task → Seen → Seen → Type 0
IsHandedOut task old new = TakesOff task old new ⊎ IsStray task old new
