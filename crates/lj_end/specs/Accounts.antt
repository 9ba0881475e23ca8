-- How an end stores the tasks that are owed to it: each in a place, and the places in the order of the posts.
use Rattle.std.specs.Prelude.{◌≡◌, ℕ, ◌<◌, ◌≤◌, ◌≢◌, ◌⊎◌, Bool, true, false, List, [], ◌∷◌, ◌++◌, Option, None, length, take, cond, count_by}
use Rattle.std.specs.Prelude.{nat_eq, nat_lt, slice_index_or}
use Rattle.std.specs.List.{Contains}
use Rattle.lj_step.specs.OpenSteps.{tile_number_of}
use Rattle.lj_task.specs.Blank.{blank_task}
use Rattle.lj_task.specs.Task.{Task}
use Rattle.lj_end.specs.declared.pool.TheConstants.{MAX_OWED}
use Rattle.lj_end.specs.InlinePool.{tasks_in}

-- how often a number occurs in a list
abbrev pub occurrences : ℕ → List ℕ → ℕ
occurrences k numbers = count_by (λ j. nat_eq j k) numbers

-- the tasks in these places, in their order
abbrev pub tasks_owed : List (Option Task) → List ℕ → List Task
tasks_owed tasks [] = []
tasks_owed tasks (place ∷ places) = tasks_in (slice_index_or tasks place None) ++ tasks_owed tasks places

-- Each place is in the list of places once, and the first ones hold the tasks that are owed.
pub record IsKeptAccount (tasks : List (Option Task)) (places : List ℕ) (owed : ℕ) : Type 0 where
  pub size : length tasks ≡ MAX_OWED
  pub once : (place : ℕ) → occurrences place places ≡ cond (nat_lt place MAX_OWED) 1 0
  pub all : length places ≡ MAX_OWED
  pub most : owed ≤ MAX_OWED
  pub count : length (tasks_owed tasks (take owed places)) ≡ owed

-- each owed task of this name is this task
abbrev pub IsKnownByName : List Task → Task → Type 0
IsKnownByName owed task = (other : Task) → Contains owed other → other.name ≡ task.name → other ≡ task

-- what a predicate returns for the tasks of this tile number, and false for all others
abbrev pub AnswersOf : ℕ → (Task → Bool → Type 0) → Task → Bool → Type 0
AnswersOf tile Returns task answer = Returns task answer ⊎ ((tile_number_of task ≢ tile) × (answer ≡ false))

-- A predicate returns true for the task at this position, and false for those before it.
pub record IsFirst (Returns : Task → Bool → Type 0) (owed : List Task) (here : ℕ) : Type 0 where
  pub within : here < length owed
  pub is : Returns (slice_index_or owed here blank_task) true
  pub before : (k : ℕ) → k < here → Returns (slice_index_or owed k blank_task) false

-- A predicate returns false for each.
pub record IsNowhere (Returns : Task → Bool → Type 0) (owed : List Task) : Type 0 where
  pub each : (k : ℕ) → k < length owed → Returns (slice_index_or owed k blank_task) false
