-- The boxes of the copies of tasks that are posted together.
use Rattle.std.specs.Prelude.{◌≡◌, ◌<◌, ◌≤◌, ℕ, List, Option, None, length, slice_index_or}
use Rattle.std.specs.Option.{ForSome}
use Rattle.lj_task.specs.Blank.{blank_task}
use Rattle.lj_task.specs.Task.{Task}

-- Each box that is there has a copy of the task at its place.
abbrev pub AreCopies : List (Option Task) → List Task → Type 0
AreCopies boxes tasks = (k : ℕ) → k < length tasks
    → ForSome (slice_index_or boxes k None) (λ copy. copy ≡ slice_index_or tasks k blank_task)

-- The boxes of the first `posted` places were handed over, and the others stay in their places.
pub record HandsOver (posted : ℕ) (old new : List (Option Task)) : Type 0 where
  pub out_of_hand : (k : ℕ) → k < posted → slice_index_or new k None ≡ None
  pub handed_back : (k : ℕ) → posted ≤ k → slice_index_or new k None ≡ slice_index_or old k None
  pub places : length new ≡ length old
