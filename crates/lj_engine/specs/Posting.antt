-- Several tasks posted at once: which they are, and where no more of them can be posted.
use Rattle.std.specs.Prelude.{◌≡◌, ◌<◌, ◌+◌, ◌⊎◌, ℕ, zero, suc, Bool, false, List, Some, None, length, slice_index_or}
use Rattle.lj_task.specs.Blank.{blank_task}
use Rattle.lj_task.specs.Task.{Task}
use Rattle.lj_session.specs.declared.tile_cursor.TileCursor.{TileCursor}
use Rattle.lj_session.specs.Cursors.{owner_posted_to}
use Rattle.lj_session.specs.Owner.{Owner, next_task_of, with_task_posted}
use Rattle.lj_end.specs.Seen.{Seen}
use Rattle.lj_engine.specs.Coming.{GoesOn}

-- with the next n tasks noted as posted
abbrev pub after_posts : ℕ → Owner → Owner
after_posts zero owner = owner
after_posts (suc n) owner = with_task_posted (after_posts n owner)

-- The first n of these are the next tasks of an owner, in their order.
abbrev pub AreNext : ℕ → List Task → Owner → Type 0
AreNext n tasks owner =
    (k : ℕ) → k < n → next_task_of (after_posts k owner) ≡ Some (slice_index_or tasks k blank_task)

-- These are the positions behind the first n of the next tasks, which are of the cursor's session.
abbrev pub AreEnds : ℕ → List ℕ → TileCursor → Owner → Type 0
AreEnds n ends cursor owner =
    (k : ℕ) → k < n → after_posts (k + 1) owner ≡ owner_posted_to cursor (slice_index_or ends k 0) owner

-- No tile waits to be posted, as many tasks are owed as may be, or the pool may refuse a task before that.
abbrev pub HasPostedAll : Bool → ℕ → Owner → Seen → Type 0
HasPostedAll takes_all most owner seen = (next_task_of owner ≡ None) ⊎ (length seen.owed ≡ most) ⊎ (takes_all ≡ false)

-- Work went on, and at one moment of it as many tasks were posted as could be.
pub record PostsAhead (takes_all : Bool) (most : ℕ) (old : Owner) (before : Seen) (new : Owner) (after : Seen) : Type 0 where
  -- the owner, and what was seen, at that moment
  pub owner : Owner
  pub seen : Seen
  pub until : GoesOn old before owner seen
  pub all : HasPostedAll takes_all most owner seen
  pub since : GoesOn owner seen new after
