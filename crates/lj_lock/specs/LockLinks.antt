-- What an end of a pool behind a lock has of the pool.
use Rattle.std.specs.Prelude.{◌≡◌, ℕ, ◌+◌, ◌≤◌, Bool, false, List, [], Option, cond, unwrap_or}
use Rattle.lj_task.specs.Task.{Task}
use Rattle.lj_task.specs.Blank.{blank_task}
use Rattle.lj_lock.specs.EndBoxes.{IsNext}

-- the user that it is for, if it is for one alone, the task of the result handed out last, whether one was handed out at all, the tasks
-- of the results in hand, and the number of spare boxes
pub record LockLink : Type 0 where
  pub user : Option ℕ
  pub last : Task
  pub shown : Bool
  pub hand : List Task
  pub spare : ℕ

-- one without boxes
abbrev pub link_without_boxes : Option ℕ → LockLink
link_without_boxes user = record { user = user; last = blank_task; shown = false; hand = []; spare = 0 }

-- A task was pushed: it is for the same user, and has the same results.
pub record IsPushed (task : Task) (old new : LockLink) : Type 0 where
  pub user : new.user ≡ old.user
  pub hand : new.hand ≡ old.hand

-- No task was pushed, and no box has gone.
pub record IsUnpushed (old new : LockLink) : Type 0 where
  pub user : new.user ≡ old.user
  pub hand : new.hand ≡ old.hand
  pub box_kept : new.spare ≡ old.spare

-- This many tasks were pushed, and no more spare boxes have gone.
pub record ArePushed (count : ℕ) (old new : LockLink) : Type 0 where
  pub user : new.user ≡ old.user
  pub hand : new.hand ≡ old.hand
  pub boxes_kept : old.spare ≤ new.spare + count

-- The next result of its user was taken, or of this one if it is for any. The box of the result before it is spare.
pub record IsTaken (user : ℕ) (old new : LockLink) : Type 0 where
  pub same_user : new.user ≡ old.user
  pub next : IsNext (unwrap_or old.user user) old.hand new.last new.hand
  pub box_freed : cond old.shown 1 0 ≤ new.spare

-- No result was taken.
pub record IsUntaken (old new : LockLink) : Type 0 where
  pub user : new.user ≡ old.user
  pub hand : new.hand ≡ old.hand
