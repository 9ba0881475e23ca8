-- The passes of a pool with a queue, and its ends.
use Rattle.std.specs.Prelude.{◌≡◌, ℕ, ◌+◌, ◌-◌, ◌<◌, ◌≤◌, ◌^◌, Bool, List, [], ◌∷◌, ◌++◌, Option, length, slice_index_or}
use Rattle.std.specs.List.{All}
use Rattle.atomic_table.specs.Seated.{TableId}
use Rattle.crossbeam_queue.specs.Passes.{Pass, view}
use Rattle.lj_task.specs.Task.{Task}
use Rattle.lj_task.specs.declared.task_name.TaskName.{TaskName}
use Rattle.lj_queue.specs.declared.open_task.OpenTask.{OpenTask}
use Rattle.lj_queue.specs.declared.kept_boxes.TheConstants.{MAX_SPARE_BOXES}
use Rattle.lj_queue.specs.declared.rule.PassHistory.{PassHistory}
use Rattle.lj_queue.specs.Balance.{all_parts, history_of, LeavesTasks}

-- an open task that an end posted for its user
abbrev pub open_task_of : ℕ → ℕ → Task → OpenTask
open_task_of end user task = record { end = end; user = user; task = task }

-- a pass: its number, and the open tasks that it pushed and popped, in order
pub record PoolPass : Type 0 where
  pub number : ℕ
  pub pushed : List OpenTask
  pub popped : List OpenTask

-- a pass that has pushed and popped nothing
abbrev pub untouched_pass : ℕ → PoolPass
untouched_pass number = record { number = number; pushed = []; popped = [] }

-- each of the first `count` passes has its index as its number, and has pushed and popped nothing
abbrev pub AreUntouched : ℕ → List PoolPass → Type 0
AreUntouched count passes = (i : ℕ) → i < count → slice_index_or passes i (untouched_pass 0) ≡ untouched_pass i

-- one more open task was pushed
abbrev pub with_push : PoolPass → OpenTask → PoolPass
with_push pass ticket = record { number = pass.number; pushed = pass.pushed ++ ticket ∷ []; popped = pass.popped }

-- who posts: the pass of an end, with the end's number, its user, and the task in the box for the next one if there is one
pub record Poster : Type 0 where
  pub pass : PoolPass
  pub end : ℕ
  pub user : ℕ
  pub next : Option Task

-- a task was pushed for the end and its user
abbrev pub with_post : Poster → Task → Poster
with_post poster task = record poster { pass = with_push poster.pass (open_task_of poster.end poster.user task) }

-- one more open task was popped
abbrev pub with_pop : PoolPass → OpenTask → PoolPass
with_pop pass ticket = record { number = pass.number; pushed = pass.pushed; popped = pass.popped ++ ticket ∷ [] }

-- a pass of the queue by its number and what it has pushed and popped
abbrev pub pass_of : ℕ → Pass OpenTask PassHistory → PoolPass
pass_of number pass =
    record { number = number; pushed = (view pass).pushed; popped = (view pass).popped }

-- it is a pass of the queue of this name, and holds no slot of that queue
pub record IsOf (table : TableId) (pass : Pass OpenTask PassHistory) : Type 0 where
  pub same_table : pass.table_id ≡ table
  pub none_out : pass.me.1 ≡ []

-- A pass of one part, with the lengths of its lists.
pub record IsCounted (table : TableId) (pass : Pass OpenTask PassHistory) (pushed popped : ℕ) : Type 0 where
  pub is_of : IsOf table pass
  pub one : (view pass).parts ≡ 1
  pub all_pushed : pushed ≡ length (view pass).pushed
  pub all_popped : popped ≡ length (view pass).popped

-- The root pass: what is left of the first pass after `passes` passes of one part each were cut off.
pub record IsRootPass (table : TableId) (passes : ℕ) (pass : Pass OpenTask PassHistory) : Type 0 where
  pub is_of : IsOf table pass
  pub most : passes < 2 ^ 64
  pub rest : view pass ≡ history_of (all_parts - passes) [] []

-- what a pool is made from: the name of its ledger, the number of parts of that, and the name of its queue
pub record QueueBlank : Type 0 where
  pub name : ℕ
  pub parts : ℕ
  pub table : TableId

-- what an end has of its pool: its pass, its number, its user, the task of the result that it shows, the tasks of the results in hand,
-- and the number of boxes that it has for tasks
pub record QueueLink : Type 0 where
  pub pass : PoolPass
  pub number : ℕ
  pub user : ℕ
  pub last : Task
  pub hand : List Task
  pub boxes : ℕ

-- It is that of the same end, by its number and its user.
pub record IsSameLink (old new : QueueLink) : Type 0 where
  pub number : new.number ≡ old.number
  pub user : new.user ≡ old.user

-- An end pushed this task and nothing else, and lost one box at most: that of the task.
pub record HasPushed (task : Task) (old new : QueueLink) : Type 0 where
  pub pass : new.pass ≡ with_push old.pass (open_task_of old.number old.user task)
  pub same_link : IsSameLink old new
  pub hand : new.hand ≡ old.hand
  pub one_box : old.boxes ≤ MAX_SPARE_BOXES → old.boxes ≤ new.boxes + 1

-- An end pushed nothing, and lost no box.
pub record HasPushedNothing (old new : QueueLink) : Type 0 where
  pub pass : new.pass ≡ old.pass
  pub same_link : IsSameLink old new
  pub hand : new.hand ≡ old.hand
  pub box_kept : old.boxes ≤ MAX_SPARE_BOXES → old.boxes ≤ new.boxes

-- The next result of its user was taken, the first in hand if there was one. The box of the result before it is one for tasks, unless
-- there are enough.
pub record HasTaken (old new : QueueLink) : Type 0 where
  pub pass : new.pass ≡ old.pass
  pub same_link : IsSameLink old new
  pub whose : new.last.name.label.user ≡ old.user
  pub in_hand : 0 < length old.hand → old.hand ≡ new.last ∷ new.hand
  pub box_freed : old.boxes < MAX_SPARE_BOXES → new.boxes ≡ old.boxes + 1
  pub boxes : old.boxes ≤ new.boxes

-- No result was taken, and no box has gone.
pub record HasTakenNothing (old new : QueueLink) : Type 0 where
  pub pass : new.pass ≡ old.pass
  pub same_link : IsSameLink old new
  pub boxes : old.boxes ≤ new.boxes

-- the name of no queue
abbrev pub no_table : TableId
no_table = record {
  words = 0;
  slots = 0;
  views_name = 0;
  atom = 0;
  block = 0;
  offset = 0;
  slot_names = [];
}

-- A pass popped `more`, and nothing else, since then: the tasks `again`, which a gate may send back and which the pass pushed
-- again, and `others`, at least `results` of them.
pub record PopsFor (results : ℕ) (may_send_back : TaskName → Type 0) (old new : PoolPass) : Type 0 where
  pub more : List OpenTask
  pub again : List OpenTask
  pub others : List OpenTask
  pub popped : new.popped ≡ old.popped ++ more
  pub pushed : new.pushed ≡ old.pushed ++ again
  pub each : LeavesTasks more again others
  pub sent_back : All (λ ticket. may_send_back ticket.task.name) again
  pub enough : results ≤ length others
