-- Why a task was not posted to a pool with a queue.
use Rattle.std.specs.Prelude.{◌≡◌, ◌-◌, ◌^◌, ⊤, ℕ, Option, cond, is_some}
use Rattle.lj_task.specs.Task.{Task}
use Rattle.lj_end.specs.declared.pool.NotPosted.{NotPosted}
use Rattle.lj_end.specs.declared.pool.NotPosted.TheVariants.{Closed, Full}
use Rattle.lj_queue.specs.declared.mailboxes.QueueClosed.{QueueClosed}
use Rattle.lj_queue.specs.declared.no_room.FullCause.{FullCause}
use Rattle.lj_queue.specs.declared.no_room.FullCause.TheVariants.{NoBox, PassSpent, QueueFull}
use Rattle.lj_queue.specs.declared.no_room.PostFault.{PostFault}
use Rattle.lj_queue.specs.declared.no_room.PostFault.TheVariants.{NoRoom, Closed as PoolClosed}

-- the number of boxes in a place for one
abbrev pub boxes_in : Option Task → ℕ
boxes_in place = cond (is_some place) 1 0

-- There was this cause for a poster with this many boxes, whose pass had pushed this many tasks: no box, a pass that has pushed all
-- that it may, or a queue that handed a task back at the next push.
abbrev pub IsCause : FullCause → ℕ → ℕ → Type 0
IsCause NoBox boxes pushed = boxes ≡ 0
IsCause PassSpent boxes pushed = pushed ≡ 2 ^ 64 - 1
IsCause (QueueFull refused) boxes pushed = refused.pushed ≡ pushed

-- the pool is closed, or there was this cause
abbrev pub IsCauseOf : PostFault → ℕ → ℕ → Type 0
IsCauseOf (NoRoom cause) boxes pushed = IsCause cause boxes pushed
IsCauseOf (PoolClosed closed) boxes pushed = ⊤

-- the pool is closed
abbrev pub SaysClosed : PostFault → Type 0
SaysClosed (NoRoom cause) = ⊥
SaysClosed (PoolClosed closed) = ⊤

-- the reason that a post returns: the pool is closed, or full
abbrev pub reason_of : PostFault → NotPosted QueueClosed
reason_of (NoRoom cause) = Full
reason_of (PoolClosed closed) = Closed closed
