-- What pending work leaves behind: where it is answered, where it is given up, and where a stray came.
use Rattle.std.specs.Prelude.{◌≡◌, ◌-◌, ◌<◌, ℕ, None, true}
use Rattle.lj_session.specs.declared.reply.Reply.{Reply}
use Rattle.lj_session.specs.Owner.{Owner, IsReplied, IsSettled, user_in}
use Rattle.lj_wire.specs.declared.item.Item.{Item}
use Rattle.lj_wire.specs.PendingItems.{item_before}
use Rattle.lj_end.specs.declared.pool.TheConstants.{MAX_STRAYS}
use Rattle.lj_engine.specs.declared.running.Halt.{Halt}
use Rattle.lj_engine.specs.declared.running.Halt.TheVariants.{PoolClosed, TooManyStrays}
use Rattle.lj_end.specs.Seen.{Seen}
use Rattle.lj_engine.specs.Gathering.{Gathers}
use Rattle.lj_engine.specs.Counting.{CountsRise, FallsShort, HandedWithin, StraysRise}
use Rattle.lj_engine.specs.Coming.{HasNoMorePending, HasNonePendingWhereWaited, tiles_coming, state_tiles_coming, tiles_with_item}
use Rattle.lj_engine.specs.PendingBounds.{HasPendingAfter}
use Rattle.lj_engine.specs.Serving.{AnswersItem}

-- why it was given up: the pool is closed, or at least 4,096 strays came
abbrev pub IsHalted : Halt → Seen → Seen → Type 0
IsHalted PoolClosed old new = new.closed ≡ true
IsHalted TooManyStrays old new = StraysRise MAX_STRAYS old new

-- The user is the same.
pub record IsSameUser (old new : Owner) : Type 0 where
  -- It has the same number.
  pub number : new.number ≡ old.number
  -- It has the same quota.
  pub quota : new.state.quota ≡ old.state.quota

-- Work has ended with this reply. Before it `number` tiles were to come.
pub record FinishesWork (number : ℕ) (before : Seen) (reply : Reply) (new : Owner) (after : Seen) : Type 0 where
  -- No step is pending in a session whose frame the reply prints.
  pub settled : IsSettled new.state reply
  -- No command is pending.
  pub idle : new.waiting ≡ None
  -- The pool owes the tasks that are posted and whose results are not in, and no others.
  pub gathers : Gathers new after.owed
  -- At least as many results were counted as tiles are no more to come.
  pub counted : CountsRise (number - state_tiles_coming new.state) before after
  -- At most as many results that were owed were handed out.
  pub handed : HandedWithin number (state_tiles_coming new.state) before after

-- The pending command is answered with this reply.
pub record AnswersPending (old : Owner) (before : Seen) (reply : Reply) (new : Owner) (after : Seen) : Type 0 where
  -- The reply and the user are those that the command leaves, under some mark.
  pub replied : IsReplied old reply (user_in new)
  -- The work has ended, and what came was counted.
  pub finished : FinishesWork (tiles_coming old) before reply new after
  -- No other session has more pending steps than before.
  pub no_more : HasNoMorePending old new.state
  -- No step is pending in the session that the command waited for.
  pub rests : HasNonePendingWhereWaited old new.state

-- The item is answered with this reply.
pub record AnswersNext (old : Owner) (item : Item) (before : Seen) (reply : Reply) (new : Owner) (after : Seen) : Type 0 where
  -- The reply and the user are those that the item leaves, under some mark.
  pub answered : AnswersItem (user_in old) item reply (user_in new)
  -- The work has ended, and what came was counted.
  pub finished : FinishesWork (tiles_with_item old item) before reply new after
  -- No session has more pending steps than its bound after the item.
  pub pending : HasPendingAfter old.state item new.state

-- The item had to wait, and is not answered.
pub record LeavesUnanswered (old : Owner) (item : Item) (before after : Seen) : Type 0 where
  -- Steps were to be made before it could be answered.
  pub waits : 0 < item_before old.state item
  -- Fewer results that were owed were handed out than tiles were to come.
  pub missing : FallsShort (tiles_with_item old item) before after

-- A result of no awaited tile was fetched.
pub record FetchesStray (owner : Owner) (before after : Seen) : Type 0 where
  -- It is counted as a stray.
  pub stray : StraysRise 1 before after
  -- The same tasks are owed.
  pub kept : after.owed ≡ before.owed
  -- A tile is still to come.
  pub awaits : 0 < tiles_coming owner
