-- The work still to come for the pending steps of sessions and for the pending command: turns, tiles, and posts.
use Rattle.std.specs.Prelude.{◌≡◌, ◌≤◌, ℕ, ◌+◌, ◌-◌, true, false, nat_lt, List, Option, Some, None, if◌then◌else◌}
use Rattle.std.specs.Option.{option_map_or}
use Rattle.lj_step.specs.Motion.{next_simulation}
use Rattle.lj_step.specs.OpenSteps.{tiles_of}
use Rattle.lj_session.specs.declared.command.Command.{Command}
use Rattle.lj_session.specs.Turns.{turns}
use Rattle.lj_session.specs.UserState.{LiveSession, UserState, pending_in, steps_before}
use Rattle.lj_session.specs.Owner.{Owner, user_in, is_waited_for, WaitsAlike}
use Rattle.lj_wire.specs.declared.item.Item.{Item}
use Rattle.lj_end.specs.Seen.{Seen}
use Rattle.lj_engine.specs.Gathering.{Gathers, tiles_left_in}
use Rattle.lj_engine.specs.Counting.{steps_tiles, command_tiles, item_tiles, sum_over, CountsRise, HandedWithin}

-- the number of tiles of the pending steps of a session after the open one
abbrev pub tiles_after : LiveSession → ℕ
tiles_after session =
    steps_tiles session.live.composition (session.pending - 1) (next_simulation session.live.composition session.live.sim)

-- the number of tiles of a session whose results are still to come
abbrev pub tiles_of_session : LiveSession → ℕ
tiles_of_session session = tiles_left_in session.live.part + tiles_after session

-- the number of tiles of a session after the last one that was posted
abbrev pub posts_of_session : LiveSession → ℕ
posts_of_session session = (tiles_of session.live - session.passed) + tiles_after session

-- the tiles of the pending command's own steps, while it waits for steps pending before it
abbrev pub waiting_tiles_of : Owner → Option Command → ℕ
waiting_tiles_of owner None = 0
waiting_tiles_of owner (Some command) =
    if nat_lt 0 (steps_before owner.state command) then command_tiles (user_in owner) command else 0

abbrev pub waiting_tiles : Owner → ℕ
waiting_tiles owner = waiting_tiles_of owner owner.waiting

-- the number of turns to come
abbrev pub turns_coming : Owner → ℕ
turns_coming owner =
    sum_over (λ session. session.pending) owner.state + option_map_or (turns (user_in owner)) owner.waiting 0

-- the number of tiles to come of the pending steps
abbrev pub state_tiles_coming : UserState → ℕ
state_tiles_coming state = sum_over tiles_of_session state

-- the number of tiles to come of the pending steps and of the pending command
abbrev pub tiles_coming : Owner → ℕ
tiles_coming owner = state_tiles_coming owner.state + waiting_tiles owner

-- the number of tiles to be posted, or to be skipped because their results come before
abbrev pub posts_coming : Owner → ℕ
posts_coming owner = sum_over posts_of_session owner.state + waiting_tiles owner

-- the number of tiles to come of the pending steps and of an item
abbrev pub tiles_with_item : Owner → Item → ℕ
tiles_with_item owner item = state_tiles_coming owner.state + item_tiles (user_in owner) item

-- No session has more pending steps than before, except the one that the pending command waits for.
abbrev pub HasNoMorePending : Owner → UserState → Type 0
HasNoMorePending old new = (name : List ℕ) → is_waited_for old.waiting name ≡ false → pending_in new name ≤ pending_in old.state name

-- No step is pending in the session that the pending command waited for.
abbrev pub HasNonePendingWhereWaited : Owner → UserState → Type 0
HasNonePendingWhereWaited old new = (name : List ℕ) → is_waited_for old.waiting name ≡ true → pending_in new name ≡ 0

-- Work on the owner's steps went on over the pool, and no command was answered.
pub record GoesOn (old : Owner) (before : Seen) (new : Owner) (after : Seen) : Type 0 where
  -- The pool owes the tasks that are posted and whose results are not in, and no others.
  pub gathers : Gathers new after.owed
  -- The pending command will be answered as it would have been; where none is pending, the user is the same.
  pub alike : WaitsAlike old new
  -- It is the owner of the same user.
  pub number : new.number ≡ old.number
  -- The user has the same quota.
  pub quota : new.state.quota ≡ old.state.quota
  -- At least as many results were counted as tiles are no more to come.
  pub counted : CountsRise (tiles_coming old - tiles_coming new) before after
  -- At most as many results that were owed were handed out.
  pub handed : HandedWithin (tiles_coming old) (tiles_coming new) before after
  -- No more turns are to come than before.
  pub turns : turns_coming new ≤ turns_coming old
  -- No more tiles are to come than before.
  pub tiles : tiles_coming new ≤ tiles_coming old
  -- No more tiles are to be posted than before.
  pub posts : posts_coming new ≤ posts_coming old
  -- No session has more pending steps than before, except the one that the pending command waits for.
  pub pending : HasNoMorePending old new.state
  -- The pending command waits for the same session.
  pub waits : (name : List ℕ) → is_waited_for new.waiting name ≡ is_waited_for old.waiting name
