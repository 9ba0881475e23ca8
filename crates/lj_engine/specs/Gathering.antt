-- The open steps whose tasks a pool computes: which tasks are owed, and that each tile still awaited is one of the step's cover.
use Rattle.std.specs.Prelude.{◌≡◌, ◌≤◌, ℕ, Bool, true, false, List, [], length, map, take, slice_index_or}
use Rattle.std.specs.Prelude.{Option, Some, None, IfSome, IsSome, IsSomeAnd}
use Rattle.std.specs.List.{filter, IsDistinct}
use Rattle.std.specs.Str.{bytes_eq}
use Rattle.lj_base.specs.declared.names.Label.{Label}
use Rattle.lj_task.specs.Task.{Task}
use Rattle.lj_step.specs.Sim.{Sim, OpenStep}
use Rattle.lj_step.specs.OpenSteps.{cover, tile_task, tiles_left}
use Rattle.lj_end.specs.Accounts.{occurrences}
use Rattle.lj_session.specs.declared.command.Command.{Command}
use Rattle.lj_session.specs.Turns.{waits_for}
use Rattle.lj_session.specs.UserState.{LiveSession, UserState, IsAtWork, live_session, pending_in, loaded_names}
use Rattle.lj_session.specs.Owner.{Owner, label_of}

-- the tile of this number is awaited
abbrev pub is_awaited : List Bool → ℕ → Bool
is_awaited flags k = slice_index_or flags k false

-- the numbers of the awaited tiles among the first `passed` of a cover
abbrev pub posted_tiles : List Bool → ℕ → List ℕ → List ℕ
posted_tiles flags passed tiles = filter (is_awaited flags) (take passed tiles)

-- the tasks of an open step among the first `passed` of its cover whose results are not in, in order of the cover
abbrev pub tasks_posted_in : Label → Sim → ℕ → Option OpenStep → List Task
tasks_posted_in label live passed None = []
tasks_posted_in label live passed (Some step) =
    map (tile_task live label step.kind) (posted_tiles step.awaited passed (cover live.composition live.sim.cur))

-- the tasks of a session that are posted and whose results are not in
abbrev pub tasks_posted_of : Label → Option LiveSession → List Task
tasks_posted_of label None = []
tasks_posted_of label (Some session) = tasks_posted_in label session.live session.passed session.live.part

-- the number of tiles that an open step awaits
abbrev pub tiles_left_in : Option OpenStep → ℕ
tiles_left_in None = 0
tiles_left_in (Some step) = tiles_left step

-- Each tile that the open step of a session awaits is in its cover once, and it awaits no more tiles than the cover has.
pub record IsGathered (session : LiveSession) : Type 0 where
  pub once : (step : OpenStep) (k : ℕ) → session.live.part ≡ Some step → is_awaited step.awaited k ≡ true
      → occurrences k (cover session.live.composition session.live.sim.cur) ≡ 1
  pub few : tiles_left_in session.live.part ≤ length (cover session.live.composition session.live.sim.cur)

-- the task is one of this session
abbrev pub is_of_session : List ℕ → Task → Bool
is_of_session name work = bytes_eq name work.name.label.session

-- a step is open in the session that the pending command waits for
abbrev pub IsOpenFor : UserState → Command → Type 0
IsOpenFor state command = IsSomeAnd (waits_for command)
    (λ name. IsSomeAnd (live_session state name) (λ session. IsSome session.live.part))

-- The tasks owed are, for each session, those of its open step that are posted and whose results are not in, and no others. A
-- step is open in each session with pending steps, and in the one that a command waits for.
pub record Gathers (owner : Owner) (owed : List Task) : Type 0 where
  pub at_work : IsAtWork owner.waiting owner.state
  pub waits : IfSome owner.waiting (IsOpenFor owner.state)
  pub distinct : IsDistinct bytes_eq (loaded_names owner.state)
  pub gathered : (name : List ℕ) (session : LiveSession) → live_session owner.state name ≡ Some session
      → IsGathered session
  pub each : (name : List ℕ)
      → filter (is_of_session name) owed ≡ tasks_posted_of (label_of owner name) (live_session owner.state name)

-- no step is pending in any session
abbrev pub NonePending : UserState → Type 0
NonePending state = (name : List ℕ) → pending_in state name ≡ 0
