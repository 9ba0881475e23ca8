-- The state of a user in the code, with open steps, and the user of the definition that it stands for.
use Rattle.std.specs.Prelude.{◌≡◌, ◌≢◌, ◌<◌, OnOk, IsSomeAnd, ℕ, ◌+◌, ◌-◌, is_some, Bool, true, false, ◌&&◌, nat_le, nat_lt, List, []}
use Rattle.std.specs.Prelude.{◌∷◌, length, map, position, slice_get, Option, Some, None, Result, Ok, Err, if◌then◌else◌, ◌⊎◌}
use Rattle.std.specs.Option.{option_map, option_map_or, option_and_then}
use Rattle.std.specs.List.{find, range_with_len}
use Rattle.std.specs.Str.{bytes_eq}
use Rattle.lj_base.specs.declared.names.Label.{Label}
use Rattle.lj_task.specs.declared.task_name.Kind.{Kind}
use Rattle.lj_task.specs.declared.task_name.Kind.TheVariants.{Force, Energy}
use Rattle.lj_task.specs.Task.{Task}
use Rattle.lj_step.specs.Motion.{Simulation, next_simulation, steps}
use Rattle.lj_step.specs.Sim.{Sim}
use Rattle.lj_step.specs.OpenSteps.{opened_step, with_step_closed, task_at, is_tile_awaited, tiles_of, with_tile, kind_of, is_whole}
use Rattle.lj_step.specs.OpenSteps.{IsAwaitedTask}
use Rattle.lj_quota.specs.declared.Quota.{Quota}
use Rattle.lj_quota.specs.declared.Used.{Used}
use Rattle.lj_session.specs.declared.command.Command.{Command}
use Rattle.lj_session.specs.declared.command.Command.TheVariants.{Load, Start, Measure, Forget, ListBranches}
use Rattle.lj_session.specs.declared.refusal.Refusal.{Refusal}
use Rattle.lj_session.specs.declared.refusal.Refusal.TheVariants.{Memory}
use Rattle.lj_session.specs.declared.reply.Reply.{Reply}
use Rattle.lj_branch.specs.Named.{value_named, with_value}
use Rattle.lj_session.specs.Users.{Session, User, fresh_user, sessions_used, atoms_used, branches_used}
use Rattle.lj_session.specs.Answers.{session_named, command_result, answer, can_advance}
use Rattle.lj_session.specs.Turns.{turns, waits_for}

-- A session in the code: the symbols of its atoms, its simulation with composition and open step, its saved
-- simulations, and the number of pending steps. The first `passed` tiles of the open step's cover were posted, or
-- skipped because they were in.
pub record LiveSession : Type 0 where
  pub symbols : List (List ℕ)
  pub live : Sim
  pub passed : ℕ
  pub saved : List (List ℕ × Simulation)
  pub pending : ℕ

-- a saved simulation has `count` atoms
abbrev pub HasCount : ℕ → List ℕ × Simulation → Type 0
HasCount count entry = length entry.1.cur ≡ count

-- the state of a user: the quota, and sessions under names, in order of loading
pub record UserState : Type 0 where
  pub quota : Quota
  pub sessions : List (List ℕ × LiveSession)

-- a state without sessions
abbrev pub empty_state : Quota → UserState
empty_state quota = record { quota = quota; sessions = [] }

-- the session, as it was when its present step began
abbrev pub as_session : LiveSession → Session
as_session session =
    record { symbols = session.symbols; composition = session.live.composition; sim = session.live.sim; saved = session.saved }

-- the session with all its pending steps done
abbrev pub settled_session : LiveSession → Session
settled_session session = record {
  symbols = session.symbols;
  composition = session.live.composition;
  sim = steps session.live.composition session.pending session.live.sim;
  saved = session.saved;
}

-- a name, and its session with all pending steps done
abbrev pub as_entry : List ℕ × LiveSession → List ℕ × Session
as_entry entry = (entry.0, settled_session entry.1)

-- the user with all pending steps done
abbrev pub user_of : UserState → User
user_of state = record { quota = state.quota; sessions = map as_entry state.sessions }

-- how much of each part of the quota the user has used
abbrev pub used_by : UserState → Used
used_by state = record {
  sessions = sessions_used (user_of state);
  atoms = atoms_used (user_of state);
  branches = branches_used (user_of state);
}

-- the session of a name, if there is one
abbrev pub live_session : UserState → List ℕ → Option LiveSession
live_session state name = value_named name state.sessions

-- the i-th session, in order of loading
abbrev pub live_session_at : UserState → ℕ → Option LiveSession
live_session_at state i = option_map (λ entry. entry.1) (slice_get state.sessions i)

-- the names, in order of loading
abbrev pub loaded_names : UserState → List (List ℕ)
loaded_names state = map (λ entry. entry.0) state.sessions

-- the state with this session under a name
abbrev pub with_live_session : List ℕ → LiveSession → UserState → UserState
with_live_session name session state = record state { sessions = with_value name session state.sessions }

-- the state with a session changed, if there is one
abbrev pub with_session_changed_to : List ℕ → (LiveSession → LiveSession) → Option LiveSession → UserState → UserState
with_session_changed_to name change None state = state
with_session_changed_to name change (Some session) state = with_live_session name (change session) state

-- the state with the session of a name changed, if there is one
abbrev pub with_session_changed : List ℕ → (LiveSession → LiveSession) → UserState → UserState
with_session_changed name change state = with_session_changed_to name change (live_session state name) state

-- the session with a step of a kind open, and no tile of it posted or in
abbrev pub with_step : Kind → LiveSession → LiveSession
with_step kind session =
    record session { live = record session.live { part = Some (opened_step kind session.live.composition session.live.sim.cur) }; passed = 0 }

-- the position in the cover of the first tile that is neither posted nor in
abbrev pub next_tile : LiveSession → Option ℕ
next_tile session = find (is_tile_awaited session.live) (range_with_len session.passed (tiles_of session.live - session.passed))

-- the task of the first tile of a session that is neither posted nor in
abbrev pub next_of : Label → Option LiveSession → Option Task
next_of label None = None
next_of label (Some session) = option_and_then (task_at session.live label) (next_tile session)

-- the task of that tile for the session that a label names
abbrev pub next_task : UserState → Label → Option Task
next_task state label = next_of label (live_session state label.session)

-- the first session, in order of loading, that has a task for the user of this number
abbrev pub first_with_task : UserState → ℕ → Option (List ℕ)
first_with_task state user =
    find (λ name. is_some (next_task state (record { user = user; session = name }))) (loaded_names state)

-- No session before the i-th has a task, whatever the number of the user.
abbrev pub NoTaskBefore : UserState → ℕ → Type 0
NoTaskBefore state i = (user k : ℕ) (name : List ℕ) → k < i → slice_get (loaded_names state) k ≡ Some name
    → is_some (next_task state (record { user = user; session = name })) ≡ false

-- The tile of the next task is the one at position `k` in the cover of the session at index `i`.
pub record IsNextTile (state : UserState) (i k : ℕ) : Type 0 where
  pub within : i < length state.sessions
  pub name : List ℕ
  pub named : slice_get (loaded_names state) i ≡ Some name
  pub session : LiveSession
  pub at : live_session_at state i ≡ Some session
  pub there : live_session state name ≡ Some session
  pub tile : next_tile session ≡ Some k
  pub below : k < tiles_of session.live
  pub before : NoTaskBefore state i
  pub first : (user : ℕ) → first_with_task state user ≡ Some name

-- the session with the first n tiles passed
abbrev pub with_passed : ℕ → LiveSession → LiveSession
with_passed n session = record session { passed = n }

-- the session with the tiles up to and at a position passed, if one is given
abbrev pub with_passed_to : Option ℕ → LiveSession → LiveSession
with_passed_to None session = session
with_passed_to (Some i) session = with_passed (i + 1) session

-- the session with its first tile that is neither posted nor in noted as posted
abbrev pub with_posted : LiveSession → LiveSession
with_posted session = with_passed_to (next_tile session) session

-- the task is that of a tile that the open step of its session awaits
abbrev pub IsAwaited : UserState → Label → Task → Type 0
IsAwaited state label work = IsSomeAnd (live_session state label.session) (λ session. IsAwaitedTask session.live label work)

-- the session with one more tile in
abbrev pub with_tile_in : ℕ → LiveSession → LiveSession
with_tile_in k session = record session { live = record session.live { part = with_tile k session.live.part } }

-- a step is open in a session and all its tiles are in
abbrev pub is_whole_session : Option LiveSession → Bool
is_whole_session None = false
is_whole_session (Some session) = is_whole session.live.part

-- the same for the session of a name
abbrev pub is_whole_in : UserState → List ℕ → Bool
is_whole_in state name = is_whole_session (live_session state name)

-- the session with another simulation, and no step open
abbrev pub with_simulation : LiveSession → Simulation → LiveSession
with_simulation session sim = record session { live = with_step_closed session.live sim }

-- the session with other saved simulations
abbrev pub with_saved : LiveSession → List (List ℕ × Simulation) → LiveSession
with_saved session saved = record session { saved = saved }

-- the session with n more steps pending; if none were, the first of them is open
abbrev pub with_more_pending : ℕ → LiveSession → LiveSession
with_more_pending n session =
    let more = record session { pending = session.pending + n } in
    if nat_lt 0 n && nat_le session.pending 0 then with_step Force more else more

-- the session one step later, with one fewer step pending and none open
abbrev pub with_step_taken : LiveSession → LiveSession
with_step_taken session =
    record (with_simulation session (next_simulation session.live.composition session.live.sim)) { pending = session.pending - 1 }

-- the session one step later, with the next step open if one is pending
abbrev pub with_step_finished : LiveSession → LiveSession
with_step_finished session =
    let next = with_step_taken session in if nat_lt 0 next.pending then with_step Force next else next

-- the session with no step open, and no tile posted
abbrev pub with_no_step : LiveSession → LiveSession
with_no_step session = record (with_simulation session session.live.sim) { passed = 0 }

-- the session with its step restarted if one is pending, so that no tile is posted or in, else with none open
abbrev pub with_step_restarted : LiveSession → LiveSession
with_step_restarted session = if nat_lt 0 session.pending then with_step Force session else with_no_step session

-- the state with the step of each session restarted
abbrev pub with_steps_restarted : UserState → UserState
with_steps_restarted state = record state { sessions = map (λ entry. (entry.0, with_step_restarted entry.1)) state.sessions }

-- the number of pending steps of the session of a name, and 0 if there is none
abbrev pub pending_in : UserState → List ℕ → ℕ
pending_in state name = option_map_or (λ session. session.pending) (live_session state name) 0

-- the number of pending steps of the session that a command waits for
abbrev pub steps_before : UserState → Command → ℕ
steps_before state command = option_map_or (pending_in state) (waits_for command) 0

-- the index, in order of loading, of the session that a command waits for, if there is one
abbrev pub index_waited_for : UserState → Command → Option ℕ
index_waited_for state command =
    option_and_then (λ name. position (bytes_eq name) (loaded_names state)) (waits_for command)

-- how many turns of its session come before a command is answered: the pending steps, and its own
abbrev pub turns_before : UserState → Command → ℕ
turns_before state command = steps_before state command + turns (user_of state) command

-- the waiting command measures this session
abbrev pub is_measured : Option Command → List ℕ → Bool
is_measured (Some (Measure session)) name = bytes_eq session name
is_measured _ name = false

-- the kind of a session's open step: of forces if steps are pending, of energies if the waiting command measures it,
-- else no step is open
abbrev pub kind_pending : Option Command → List ℕ → LiveSession → Option Kind
kind_pending waiting name session =
    if nat_lt 0 session.pending then Some Force else (if is_measured waiting name then Some Energy else None)

-- a session may advance by n steps after the pending ones
abbrev pub MayAdvance : ℕ → LiveSession → Type 0
MayAdvance n session = can_advance (settled_session session) n ≡ true

-- A step is open in each session that has one to make, and in no other.
abbrev pub IsAtWork : Option Command → UserState → Type 0
IsAtWork waiting state = (name : List ℕ) (session : LiveSession) → live_session state name ≡ Some session
    → kind_of session.live.part ≡ kind_pending waiting name session

-- a whole step of a kind is open
pub record HasWholeStep (expected : Kind) (session : LiveSession) : Type 0 where
  pub kind : kind_of session.live.part ≡ Some expected
  pub whole : is_whole session.live.part ≡ true

-- the outcome of a command: a reply with the user after it, or a refusal
abbrev pub outcome : Result Reply Refusal → User → Result (Reply × User) Refusal
outcome (Ok reply) next = Ok (reply, next)
outcome (Err refusal) next = Err refusal

-- A command only reads, and has this outcome, whether memory is refused to it or not.
abbrev pub Reads : UserState → Command → Result Reply Refusal → Type 0
Reads state command result = (mark : Bool) → command_result (user_of state) command mark ≡ outcome result (user_of state)

-- Every session except the one of this name is unchanged, with its open step and what is posted of it.
abbrev pub OtherSessionsKept : List ℕ → UserState → UserState → Type 0
OtherSessionsKept name old new = (other : List ℕ) → name ≢ other → live_session new other ≡ live_session old other

-- Every session except that of the command is unchanged, with its open step and what is posted of it.
abbrev pub OthersKept : Command → UserState → UserState → Type 0
OthersKept command old new =
    (other : List ℕ) → session_named command ≢ Some other → live_session new other ≡ live_session old other

-- no step is pending or open in a session
pub record IsIdle (session : LiveSession) : Type 0 where
  pub pending : session.pending ≡ 0
  pub closed : kind_of session.live.part ≡ None

-- the steps of a session are unchanged: those pending, the open one, and which of its tiles are posted and in
pub record SameSteps (old new : LiveSession) : Type 0 where
  pub live : new.live ≡ old.live
  pub passed : new.passed ≡ old.passed
  pub pending : new.pending ≡ old.pending

-- the session with the steps of a START pending, if it may advance by them
abbrev pub with_start : ℕ → LiveSession → LiveSession
with_start n session = if can_advance (settled_session session) n then with_more_pending n session else session

-- the steps of its session after a load: none in a new session, and unchanged in one that was there
abbrev pub StepsAfterLoad : Option LiveSession → LiveSession → Type 0
StepsAfterLoad None after = IsIdle after
StepsAfterLoad (Some session) after = SameSteps session after

-- The steps of its session after a command: a load opens none and leaves those that were there, START adds pending
-- ones, FORGET and LIST leave them unchanged, and after any other they are unchanged, or none is pending or open.
abbrev pub StepsAfter : Command → Option LiveSession → LiveSession → Type 0
StepsAfter (Load load) before after = StepsAfterLoad before after
StepsAfter (Start name n) before after = IsSomeAnd before (λ session. after ≡ with_start n session)
StepsAfter (Forget name branch) before after = IsSomeAnd before (λ session. SameSteps session after)
StepsAfter (ListBranches name) before after = IsSomeAnd before (λ session. SameSteps session after)
StepsAfter command before after = IsIdle after ⊎ IsSomeAnd before (λ session. SameSteps session after)

-- The session that a command names, if it is there, has these steps after the command.
abbrev pub StepsFollow : Command → UserState → UserState → Type 0
StepsFollow command old new = (name : List ℕ) (after : LiveSession) → session_named command ≡ Some name → live_session new name ≡ Some after
    → StepsAfter command (live_session old name) after

-- the session of a name, if there is one, has no step pending or open
abbrev pub IsIdleIn : UserState → List ℕ → Type 0
IsIdleIn state name = (session : LiveSession) → live_session state name ≡ Some session → IsIdle session

-- A command is performed as the definition says, under some mark, which is set only for the memory refusal.
pub record Performs (old : UserState) (command : Command) (result : Result Reply Refusal) (new : UserState) : Type 0 where
  pub mark : Bool
  pub performs : command_result (user_of old) command mark ≡ outcome result (user_of new)
  pub only_memory : mark ≡ true → result ≡ Err Memory
  pub others : OnOk result (OthersKept command old new)
  pub steps : OnOk result (StepsFollow command old new)

-- the user after commands with marks, where a missing mark is not set
abbrev pub user_after : User → List Command → List Bool → User
user_after user [] marks = user
user_after user (command ∷ commands) [] = user_after (answer user command false).1 commands []
user_after user (command ∷ commands) (mark ∷ marks) = user_after (answer user command mark).1 commands marks

-- the user is the last one of some commands with marks, from no sessions
pub record Reached (state : UserState) : Type 0 where
  pub commands : List Command
  pub marks : List Bool
  pub leads : user_of state ≡ user_after (fresh_user state.quota) commands marks
