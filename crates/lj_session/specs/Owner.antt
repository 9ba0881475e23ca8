-- The owner of a user's state: the state, the number of its user, and the waiting command.
use Rattle.std.specs.Prelude.{◌≡◌, ℕ, Bool, true, false, ◌||◌, nat_lt, is_some, IfSome, List, Option, Some, None, if◌then◌else◌}
use Rattle.std.specs.Option.{option_map_or, option_and_then}
use Rattle.std.specs.List.{find}
use Rattle.std.specs.Str.{bytes_eq}
use Rattle.lj_base.specs.declared.names.Label.{Label}
use Rattle.lj_task.specs.declared.task_name.Kind.TheVariants.{Energy}
use Rattle.lj_task.specs.Task.{Task}
use Rattle.lj_step.specs.OpenSteps.{tile_number_of}
use Rattle.lj_session.specs.declared.command.Command.{Command}
use Rattle.lj_session.specs.declared.command.Command.TheVariants.{Advance, Measure}
use Rattle.lj_session.specs.declared.refusal.Refusal.TheVariants.{Memory}
use Rattle.lj_session.specs.declared.reply.Reply.{Reply}
use Rattle.lj_session.specs.declared.reply.Reply.TheVariants.{Dumped, Refused}
use Rattle.lj_session.specs.Users.{User}
use Rattle.lj_session.specs.Answers.{answer, AnswersAlike}
use Rattle.lj_session.specs.Turns.{waits_for}
use Rattle.lj_session.specs.UserState.{LiveSession, UserState, user_of, loaded_names, with_session_changed, with_step, next_task, with_posted, IsAwaited, with_tile_in, is_whole_in}
use Rattle.lj_session.specs.UserState.{with_more_pending, with_step_finished, with_steps_restarted, pending_in, steps_before, turns_before, is_measured}

-- an owner: the state, the number of its user, and the waiting command, if there is one
pub record Owner : Type 0 where
  pub state : UserState
  pub number : ℕ
  pub waiting : Option Command

-- the user of an owner, with all pending steps done
abbrev pub user_in : Owner → User
user_in owner = user_of owner.state

-- the owner of a new state: each step is restarted
abbrev pub owner_of_state : UserState → ℕ → Owner
owner_of_state state number = record { state = with_steps_restarted state; number = number; waiting = None }

-- an owner with another state
abbrev pub with_state : UserState → Owner → Owner
with_state state owner = record owner { state = state }

-- a session has a step to make: some are pending, or the waiting command measures it
abbrev pub has_pending : Owner → List ℕ → Bool
has_pending owner name = nat_lt 0 (pending_in owner.state name) || is_measured owner.waiting name

-- some session has a step to make
abbrev pub is_busy : Owner → Bool
is_busy owner = is_some (find (has_pending owner) (loaded_names owner.state))

-- how many turns of its session the waiting command still needs
abbrev pub turns_left : Owner → ℕ
turns_left owner = option_map_or (turns_before owner.state) owner.waiting 0

-- the waiting command needs this session
abbrev pub is_waited_for : Option Command → List ℕ → Bool
is_waited_for waiting name = option_map_or (λ session. bytes_eq session name) (option_and_then waits_for waiting) false

-- a command begins its own steps: those of an ADVANCE become pending in its session, and for a MEASURE the energy step
-- is opened
unfoldable pub state_taking_up : Command → UserState → UserState
state_taking_up (Advance name n) state = with_session_changed name (with_more_pending n) state
state_taking_up (Measure name) state = with_session_changed name (with_step Energy) state
state_taking_up _ state = state

-- the command that waits then: an ADVANCE by 0, since its steps are pending
unfoldable pub rest_of : Command → Command
rest_of (Advance name n) = Advance name 0
rest_of command = command

-- the state once a command is begun and waits: if steps are pending in its session it waits for them, else it begins
-- its own
abbrev pub state_begun : Command → UserState → UserState
state_begun command state = if nat_lt 0 (steps_before state command) then state else state_taking_up command state

-- the command that waits then
abbrev pub command_left : Command → UserState → Command
command_left command state = if nat_lt 0 (steps_before state command) then command else rest_of command

-- the owner once a command is begun and waits
abbrev pub owner_begun : Command → Owner → Owner
owner_begun command owner =
    record owner { state = state_begun command owner.state; waiting = Some (command_left command owner.state) }

-- the owner with the waiting command, if there is one, begun again
abbrev pub owner_begun_again : Option Command → Owner → Owner
owner_begun_again None owner = owner
owner_begun_again (Some command) owner = owner_begun command owner

-- the label of the tasks of a session
abbrev pub label_of : Owner → List ℕ → Label
label_of owner name = record { user = owner.number; session = name }

-- the task of the first tile of a session that is neither posted nor in
abbrev pub task_of_session : Owner → List ℕ → Option Task
task_of_session owner name = next_task owner.state (label_of owner name)

-- the first session, in order of loading, that has a tile neither posted nor in
abbrev pub next_session : Owner → Option (List ℕ)
next_session owner = find (λ name. is_some (task_of_session owner name)) (loaded_names owner.state)

-- the task of its first tile
abbrev pub next_task_of : Owner → Option Task
next_task_of owner = option_and_then (task_of_session owner) (next_session owner)

-- the state with a session changed, if a name is given
abbrev pub state_changed_in : Option (List ℕ) → (LiveSession → LiveSession) → UserState → UserState
state_changed_in None change state = state
state_changed_in (Some name) change state = with_session_changed name change state

-- the owner with the tile of the next task noted as posted
abbrev pub with_task_posted : Owner → Owner
with_task_posted owner = with_state (state_changed_in (next_session owner) with_posted owner.state) owner

-- the task is that of a tile that the open step of its session awaits
abbrev pub IsAwaitedIn : Owner → Task → Type 0
IsAwaitedIn owner work = IsAwaited owner.state (label_of owner work.name.label.session) work

-- the owner with the result of the task in
abbrev pub with_task_in : Task → Owner → Owner
with_task_in work owner =
    with_state (with_session_changed work.name.label.session (with_tile_in (tile_number_of work)) owner.state) owner

-- the first session, in order of loading, whose step is open and whole
abbrev pub ready_session : Owner → Option (List ℕ)
ready_session owner = find (is_whole_in owner.state) (loaded_names owner.state)

-- the state with the step of a session turned
abbrev pub state_turned : List ℕ → UserState → UserState
state_turned name state = with_session_changed name with_step_finished state

-- the owner with the step of a session turned, and the waiting command begun again if it needs that session
abbrev pub owner_turned : List ℕ → Owner → Owner
owner_turned name owner =
    let passed = with_state (state_turned name owner.state) owner in
    if is_waited_for owner.waiting name then owner_begun_again owner.waiting passed else passed

-- The turn of this session is the last one before the waiting command is answered.
pub record IsLastTurn (name : List ℕ) (owner : Owner) : Type 0 where
  pub waited : is_waited_for owner.waiting name ≡ true
  pub last : turns_left owner ≡ 1

-- A command is answered: reply and next user are the definition's under some mark, which is set only for the memory
-- refusal.
pub record IsAnswered (user : User) (command : Command) (reply : Reply) (next : User) : Type 0 where
  pub mark : Bool
  pub answers : (reply, next) ≡ answer user command mark
  pub only_memory : mark ≡ true → reply ≡ Refused Memory

-- The waiting command is answered so.
abbrev pub IsReplied : Owner → Reply → User → Type 0
IsReplied owner reply next = IfSome owner.waiting (λ command. IsAnswered (user_in owner) command reply next)

-- The command that waits now will be answered as the one that waited; if none waits the user does not change.
abbrev pub WaitsAlikeFor : Option Command → Option Command → User → User → Type 0
WaitsAlikeFor None None old new = new ≡ old
WaitsAlikeFor (Some before) (Some after) old new = AnswersAlike new after old before
WaitsAlikeFor _ _ old new = ⊥

-- the same for two owners
abbrev pub WaitsAlike : Owner → Owner → Type 0
WaitsAlike old new = WaitsAlikeFor old.waiting new.waiting (user_in old) (user_in new)

-- no step is pending in a session whose frame a reply prints
abbrev pub IsSettled : UserState → Reply → Type 0
IsSettled state (Dumped name) = pending_in state name ≡ 0
IsSettled state _ = Unit {0}
