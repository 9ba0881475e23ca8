-- The laws of runs, each proved on the function of its name, and the headline.
use Rattle.std.specs.Prelude.{◌≡◌, ◌≢◌, ℕ, ◌<◌, nat_eq, List, length, take, slice_get, Option, Some, None, if◌then◌else◌, ◌⊎◌}
use Rattle.std.specs.Option.{option_map, option_and_then}
use Rattle.lj_quota.specs.declared.Quota.{Quota}
use Rattle.lj_session.specs.declared.command.Command.{Command as Order}
use Rattle.lj_session.specs.declared.refusal.Refusal.{Refusal}
use Rattle.lj_session.specs.Users.{User as Value, fresh_user}
use Rattle.lj_session.specs.UserState.{UserState, user_of}
use Rattle.lj_session.specs.Owner.{Owner, user_in, rest_of, state_turned}
use Rattle.lj_session.specs.Refusals.{refusal_text}
use Rattle.lj_session.specs.Turns.{turns}
use Rattle.lj_session.specs.OwnerLaws.{RestartKeepsUser, PostedKeepsUser, AcceptKeepsUser, BegunWaitsAlike, user_taking}
use Rattle.lj_wire.specs.declared.item.Item.TheVariants.{Command}
use Rattle.lj_wire.specs.ReplyTexts.{ended_line}
use Rattle.lj_wire.specs.Told.{alone, last_user}
use Rattle.lj_wire.specs.StreamLaws.{AlikeIsTold, WaitingGoesOn}
use Rattle.lj_access.specs.declared.user.User.{User}
use Rattle.lj_access.specs.UserRows.{UserRow, user_with}
use Rattle.lj_world.specs.declared.event.ConnectionEvent.TheVariants.{Next, Turn}
use Rattle.lj_world.specs.declared.event.Event.{Event}
use Rattle.lj_world.specs.declared.event.Event.TheVariants.{Hello, At, By}
use Rattle.lj_world.specs.declared.transcript.Entry.{Entry}
use Rattle.lj_world.specs.OwnerReplies.{CanTurn}
use Rattle.lj_world.specs.Machine.{Machine, Connection, ConnectionState, waiting, inside, gone, initial_machine, connection_at}
use Rattle.lj_world.specs.Runs.{Step, Run, IsTranscript}
use Rattle.lj_world.specs.Scripts.{ConnectionHistory, Script, Agree, IsPrefix, OneIsPrefix, connection_histories, histories_of, replies, script}

-- The laws of pending commands: those of owners and of texts, on which the laws of runs stand.
pub record PendingCommandLaws : Type 0 where
  pub restart : RestartKeepsUser
  pub posted : PostedKeepsUser
  pub accept : AcceptKeepsUser
  pub begun : BegunWaitsAlike
  pub alike : AlikeIsTold
  pub goes_on : WaitingGoesOn

-- the user of this number has this quota
abbrev pub HasQuota : List User → ℕ → Quota → Type 0
HasQuota users user quota = option_map (λ u. u.quota) (slice_get users user) ≡ Some quota

-- The texts of a script's items answered alone, over the integrator of all pairs.
abbrev pub alone_texts : Quota → Script → List (List ℕ)
alone_texts quota s = (alone quota s.items s.marks).0

-- the first of them, one for each mark
abbrev pub first_texts : Quota → Script → List (List ℕ)
first_texts quota s = take (length s.marks) (alone_texts quota s)

-- In every run a user's replies are the first texts of its script alone, one for each mark.
abbrev pub RepliesAreFirstTexts : Type 0
RepliesAreFirstTexts = (users : List User) (events : List Event) (entries : List Entry) (user : ℕ) (quota : Quota)
    → IsTranscript users events entries → HasQuota users user quota
    → replies user entries ≡ first_texts quota (script user users events entries)

-- If two scripts agree, one of their lists of these texts is a prefix of the other.
abbrev pub AgreeingScriptsAgreeInTexts : Type 0
AgreeingScriptsAgreeInTexts = (quota : Quota) (one other : Script) → Agree one other
    → OneIsPrefix (first_texts quota one) (first_texts quota other)

-- A run as one of its users sees it: the users, of whom this one has this quota, the events, and the replies.
pub record UserRun (quota : Quota) : Type 0 where
  pub users : List User
  pub user : ℕ
  pub has_quota : HasQuota users user quota
  pub events : List Event
  pub entries : List Entry
  pub is_run : IsTranscript users events entries

-- the script and the replies of the user
abbrev pub script_in : {quota : Quota} → UserRun quota → Script
script_in run = script run.user run.users run.events run.entries

abbrev pub replies_in : {quota : Quota} → UserRun quota → List (List ℕ)
replies_in run = replies run.user run.entries

-- One list of the replies to the user is a prefix of the other, and each is a prefix of the replies that the user's
-- commands get when they are answered alone.
pub record RepliesAgree {quota : Quota} (one other : UserRun quota) : Type 0 where
  pub alike : OneIsPrefix (replies_in one) (replies_in other)
  pub one_alone : IsPrefix (replies_in one) (alone_texts quota (script_in one))
  pub other_alone : IsPrefix (replies_in other) (alone_texts quota (script_in other))

-- THE HEADLINE. For every two lists of events in which a user's scripts agree, one list of the replies to this user is a
-- prefix of the other, and each is a prefix of the replies of this user's commands folded alone over the all-pairs
-- integrator, whatever other users sent, however tasks were taken, and however many workers there were.
abbrev pub Headline : Type 0
Headline = (quota : Quota) (one other : UserRun quota) → Agree (script_in one) (script_in other)
    → RepliesAgree one other

-- the headline of one run against every other
abbrev pub AgreesWithEveryRun : List User → List Event → List Entry → Type 0
AgreesWithEveryRun users events entries =
    (user : ℕ) (quota : Quota) (has_quota : HasQuota users user quota) (is_run : IsTranscript users events entries)
    (other : UserRun quota) → let one : UserRun quota = record {
      users = users;
      user = user;
      has_quota = has_quota;
      events = events;
      entries = entries;
      is_run = is_run;
    } in Agree (script_in one) (script_in other) → RepliesAgree one other

-- The state of the user is at home, and this is its value.
pub record IsAtHome (s : Machine) (user : ℕ) (value : Value) : Type 0 where
  pub row : UserRow
  pub there : slice_get s.rows user ≡ Some row
  pub state : UserState
  pub home : row.home ≡ Some state
  pub is : value ≡ user_of state

-- A connection owns the state of the user, this is its value, and this is the pending command, if any.
pub record IsOwned (s : Machine) (user : ℕ) (value : Value) (waits : Option Order) : Type 0 where
  pub id : ℕ
  pub connection : Connection
  pub known : connection_at s id ≡ Some connection
  pub of_user : connection.user ≡ user
  pub owner : Owner
  pub owns : connection.state ≡ inside owner
  pub is : value ≡ user_in owner
  pub left : waits ≡ owner.waiting

-- the value of a user in a state of the machine, and the pending command
abbrev pub HasUserValue : Machine → ℕ → Value → Option Order → Type 0
HasUserValue s user value waits = IsAtHome s user value × (waits ≡ None) ⊎ IsOwned s user value waits

-- A command takes steps of its own: the value counts them already, and the rest of the command is pending.
pub record TakesSteps (before : Value) (command : Order) (value : Value) (left : Order) : Type 0 where
  pub some : 0 < turns before command
  pub counts : value ≡ user_taking before command
  pub rest : left ≡ rest_of command

-- A command that was begun is pending: nothing of it is done yet, or it takes its steps.
abbrev pub WaitsOn : Value → Order → Value → Order → Type 0
WaitsOn before command value left = (value ≡ before) × (left ≡ command) ⊎ TakesSteps before command value left

-- the user after those items of a script that have marks
abbrev pub value_so_far : Quota → Script → Value
value_so_far quota s = last_user (fresh_user quota) (take (length s.marks) s.items) s.marks

-- The value is that of the script so far; a pending command is the script's next item.
abbrev pub IsScriptValue : Quota → Script → Value → Option Order → Type 0
IsScriptValue quota s value None = value ≡ value_so_far quota s
IsScriptValue quota s value (Some left) =
    (command : Order) × (slice_get s.items (length s.marks) ≡ Some (Command command))
    × WaitsOn (value_so_far quota s) command value left

-- In every run each user has a value, and it is that of its script so far.
abbrev pub ValueIsThatOfScript : Type 0
ValueIsThatOfScript =
    (users : List User) (events : List Event) (entries : List Entry) (last : Machine) (user : ℕ) (quota : Quota)
    → Run (initial_machine users) events entries last → HasQuota users user quota
    → ((value : Value) × (waits : Option Order) × HasUserValue last user value waits)
    × ((value : Value) (waits : Option Order) → HasUserValue last user value waits
    → IsScriptValue quota (script user users events entries) value waits)

-- The connection has the user's ticket of this number.
pub record HasTicket (s : Machine) (id user number : ℕ) : Type 0 where
  pub connection : Connection
  pub known : connection_at s id ≡ Some connection
  pub of_user : connection.user ≡ user
  pub numbered : connection.number ≡ number

-- In every run a user's n-th granted HELLO, counted from 0, gets its ticket n.
abbrev pub TicketsAreInOrder : Type 0
TicketsAreInOrder =
    (users : List User) (events : List Event) (entries : List Entry) (last : Machine) (user : ℕ) (quota : Quota)
    → Run (initial_machine users) events entries last → HasQuota users user quota
    → (n : ℕ) (h : ConnectionHistory)
    → slice_get (histories_of user (connection_histories users events)) n ≡ Some h
    → HasTicket last h.id user n

-- the user of a connection, if it is known
abbrev pub user_connected : Machine → ℕ → Option ℕ
user_connected s id = option_map (λ connection. connection.user) (connection_at s id)

-- the user whose own event it is, if any: an event at a worker is no user's
abbrev pub actor : Machine → Event → Option ℕ
actor s (Hello id name token) = user_with s.rows name token
actor s (At id event) = user_connected s id
actor s (By id event) = None

-- the connection of a number, if it is this user's
abbrev pub connection_of : ℕ → Machine → ℕ → Option Connection
connection_of user s id =
    option_and_then (λ connection. if nat_eq connection.user user then Some connection else None)
    (connection_at s id)

-- The row and the connections of the user have not changed, and nothing is replied to it.
pub record Untouched (user : ℕ) (old : Machine) (reply : Option Entry) (new : Machine) : Type 0 where
  pub row : slice_get new.rows user ≡ slice_get old.rows user
  pub connections : (id : ℕ) → connection_of user new id ≡ connection_of user old id
  pub not_replied : option_map (λ e. e.user) reply ≢ Some user

-- An event that is not this user's own changes nothing for the user, and sends it no reply.
abbrev pub OthersChangeNothing : Type 0
OthersChangeNothing = (old : Machine) (event : Event) (reply : Option Entry) (new : Machine) (user : ℕ)
    → Step old event reply new → actor old event ≢ Some user → Untouched user old reply new

-- These events have a run from this state.
abbrev pub HasRun : Machine → List Event → Type 0
HasRun old events = (entries : List Entry) × (last : Machine) × Run old events entries last

-- No list of events is without a run, whatever the state in which it begins: an impossible event changes nothing.
abbrev pub EachListHasARun : Type 0
EachListHasARun = (old : Machine) (events : List Event) → ¬ ¬ HasRun old events

-- the text of a refusal
abbrev pub IsRefusal : List ℕ → Type 0
IsRefusal text = (refusal : Refusal) × (text ≡ ended_line (refusal_text refusal))

-- the owner in a state of a connection, if there is one
abbrev pub owner_inside : ConnectionState → Option Owner
owner_inside waiting = None
owner_inside (inside owner) = Some owner
owner_inside gone = None

-- the owner of a connection, if it has one
abbrev pub owner_at : Machine → ℕ → Option Owner
owner_at s id = option_and_then (λ connection. owner_inside connection.state) (connection_at s id)

-- Every session of every user is as it was, at home or with an owner, with its pending steps and its open step.
pub record SessionsKept (old new : Machine) : Type 0 where
  pub rows : new.rows ≡ old.rows
  pub owners : (id : ℕ) → owner_at new id ≡ owner_at old id

-- Every session is as it was except one, whose step a connection has turned.
pub record SessionTurned (id : ℕ) (session : Option (List ℕ)) (old new : Machine) : Type 0 where
  pub rows : new.rows ≡ old.rows
  pub others : (other : ℕ) → other ≢ id → owner_at new other ≡ owner_at old other
  pub owner : Owner
  pub owns : owner_at old id ≡ Some owner
  pub name : List ℕ
  pub can : CanTurn session owner name
  pub after : Owner
  pub left : owner_at new id ≡ Some after
  pub turned : after.state ≡ state_turned name owner.state

-- A refusal replied at a NEXT leaves every session as it was. A refusal replied at a TURN completes the step of its
-- session, and changes nothing else.
pub record RefusalsLeaveSessions : Type 0 where
  pub at_next : (old : Machine) (id : ℕ) (reply : Entry) (new : Machine)
      → Step old (At id Next) (Some reply) new → IsRefusal reply.text → SessionsKept old new
  pub at_turn : (old : Machine) (id : ℕ) (session : Option (List ℕ)) (reply : Entry) (new : Machine)
      → Step old (At id (Turn session)) (Some reply) new → IsRefusal reply.text
      → SessionTurned id session old new
