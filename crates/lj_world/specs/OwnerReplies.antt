-- The reply of an owner, as a text, when it begins an item or turns a session, and the owner after that.
use Rattle.std.specs.Prelude.{◌≡◌, ℕ, ◌<◌, Bool, true, List, Option, Some, None}
use Rattle.lj_session.specs.declared.command.Command.{Command as Order}
use Rattle.lj_session.specs.Begins.{OnRefusal}
use Rattle.lj_session.specs.UserState.{UserState, turns_before, is_whole_in, IsIdleIn, OthersKept, OtherSessionsKept, StepsFollow}
use Rattle.lj_session.specs.Owner.{Owner, user_in, has_pending, owner_begun, ready_session, state_turned, owner_turned, IsLastTurn}
use Rattle.lj_wire.specs.declared.item.Item.{Item}
use Rattle.lj_wire.specs.declared.item.Item.TheVariants.{Command, Bad, Last}
use Rattle.lj_wire.specs.Told.{item_reply, item_text}
use Rattle.lj_wire.specs.PendingItems.{item_before}

-- An item is answered: for some mark, its reply has this text and leaves this user. No command is pending then.
pub record Answers (owner : Owner) (item : Item) (text : List ℕ) (next : Owner) : Type 0 where
  pub mark : Bool
  pub is_answer : (text, user_in next) ≡ item_text (user_in owner) item mark
  pub idle : next.waiting ≡ None
  pub number : next.number ≡ owner.number

-- a fact that holds if the item is refused, under this mark
abbrev pub OnRefusedItem : Owner → Item → Bool → Type 0 → Type 0
OnRefusedItem owner item mark P = OnRefusal (item_reply (user_in owner) item mark).0 P

-- the open steps after an item: those of its command's session follow from what the command does, all others stay
abbrev pub LeavesSteps : Item → UserState → UserState → Type 0
LeavesSteps (Command command) old new = OthersKept command old new × StepsFollow command old new
LeavesSteps (Bad fault) old new = new ≡ old
LeavesSteps (Last fault) old new = new ≡ old

-- The item needs no turn, and is answered at once. A refusal leaves the owner as it was.
pub record BeginsAtOnce (owner : Owner) (item : Item) (text : List ℕ) (after : Owner) : Type 0 where
  pub at_once : item_before owner.state item ≡ 0
  pub answers : Answers owner item text after
  pub steps : LeavesSteps item owner.state after.state
  pub unchanged : OnRefusedItem owner item answers.mark (after ≡ owner)

-- the item is a command that needs turns, and becomes the pending command
pub record BeginsToWait (owner : Owner) (item : Item) (after : Owner) : Type 0 where
  pub command : Order
  pub is : item ≡ Command command
  pub takes_turns : 0 < turns_before owner.state command
  pub next : after ≡ owner_begun command owner

-- the item is answered with this text, or becomes the pending command
abbrev pub Begins : Owner → Item → Option (List ℕ) → Owner → Type 0
Begins owner item None after = BeginsToWait owner item after
Begins owner item (Some text) after = BeginsAtOnce owner item text after

-- the session to turn: the named one or, if none is named, the first that is ready
abbrev pub session_to_turn : Option (List ℕ) → Owner → Option (List ℕ)
session_to_turn None owner = ready_session owner
session_to_turn (Some name) owner = Some name

-- this is the session to turn: it has a pending step, whose results are all in
pub record CanTurn (session : Option (List ℕ)) (owner : Owner) (name : List ℕ) : Type 0 where
  pub named : session_to_turn session owner ≡ Some name
  pub pending : has_pending owner name ≡ true
  pub whole : is_whole_in owner.state name ≡ true

-- it is not the last turn of the pending command, and the session advances by one step
pub record TurnsOn (owner : Owner) (name : List ℕ) (after : Owner) : Type 0 where
  pub more : ¬ IsLastTurn name owner
  pub next : after ≡ owner_turned name owner

-- It is the last turn of the pending command, which is answered now. The session has no pending steps then, and all
-- other sessions are as they were. A refusal changes nothing but what the step changes.
pub record TurnsLast (owner : Owner) (name : List ℕ) (text : List ℕ) (after : Owner) : Type 0 where
  pub last : IsLastTurn name owner
  pub command : Order
  pub waits : owner.waiting ≡ Some command
  pub answers : Answers owner (Command command) text after
  pub is_idle : IsIdleIn after.state name
  pub others : OtherSessionsKept name owner.state after.state
  pub refused : OnRefusedItem owner (Command command) answers.mark (after.state ≡ state_turned name owner.state)

-- the step of this session is turned, and the pending command is answered with this text, or nothing is replied
abbrev pub TurnsTo : Owner → List ℕ → Option (List ℕ) → Owner → Type 0
TurnsTo owner name None after = TurnsOn owner name after
TurnsTo owner name (Some text) after = TurnsLast owner name text after
