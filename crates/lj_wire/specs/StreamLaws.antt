-- Laws of streams and of answers, each proved on the function of its name.
use Rattle.std.specs.Prelude.{◌≡◌, ℕ, ◌<◌, ◌≤◌, Bool, true, false, List, map}
use Rattle.lj_session.specs.declared.body.LoadBody.TheVariants.{Lost}
use Rattle.lj_session.specs.declared.command.Command.{Command as Order}
use Rattle.lj_session.specs.Users.{User}
use Rattle.lj_session.specs.Answers.{AnswersAlike}
use Rattle.lj_session.specs.UserState.{UserState, turns_before, user_after}
use Rattle.lj_session.specs.Owner.{command_left}
use Rattle.lj_wire.specs.declared.item.Item.{Item}
use Rattle.lj_wire.specs.declared.item.Item.TheVariants.{Command}
use Rattle.lj_wire.specs.declared.line_limits.TheConstants.{MAX_BODY_BYTES}
use Rattle.lj_wire.specs.Items.{is_ending}
use Rattle.lj_wire.specs.Commands.{body_len_announced, item_with, item_of}
use Rattle.std.specs.List.{concat}
use Rattle.lj_session.specs.declared.reply.Reply.{Reply}
use Rattle.lj_wire.specs.ReplyTexts.{is_memory, text, reply_lines}
use Rattle.lj_wire.specs.Told.{item_reply, item_text, last_user, alone}
use Rattle.lj_wire.specs.PendingItems.{item_before}
use Rattle.lj_wire.specs.Streams.{Splits}

-- A stream splits into items and a rest in one way only.
abbrev pub OneSplitting : Type 0
OneSplitting = (n : ℕ) (bytes : List ℕ) (items others : List Item) (rest remainder : List ℕ)
    → Splits n bytes items rest → Splits n bytes others remainder → (items ≡ others) × (rest ≡ remainder)

-- Each stream splits into items and a rest.
abbrev pub SomeSplitting : Type 0
SomeSplitting = (bytes : List ℕ) → (items : List Item) × (rest : List ℕ) × Splits 0 bytes items rest

-- The text of an answer shows whether memory was refused: the mark can be read off it.
abbrev pub MarkIsTold : Type 0
MarkIsTold = (user : User) (item : Item) (mark : Bool)
    → item_text user item mark ≡ item_text user item (is_memory (item_text user item mark).0)

-- Two commands that are answered alike, each from its own user, get the same text and leave the same user.
abbrev pub AlikeIsTold : Type 0
AlikeIsTold = (new : User) (left : Order) (old : User) (command : Order) (mark : Bool)
    → AnswersAlike new left old command → item_text new (Command left) mark ≡ item_text old (Command command) mark

-- An item that waits for steps does not end the connection, and neither does what remains of a command that waits for them.
pub record WaitingGoesOn : Type 0 where
  pub whole : (state : UserState) (item : Item) → 0 < item_before state item → is_ending item ≡ false
  pub left : (state : UserState) (command : Order) → 0 < turns_before state command
      → is_ending (Command (command_left command state)) ≡ false

-- A line whose body found no memory gets the reply of a line that is refused memory.
abbrev pub BodyMissingIsMarked : Type 0
BodyMissingIsMarked = (user : User) (line body : List ℕ) (mark : Bool) → 0 < body_len_announced line
    → item_reply user (item_with line Lost) mark ≡ item_reply user (item_of line body) true

-- No line is followed by more than 1,048,576 bytes of body.
abbrev pub BodyIsBounded : Type 0
BodyIsBounded = (line : List ℕ) → body_len_announced line ≤ MAX_BODY_BYTES

-- The text of a reply is its lines, one after another.
abbrev pub LinesAreTheText : Type 0
LinesAreTheText = (user : User) (reply : Reply) → text user reply ≡ concat (reply_lines user reply)

-- Answering commands as items leaves the user that the commands leave.
abbrev pub CommandsAreItems : Type 0
CommandsAreItems = (user : User) (commands : List Order) (marks : List Bool)
    → last_user user (map (λ command. Command command) commands) marks ≡ user_after user commands marks

-- Some items with marks, answered alone from the user without sessions, leave this user.
pub record IsReachedAlone (user : User) : Type 0 where
  pub items : List Item
  pub marks : List Bool
  pub leads : user ≡ (alone user.quota items marks).1
