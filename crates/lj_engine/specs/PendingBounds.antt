-- An upper bound of the pending steps of a session after some items: those before, and those of each START granted since then;
-- 0 once an item has waited for the session.
use Rattle.std.specs.Prelude.{◌+◌, ◌≤◌, ℕ, Bool, true, false, List, [], ◌∷◌, if◌then◌else◌, Some}
use Rattle.std.specs.Str.{bytes_eq}
use Rattle.lj_branch.specs.Named.{value_named}
use Rattle.lj_session.specs.declared.command.Command.{Command}
use Rattle.lj_session.specs.declared.command.Command.TheVariants.{Start}
use Rattle.lj_session.specs.Users.{User}
use Rattle.lj_session.specs.Turns.{advance_turns}
use Rattle.lj_session.specs.UserState.{UserState, pending_in, user_of}
use Rattle.lj_session.specs.Owner.{is_waited_for}
use Rattle.lj_wire.specs.declared.item.Item.{Item}
use Rattle.lj_wire.specs.declared.item.Item.TheVariants.{Command as Ordered, Bad, Last}
use Rattle.lj_wire.specs.Told.{item_text, first_mark, other_marks}

-- the number of steps that a command adds to the pending ones of a session: those of its START, if the session may make them
unfoldable pub steps_started : User → Command → List ℕ → ℕ
steps_started user (Start session n) name =
    if bytes_eq session name then advance_turns (value_named session user.sessions) n else 0
steps_started user _ name = 0

-- the bound after an item, from the bound n before it
abbrev pub most_after : User → Item → List ℕ → ℕ → ℕ
most_after user (Ordered command) name n =
    if is_waited_for (Some command) name then 0 else n + steps_started user command name
most_after user (Bad fault) name n = n
most_after user (Last fault) name n = n

-- an item after which steps may be pending where none was before: a START
abbrev pub leaves_pending : Item → Bool
leaves_pending (Ordered (Start name n)) = true
leaves_pending item = false

-- the bound after items, each answered from the user that those before it leave
abbrev pub most_after_all : User → List Item → List Bool → List ℕ → ℕ → ℕ
most_after_all user [] marks name n = n
most_after_all user (item ∷ items) marks name n =
    most_after_all (item_text user item (first_mark marks)).1 items (other_marks marks) name (most_after user item name n)

-- the bound for a session of the state after items
abbrev pub most_pending : UserState → List Item → List Bool → List ℕ → ℕ
most_pending state items marks name = most_after_all (user_of state) items marks name (pending_in state name)

-- After an item no session has more pending steps than its bound.
abbrev pub HasPendingAfter : UserState → Item → UserState → Type 0
HasPendingAfter old item new = (name : List ℕ) → pending_in new name ≤ most_after (user_of old) item name (pending_in old name)

-- After items no session has more pending steps than its bound.
abbrev pub HasPendingAfterAll : UserState → List Item → List Bool → UserState → Type 0
HasPendingAfterAll old items marks new = (name : List ℕ) → pending_in new name ≤ most_pending old items marks name
