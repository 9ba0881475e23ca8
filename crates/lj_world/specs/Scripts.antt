-- The script of a user: the items that its connections brought, and a mark for each of its replies.
use Rattle.std.specs.Prelude.{◌≡◌, ℕ, Bool, true, false, ◌&&◌, ◌||◌, not, nat_eq, nat_le, nat_lt, List, [], ◌∷◌, ◌++◌, map, filter, fold, length, Option, Some, None, if◌then◌else◌, ◌⊎◌}
use Rattle.std.specs.List.{list_any}
use Rattle.lj_wire.specs.declared.item.Item.{Item}
use Rattle.lj_wire.specs.Items.{is_ending}
use Rattle.lj_wire.specs.ReplyTexts.{is_memory}
use Rattle.lj_access.specs.declared.user.User.{User}
use Rattle.lj_access.specs.declared.user_row.TheConstants.{MAX_TICKETS}
use Rattle.lj_access.specs.UserRows.{UserRow, first_row, user_with}
use Rattle.lj_world.specs.declared.event.Event.{Event}
use Rattle.lj_world.specs.declared.event.Event.TheVariants.{Hello, At}
use Rattle.lj_world.specs.declared.event.ConnectionEvent.TheVariants.{Arrive, End}
use Rattle.lj_world.specs.declared.transcript.Entry.{Entry}
use Rattle.lj_world.specs.declared.world_limits.TheConstants.{MAX_CONNECTIONS}

-- the history of a granted connection: its number, its user, the items that arrived, and whether its input ended
pub record ConnectionHistory : Type 0 where
  pub id : ℕ
  pub user : ℕ
  pub items : List Item
  pub ended : Bool

-- with the history of one connection changed
abbrev pub with_history : ℕ → (ConnectionHistory → ConnectionHistory) → List ConnectionHistory
    → List ConnectionHistory
with_history id change [] = []
with_history id change (h ∷ histories) =
    if nat_eq h.id id then change h ∷ histories else h ∷ with_history id change histories

-- the histories of a user's connections
abbrev pub histories_of : ℕ → List ConnectionHistory → List ConnectionHistory
histories_of user histories = filter (λ h. nat_eq h.user user) histories

-- the connection of this number is new, and its user has a ticket left
abbrev pub is_granted : ℕ → ℕ → List ConnectionHistory → Bool
is_granted id user histories =
    (nat_le 1 id && nat_le id MAX_CONNECTIONS)
    && (not (list_any (λ h. nat_eq h.id id) histories)
    && nat_lt (length (histories_of user histories)) MAX_TICKETS)

-- after a HELLO with the name and token of this user, if there is one: the connection is appended if it is granted
abbrev pub with_hello : ℕ → Option ℕ → List ConnectionHistory → List ConnectionHistory
with_hello id None histories = histories
with_hello id (Some user) histories =
    if is_granted id user histories
    then histories ++ record { id = id; user = user; items = []; ended = false } ∷ []
    else histories

-- an item arrives, unless the input has ended
abbrev pub with_item : Item → ConnectionHistory → ConnectionHistory
with_item item h = if h.ended then h else record h { items = h.items ++ item ∷ [] }

-- the input ends
abbrev pub with_input_ended : ConnectionHistory → ConnectionHistory
with_input_ended h = record h { ended = true }

-- the histories after one more event; the rows have the names and tokens of the users
abbrev pub histories_after : List UserRow → List ConnectionHistory → Event → List ConnectionHistory
histories_after rows histories (Hello id name token) = with_hello id (user_with rows name token) histories
histories_after rows histories (At id (Arrive item)) = with_history id (with_item item) histories
histories_after rows histories (At id End) = with_history id with_input_ended histories
histories_after rows histories _ = histories

-- the histories of the granted connections, in the order of their HELLO
abbrev pub connection_histories : List User → List Event → List ConnectionHistory
connection_histories users events = fold (histories_after (map first_row users)) [] events

-- the items up to the first that ends the connection, which is one of them
abbrev pub items_to_end : List Item → List Item
items_to_end [] = []
items_to_end (item ∷ items) = item ∷ (if is_ending item then [] else items_to_end items)

-- the input has ended, or an item that ends the connection arrived
abbrev pub is_closed : ConnectionHistory → Bool
is_closed h = h.ended || list_any is_ending h.items

-- the items of connections, each up to its end; a connection counts only if the one before it is closed
abbrev pub items_joined : List ConnectionHistory → List Item
items_joined [] = []
items_joined (h ∷ histories) = items_to_end h.items ++ (if is_closed h then items_joined histories else [])

-- The texts that a run replies to a user, in order.
abbrev pub replies : ℕ → List Entry → List (List ℕ)
replies user entries = map (λ e. e.text) (filter (λ e. nat_eq e.user user) entries)

-- a script: items, and a mark for each that was answered
pub record Script : Type 0 where
  pub items : List Item
  pub marks : List Bool

-- The script of a user in a run: the items that its connections brought, and a mark for each reply, which is set where
-- the reply is that memory ran out.
abbrev pub script : ℕ → List User → List Event → List Entry → Script
script user users events entries = record {
  items = items_joined (histories_of user (connection_histories users events));
  marks = map is_memory (replies user entries);
}

-- the one list begins with the other
abbrev pub IsPrefix : {A : Type 0} → List A → List A → Type 0
IsPrefix {A} short long = (others : List A) × (long ≡ short ++ others)

-- one of two lists is a prefix of the other
abbrev pub OneIsPrefix : {A : Type 0} → List A → List A → Type 0
OneIsPrefix xs ys = IsPrefix xs ys ⊎ IsPrefix ys xs

-- two scripts agree: one list of items is a prefix of the other, and one list of marks
pub record Agree (a b : Script) : Type 0 where
  pub items : OneIsPrefix a.items b.items
  pub marks : OneIsPrefix a.marks b.marks
