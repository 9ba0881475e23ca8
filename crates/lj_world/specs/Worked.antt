-- Worked scripts: the items that two connections bring, as theorems by computation.
use Rattle.std.specs.Prelude.{◌≡◌, ℕ, List, [], ◌∷◌, replicate, codes, refl}
use Rattle.lj_quota.specs.declared.TheConstants.Quota.{USUAL}
use Rattle.lj_session.specs.declared.command.Command.TheVariants.{List as ListSessions, Bye}
use Rattle.lj_wire.specs.declared.item.Item.{Item}
use Rattle.lj_wire.specs.declared.item.Item.TheVariants.{Command}
use Rattle.lj_access.specs.declared.user.User.{User}
use Rattle.lj_world.specs.declared.event.Event.{Event}
use Rattle.lj_world.specs.declared.event.Event.TheVariants.{Hello, At}
use Rattle.lj_world.specs.declared.event.ConnectionEvent.TheVariants.{Arrive, End}
use Rattle.lj_world.specs.Scripts.{connection_histories, histories_of, items_joined}

-- two users, A and B, and their tokens
abbrev pub token_a : List ℕ
token_a = replicate 32 97

abbrev pub token_b : List ℕ
token_b = replicate 32 98

abbrev pub user_a : User
user_a = record { name = codes "A"; token = token_a; quota = USUAL }

abbrev pub user_b : User
user_b = record { name = codes "B"; token = token_b; quota = USUAL }

-- two items; the second ends its connection
abbrev pub list : Item
list = Command ListSessions

abbrev pub bye : Item
bye = Command Bye

-- a connection says hello as A
abbrev pub hello : ℕ → Event
hello id = Hello id (codes "A") token_a

-- an item arrives at a connection
abbrev pub arrive : ℕ → Item → Event
arrive id item = At id (Arrive item)

-- its input ends
abbrev pub end : ℕ → Event
end id = At id End

-- the items that the connections of A bring
abbrev pub brought : List Event → List Item
brought events = items_joined (histories_of 0 (connection_histories (user_a ∷ user_b ∷ []) events))

-- the second connection's item counts once the first has ended
pub ended_first : brought (hello 1 ∷ hello 2 ∷ arrive 2 bye ∷ arrive 1 list ∷ end 1 ∷ []) ≡ list ∷ bye ∷ []
ended_first = refl

-- and not before
pub not_ended : brought (hello 1 ∷ hello 2 ∷ arrive 2 bye ∷ arrive 1 list ∷ []) ≡ list ∷ []
not_ended = refl

-- an item that ends its connection is the last of it, and what arrives after an end does not count
pub finished : brought (hello 1 ∷ hello 2 ∷ arrive 1 bye ∷ arrive 1 list ∷ end 2 ∷ arrive 2 list ∷ []) ≡ bye ∷ []
finished = refl

-- the connections of a user follow in the order of their hello, whatever their numbers
pub in_order : brought (hello 9 ∷ hello 4 ∷ arrive 4 bye ∷ arrive 9 list ∷ end 9 ∷ []) ≡ list ∷ bye ∷ []
in_order = refl

-- a number out of range or taken, a wrong token, and another user's connection bring nothing
pub not_granted : brought
    (arrive 1 list ∷ hello 0 ∷ hello 65 ∷ Hello 3 (codes "A") token_b ∷ Hello 1 (codes "B") token_b ∷ hello 1
    ∷ arrive 1 list ∷ arrive 0 list ∷ arrive 65 list ∷ arrive 3 list ∷ [])
    ≡ []
not_granted = refl
