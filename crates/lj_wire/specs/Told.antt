-- The texts that answer a user's items, one after the other.
use Rattle.std.specs.Prelude.{ℕ, Bool, false, List, [], ◌∷◌}
use Rattle.lj_session.specs.declared.reply.Reply.{Reply}
use Rattle.lj_session.specs.declared.reply.Reply.TheVariants.{Refused}
use Rattle.lj_quota.specs.declared.Quota.{Quota}
use Rattle.lj_session.specs.Users.{User, fresh_user}
use Rattle.lj_session.specs.Answers.{answer}
use Rattle.lj_wire.specs.declared.item.Item.{Item}
use Rattle.lj_wire.specs.declared.item.Item.TheVariants.{Command, Bad, Last}
use Rattle.lj_wire.specs.Items.{refusal_of}
use Rattle.lj_wire.specs.ReplyTexts.{text}

-- the reply to an item, and the user after it
abbrev pub item_reply : User → Item → Bool → Reply × User
item_reply user (Command command) mark = answer user command mark
item_reply user (Bad fault) mark = (Refused (refusal_of fault), user)
item_reply user (Last fault) mark = (Refused (refusal_of fault), user)

-- the text that answers an item, and the user after it
abbrev pub item_text : User → Item → Bool → List ℕ × User
item_text user item mark = let a = item_reply user item mark in (text a.1 a.0, a.1)

-- the mark of the first item: memory was refused to it; a missing mark counts as not set
abbrev pub first_mark : List Bool → Bool
first_mark [] = false
first_mark (mark ∷ marks) = mark

-- the marks of the other items
abbrev pub other_marks : List Bool → List Bool
other_marks [] = []
other_marks (mark ∷ marks) = marks

-- the texts of the answers to items, from a user on
abbrev pub texts : User → List Item → List Bool → List (List ℕ)
texts user [] marks = []
texts user (item ∷ items) marks =
    let next = item_text user item (first_mark marks) in next.0 ∷ texts next.1 items (other_marks marks)

-- the user after items
abbrev pub last_user : User → List Item → List Bool → User
last_user user [] marks = user
last_user user (item ∷ items) marks = last_user (item_text user item (first_mark marks)).1 items (other_marks marks)

-- A user's items answered alone, starting without sessions: the texts, and the last user.
abbrev pub alone : Quota → List Item → List Bool → List (List ℕ) × User
alone quota items marks = (texts (fresh_user quota) items marks, last_user (fresh_user quota) items marks)
