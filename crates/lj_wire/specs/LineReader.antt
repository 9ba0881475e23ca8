-- The state of a line reader, and how each call for the next item changes it.
use Rattle.std.specs.Prelude.{◌≡◌, ℕ, ◌+◌, ◌≤◌, Bool, true, List, [], ◌∷◌, ◌++◌, length, Option, Some, ◌⊎◌}
use Rattle.std.specs.Prelude.{if◌then◌else◌}
use Rattle.std.specs.Io.KnownBytes.{Consumes, IsAtEnd}
use Rattle.lj_session.specs.declared.body.LoadBody.TheVariants.{Lost, Read}
use Rattle.lj_session.specs.declared.command.Load.{Load as LoadParts}
use Rattle.lj_session.specs.declared.command.Command.TheVariants.{Load}
use Rattle.lj_wire.specs.declared.item.Item.{Item}
use Rattle.lj_wire.specs.declared.item.Item.TheVariants.{Command}
use Rattle.lj_wire.specs.declared.reader.phase.Phase.{Phase}
use Rattle.lj_wire.specs.declared.reader.phase.Phase.TheVariants.{Open, Over, Failed}
use Rattle.lj_wire.specs.Ends.{Rises}
use Rattle.lj_wire.specs.Items.{is_ending}
use Rattle.lj_session.specs.Users.{User}
use Rattle.lj_wire.specs.Commands.{body_len_announced}
use Rattle.lj_wire.specs.Streams.{LacksLineFeed, IsItem, IsPart, Splits}
use Rattle.lj_wire.specs.Told.{item_reply}

-- The state of a reader. `left` has the bytes that are in no item yet, where they are known: `held`, which were read ahead, and
-- then `unread`, which the source still has. `errors` is the source's count of errors.
pub record LineReader : Type 0 where
  pub left : Option (List ℕ)
  pub held : List ℕ
  pub unread : Option (List ℕ)
  pub errors : Option ℕ
  pub items : ℕ
  pub phase : Phase

-- a load with its body, and the same load with its body lost for want of memory
pub record IsLost (found item : Item) : Type 0 where
  pub load : LoadParts
  pub body : List ℕ
  pub found_is : found ≡ Command (Load (record load { body = Read body }))
  pub item_is : item ≡ Command (Load (record load { body = Lost }))

-- what is handed out for an item of the stream: the item, or a load whose body was lost
abbrev pub IsHandedItem : Item → Item → Type 0
IsHandedItem found item = (item ≡ found) ⊎ IsLost found item

-- The next item of the stream was handed out, and the reader is over if that item ends the connection. No read is made for an
-- item already held, nor for the last fault after a million items, which has no bytes.
pub record HandsOutItem (old new : LineReader) (item : Item) : Type 0 where
  pub was_open : old.phase ≡ Open
  pub front : List ℕ
  pub found : Item
  pub taken : Consumes old.left new.left front
  pub is_item : IsItem old.items front found
  pub is_found : IsHandedItem found item
  pub items_is : new.items ≡ old.items + 1
  pub errors_is : new.errors ≡ old.errors
  pub unread_is : length front ≤ length old.held → new.unread ≡ old.unread
  pub phase_is : new.phase ≡ (if is_ending item then Over else Open)

-- The bytes begin with an item that is whole: a line that no body follows. Where a reader holds them, no read is made for it.
pub record BeginsWithItem (bytes : List ℕ) : Type 0 where
  pub line : List ℕ
  pub behind : List ℕ
  pub whole : bytes ≡ line ++ 10 ∷ behind
  pub one_line : LacksLineFeed line
  pub bare : body_len_announced line ≡ 0

-- the input ended within a part, which was taken
pub record CeasesWithin (Part : List ℕ → Type 0) (old new : LineReader) : Type 0 where
  pub was_open : old.phase ≡ Open
  pub part : List ℕ
  pub taken : Consumes old.left new.left part
  pub is_part : Part part
  pub at_end : IsAtEnd new.left
  pub items_is : new.items ≡ old.items
  pub errors_is : new.errors ≡ old.errors
  pub phase_is : new.phase ≡ Over

-- a read failed within a part, which was taken, and no byte is held
pub record FailsWithin (Part : List ℕ → Type 0) (old new : LineReader) : Type 0 where
  pub was_open : old.phase ≡ Open
  pub part : List ℕ
  pub taken : Consumes old.left new.left part
  pub is_part : Part part
  pub all_taken : new.held ≡ []
  pub items_is : new.items ≡ old.items
  pub errors_rise : Rises old.errors new.errors
  pub phase_is : new.phase ≡ Failed

-- the input ended before a whole item came
abbrev pub Ceases : LineReader → LineReader → Type 0
Ceases old new = CeasesWithin (IsPart old.items) old new

-- a read failed before a whole item came
abbrev pub Fails : LineReader → LineReader → Type 0
Fails old new = FailsWithin (IsPart old.items) old new

-- no item: the reader was over and is unchanged, or the input ended
abbrev pub HandsNone : LineReader → LineReader → Type 0
HandsNone old new = (old.phase ≡ Over) × (new ≡ old) ⊎ Ceases old new

-- a fault: the reader had failed and is unchanged, or a read failed
abbrev pub HasFailed : LineReader → LineReader → Type 0
HasFailed old new = (old.phase ≡ Failed) × (new ≡ old) ⊎ Fails old new

-- items that were handed out one after the other
abbrev pub HandsAll : LineReader → List Item → LineReader → Type 0
HandsAll old [] new = new ≡ old
HandsAll old (item ∷ items) new = (next : LineReader) × HandsOutItem old next item × HandsAll next items new

-- what was handed out for items of the stream, one for one
abbrev pub AreHandedOut : List Item → List Item → Type 0
AreHandedOut [] [] = Unit {0}
AreHandedOut (found ∷ founds) (item ∷ items) = IsHandedItem found item × AreHandedOut founds items
AreHandedOut [] (item ∷ items) = ⊥
AreHandedOut (found ∷ founds) [] = ⊥

-- A reader hands out the first items of the bytes left, in order; a load whose body found no memory is marked as lost.
abbrev pub HandedComeFirst : Type 0
HandedComeFirst = (old new : LineReader) (bytes rest : List ℕ) (handed items : List Item)
    → old.left ≡ Some bytes → HandsAll old handed new → Splits old.items bytes items rest
    → (founds : List Item) × (others : List Item) × (items ≡ founds ++ others) × AreHandedOut founds handed

-- At the end of the input a reader has handed out all items of the bytes that were left.
abbrev pub HandedAreAll : Type 0
HandedAreAll = (old last new : LineReader) (bytes rest : List ℕ) (handed items : List Item)
    → old.left ≡ Some bytes → HandsAll old handed last → Ceases last new → Splits old.items bytes items rest
    → AreHandedOut items handed

-- A load whose body is lost gets the reply of a load that is refused memory.
abbrev pub LostIsMarked : Type 0
LostIsMarked = (user : User) (found item : Item) (mark : Bool) → IsLost found item
    → item_reply user item mark ≡ item_reply user found true
