-- The steps of reading an item: its line, and the body after it.
use Rattle.std.specs.Prelude.{◌≡◌, ℕ, ◌<◌, ◌≤◌, Bool, true, false, List, [], ◌∷◌, ◌++◌, length, Option, Some, None, ◌⊎◌}
use Rattle.std.specs.Io.KnownBytes.{Keeps, IsAtEnd}
use Rattle.lj_session.specs.declared.body.LoadBody.{LoadBody}
use Rattle.lj_session.specs.declared.body.LoadBody.TheVariants.{Unread, Lost, Read}
use Rattle.lj_session.specs.declared.command.Command.TheVariants.{Load}
use Rattle.lj_wire.specs.declared.item.Item.{Item}
use Rattle.lj_wire.specs.declared.item.Item.TheVariants.{Command, Bad, Last}
use Rattle.lj_wire.specs.declared.line_limits.TheConstants.{MAX_LINE_BYTES, LONG_LINE_BYTES}
use Rattle.lj_wire.specs.declared.reader.source_input.Front.{Front}
use Rattle.lj_wire.specs.declared.reader.source_input.Front.TheVariants as front
use Rattle.lj_wire.specs.declared.reader.source_input.SkippedLine.{SkippedLine}
use Rattle.lj_wire.specs.declared.reader.source_input.SkippedLine.TheVariants as skipped
use Rattle.lj_wire.specs.Input.{Input, bytes_untaken, TakesBytes, HoldsLine, HoldsNoFeed, TakesPart, ReadsFor}
use Rattle.lj_wire.specs.Items.{with_body}
use Rattle.lj_wire.specs.Streams.{LacksLineFeed, IsLine, IsLineItem, IsLongItem, IsOpenBody}
use Rattle.lj_wire.specs.LineReader.{IsHandedItem}

-- a whole line or an overlong one is found, and stays; at the end of the input the unfinished line is taken
abbrev pub Finds : Input → Front → Input → Type 0
Finds old (front.Line count) new = Keeps (bytes_untaken old) (bytes_untaken new) × HoldsLine new count
Finds old front.Long new = Keeps (bytes_untaken old) (bytes_untaken new) × HoldsNoFeed new
Finds old front.End new = TakesPart old new × IsAtEnd (bytes_untaken new)

-- a line already held changes nothing; for an overlong one no byte held is given up
abbrev pub SearchesFor : Input → Front → Input → Type 0
SearchesFor old (front.Line count) new = count < length old.held → new ≡ old
SearchesFor old front.Long new = length old.held ≤ length new.held
SearchesFor old front.End new = Unit {0}

-- a line of more than 256 bytes was taken with its line feed; all bytes held belong to it
pub record TakesLongLine (old new : Input) : Type 0 where
  pub line : List ℕ
  pub taken : TakesBytes old new (line ++ 10 ∷ [])
  pub is_line : IsLine line
  pub long : MAX_LINE_BYTES < length line
  pub beyond : length old.held ≤ length line

-- 65,536 bytes without a line feed were taken
pub record TakesLong (old new : Input) : Type 0 where
  pub bytes : List ℕ
  pub taken : TakesBytes old new bytes
  pub one_line : LacksLineFeed bytes
  pub long : length bytes ≡ LONG_LINE_BYTES

-- skipped: a line of more than 256 bytes, 65,536 bytes without a line feed, or the unfinished line at the end
abbrev pub Skips : Input → SkippedLine → Input → Type 0
Skips old skipped.Line new = TakesLongLine old new
Skips old skipped.Long new = TakesLong old new
Skips old skipped.End new = TakesPart old new × IsAtEnd (bytes_untaken new)

-- fewer than `count` bytes were taken
pub record TakesFewer (old new : Input) (count : ℕ) : Type 0 where
  pub part : List ℕ
  pub taken : TakesBytes old new part
  pub fewer : length part < count

-- `count` bytes were taken
pub record TakesCount (old new : Input) (count : ℕ) : Type 0 where
  pub bytes : List ℕ
  pub taken : TakesBytes old new bytes
  pub counted : length bytes ≡ count

-- `buf` was filled, or the input ended before
abbrev pub Fills : Input → Bool → List ℕ → Input → Type 0
Fills old true buf new = TakesBytes old new buf
Fills old false buf new = TakesFewer old new (length buf) × IsAtEnd (bytes_untaken new)

-- `count` bytes were skipped, or the input ended before
abbrev pub PassesCount : Input → Bool → ℕ → Input → Type 0
PassesCount old true count new = TakesCount old new count
PassesCount old false count new = TakesFewer old new count × IsAtEnd (bytes_untaken new)

-- a body of `count` bytes was read, or skipped for want of memory, or the input ended before
abbrev pub ReadsBody : Input → Option LoadBody → ℕ → Input → Type 0
ReadsBody old (Some (Read body)) count new = TakesBytes old new body × (length body ≡ count)
ReadsBody old (Some Lost) count new = TakesCount old new count
ReadsBody old (Some Unread) count new = ⊥
ReadsBody old None count new = TakesFewer old new count × IsAtEnd (bytes_untaken new)

-- the body after a line was taken, and put into the item if that is a load; for want of memory it is lost
pub record TakesRest (old new : Input) (item : Item) (count : ℕ) (handed : Item) : Type 0 where
  pub body : List ℕ
  pub taken : TakesBytes old new body
  pub counted : length body ≡ count
  pub is_handed : IsHandedItem (with_body item (Read body)) handed

-- the item of a line got its body, or the input ended before
abbrev pub FinishesItem : Input → Item → ℕ → Option Item → Input → Type 0
FinishesItem old item count (Some handed) new = TakesRest old new item count handed
FinishesItem old item count None new = TakesFewer old new count × IsAtEnd (bytes_untaken new)

-- an item was taken: a line with its body, or a line too long
pub record TakesItem (old new : Input) (handed : Item) : Type 0 where
  pub front : List ℕ
  pub found : Item
  pub taken : TakesBytes old new front
  pub is_item : IsLineItem front found ⊎ IsLongItem front found
  pub is_handed : IsHandedItem found handed
  pub reads_for : ReadsFor old new (length front)

-- less than an item was taken
pub record TakesNoItem (old new : Input) : Type 0 where
  pub part : List ℕ
  pub taken : TakesBytes old new part
  pub is_part : IsLine part ⊎ IsOpenBody part

-- an item was taken, or the input ended before a whole one came
abbrev pub ReadsItem : Input → Option Item → Input → Type 0
ReadsItem old (Some handed) new = TakesItem old new handed
ReadsItem old None new = TakesNoItem old new × IsAtEnd (bytes_untaken new)

-- an item that can take a body: a load
abbrev pub may_take_body : Item → Bool
may_take_body (Command (Load load)) = true
may_take_body (Command _) = false
may_take_body (Bad fault) = false
may_take_body (Last fault) = false
