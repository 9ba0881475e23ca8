-- The items of a stream of bytes, and the dialogue of a stream and its replies.
use Rattle.std.specs.Prelude.{◌≡◌, ℕ, ◌+◌, ◌<◌, Bool, true, false, List, [], ◌∷◌, ◌++◌, length, ◌⊎◌}
use Rattle.std.specs.List.{list_any, concat}
use Rattle.lj_xyz.specs.Lines.{is_line_feed}
use Rattle.lj_session.specs.Users.{User}
use Rattle.lj_wire.specs.declared.item.Fault.TheVariants.{Long, Enough}
use Rattle.lj_wire.specs.declared.item.Item.{Item}
use Rattle.lj_wire.specs.declared.item.Item.TheVariants.{Last}
use Rattle.lj_wire.specs.declared.line_limits.TheConstants.{LONG_LINE_BYTES, MAX_ITEMS}
use Rattle.lj_wire.specs.Items.{is_ending}
use Rattle.lj_wire.specs.Commands.{body_len_announced, item_of}
use Rattle.lj_wire.specs.ReplyTexts.{is_memory}
use Rattle.lj_wire.specs.Told.{texts, last_user}

-- no byte is a line feed
abbrev pub LacksLineFeed : List ℕ → Type 0
LacksLineFeed bytes = list_any is_line_feed bytes ≡ false

-- a line without its line feed: fewer than 65,536 bytes
abbrev pub IsLine : List ℕ → Type 0
IsLine line = LacksLineFeed line × (length line < LONG_LINE_BYTES)

-- a line with its line feed, and after it the body that it announces
pub record IsLineItem (bytes : List ℕ) (item : Item) : Type 0 where
  pub line : List ℕ
  pub body : List ℕ
  pub whole : bytes ≡ line ++ 10 ∷ body
  pub is_line : IsLine line
  pub announces : length body ≡ body_len_announced line
  pub means : item ≡ item_of line body

-- 65,536 bytes without a line feed: an item that ends the connection
pub record IsLongItem (bytes : List ℕ) (item : Item) : Type 0 where
  pub one_line : LacksLineFeed bytes
  pub long : length bytes ≡ LONG_LINE_BYTES
  pub means : item ≡ Last Long

-- The bytes of item n, counted from 0: a line with its body, or an overlong line. After a million items comes the last fault,
-- which has no bytes.
abbrev pub IsItem : ℕ → List ℕ → Item → Type 0
IsItem n bytes item =
    (n < MAX_ITEMS) × (IsLineItem bytes item ⊎ IsLongItem bytes item)
    ⊎ (n ≡ MAX_ITEMS) × (bytes ≡ []) × (item ≡ Last Enough)

-- a line with its line feed, and less than the body that it announces
pub record IsOpenBody (bytes : List ℕ) : Type 0 where
  pub line : List ℕ
  pub body : List ℕ
  pub whole : bytes ≡ line ++ 10 ∷ body
  pub is_line : IsLine line
  pub announces : length body < body_len_announced line

-- less than a whole item, and nothing after it
abbrev pub IsPart : ℕ → List ℕ → Type 0
IsPart n bytes = (n < MAX_ITEMS) × (IsLine bytes ⊎ IsOpenBody bytes)

-- The bytes are these items, numbered from n on, and then less than an item. An item that ends the connection is the last one,
-- and any bytes may follow it.
abbrev pub Splits : ℕ → List ℕ → List Item → List ℕ → Type 0
Splits n bytes [] rest = (bytes ≡ rest) × IsPart n rest
Splits n bytes (item ∷ items) rest =
    (front : List ℕ) × (behind : List ℕ) × (bytes ≡ front ++ behind) × IsItem n front item
    × (is_ending item ≡ true → (items ≡ []) × (behind ≡ rest))
    × (is_ending item ≡ false → Splits (n + 1) behind items rest)

-- a mark for each text, set only where the text is the memory refusal
abbrev pub AreMarks : List Bool → List (List ℕ) → Type 0
AreMarks [] [] = Unit {0}
AreMarks (mark ∷ marks) (text ∷ texts) = (mark ≡ true → is_memory text ≡ true) × AreMarks marks texts
AreMarks [] (text ∷ texts) = ⊥
AreMarks (mark ∷ marks) [] = ⊥

-- A dialogue: the bytes, sent by `user`, are answered with `written`, and the user is then `next`.
pub record Dialogue (user : User) (bytes written : List ℕ) (next : User) : Type 0 where
  pub items : List Item
  pub rest : List ℕ
  pub marks : List Bool
  pub splits : Splits 0 bytes items rest
  pub are_marks : AreMarks marks (texts user items marks)
  pub written_is : written ≡ concat (texts user items marks)
  pub next_is : next ≡ last_user user items marks
