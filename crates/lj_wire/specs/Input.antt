-- The input of a reader: the bytes that it holds, and then those left in its source.
use Rattle.std.specs.Prelude.{◌≡◌, ℕ, ◌<◌, ◌≤◌, List, [], ◌∷◌, ◌++◌, length, Option, Result, OnOk, OnErr}
use Rattle.std.specs.Io.KnownBytes.{prepend_known, Consumes, Keeps, IsAtEnd}
use Rattle.lj_wire.specs.declared.line_limits.TheConstants.{MAX_LINE_BYTES}
use Rattle.lj_wire.specs.declared.reader.buffer.TheConstants.{MAX_HELD_BYTES}
use Rattle.lj_wire.specs.Ends.{Rises}
use Rattle.lj_wire.specs.Streams.{LacksLineFeed, IsLine}

-- the bytes held, those left in the source where they are known, and its count of errors where it keeps one
pub record Input : Type 0 where
  pub held : List ℕ
  pub unread : Option (List ℕ)
  pub errors : Option ℕ

-- the bytes not yet taken, where they are known
abbrev pub bytes_untaken : Input → Option (List ℕ)
bytes_untaken ahead = prepend_known ahead.held ahead.unread

-- `count` more bytes are held; 0 only at the end of the input
pub record Grows (old new : Input) (count : ℕ) : Type 0 where
  pub more : List ℕ
  pub counted : length more ≡ count
  pub held : new.held ≡ old.held ++ more
  pub kept : Keeps (bytes_untaken old) (bytes_untaken new)
  pub ended : count ≡ 0 → IsAtEnd new.unread

-- a fault raises the count of errors and leaves no byte held; without one the count stays
pub record CountsFault {T E : Type 0} (result : Result T E) (old new : Input) : Type 0 where
  pub counted : OnOk result (new.errors ≡ old.errors)
  pub emptied : OnErr result (new.held ≡ [])
  pub risen : OnErr result (Rises old.errors new.errors)

-- nothing is read where `count` bytes are held already
abbrev pub ReadsFor : Input → Input → ℕ → Type 0
ReadsFor old new count = count ≤ length old.held → new.unread ≡ old.unread

-- these bytes are taken from the front
abbrev pub TakesBytes : Input → Input → List ℕ → Type 0
TakesBytes old new bytes = Consumes (bytes_untaken old) (bytes_untaken new) bytes

-- the bytes held begin with a line of `count` bytes and its line feed
pub record HoldsLine (ahead : Input) (count : ℕ) : Type 0 where
  pub line : List ℕ
  pub behind : List ℕ
  pub held : ahead.held ≡ line ++ 10 ∷ behind
  pub one_line : LacksLineFeed line
  pub counted : length line ≡ count

-- more bytes are held than a command may have, and no line feed
pub record HoldsNoFeed (ahead : Input) : Type 0 where
  pub one_line : LacksLineFeed ahead.held
  pub long : MAX_LINE_BYTES < length ahead.held
  pub bounded : length ahead.held ≤ MAX_HELD_BYTES

-- bytes of a line were taken, without its line feed
pub record TakesPart (old new : Input) : Type 0 where
  pub part : List ℕ
  pub taken : TakesBytes old new part
  pub is_line : IsLine part
