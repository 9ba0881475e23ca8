-- The first line of a connection: what it asks for, and how reading it changes the state of a reader.
use Rattle.std.specs.Prelude.{◌≡◌, ℕ, ◌≤◌, List, [], ◌∷◌, ◌++◌, length, Option, Some, None, ◌⊎◌}
use Rattle.std.specs.Prelude.{if◌then◌else◌, codes}
use Rattle.std.specs.Io.KnownBytes.{Consumes, IsAtEnd}
use Rattle.std.specs.Option.{unwrap_or}
use Rattle.std.specs.Str.{bytes_eq}
use Rattle.lj_base.specs.Names.{name_of}
use Rattle.lj_base.specs.Tokens.{token_of}
use Rattle.lj_wire.specs.declared.hello.Hello.{Hello}
use Rattle.lj_wire.specs.declared.hello.Hello.TheVariants.{Asked, Other}
use Rattle.lj_wire.specs.declared.line_limits.TheConstants.{LONG_LINE_BYTES}
use Rattle.lj_wire.specs.declared.reader.phase.Phase.TheVariants.{Open, Over, Failed}
use Rattle.lj_wire.specs.Input.{Input, bytes_untaken, TakesBytes, TakesPart, ReadsFor}
use Rattle.lj_wire.specs.Commands.{◌>>=◌, Words, is_over, words_in}
use Rattle.lj_wire.specs.LineReader.{LineReader, CeasesWithin, FailsWithin}
use Rattle.lj_wire.specs.Streams.{LacksLineFeed, IsLine}

-- the words after HELLO: a name and a token
abbrev pub hello_asked : Words → Option Hello
hello_asked (name ∷ token ∷ []) = do
  name ← name_of name
  token ← token_of token
  Some (Asked name token)
hello_asked words = None

-- a greeting: HELLO, a name and a token
abbrev pub greeting : Words → Option Hello
greeting [] = None
greeting (word ∷ words) = if bytes_eq word (codes "HELLO") then hello_asked words else None

-- the meaning of a first line: a greeting, or any other line
abbrev pub hello_of : List ℕ → Hello
hello_of line = if is_over line then Other else unwrap_or (greeting (words_in line)) Other

-- a first line with its line feed
pub record IsHelloLine (bytes : List ℕ) (hello : Hello) : Type 0 where
  pub line : List ℕ
  pub whole : bytes ≡ line ++ 10 ∷ []
  pub is_line : IsLine line
  pub means : hello ≡ hello_of line

-- 65,536 bytes without a line feed: too long for a line
pub record IsHelloTooLong (bytes : List ℕ) (hello : Hello) : Type 0 where
  pub one_line : LacksLineFeed bytes
  pub long : length bytes ≡ LONG_LINE_BYTES
  pub means : hello ≡ Other

-- the bytes taken as the first line: a line, or 65,536 bytes without a line feed
abbrev pub IsFirstLine : List ℕ → Hello → Type 0
IsFirstLine bytes hello = IsHelloLine bytes hello ⊎ IsHelloTooLong bytes hello

-- the first line was taken
pub record TakesHello (old new : Input) (hello : Hello) : Type 0 where
  pub front : List ℕ
  pub taken : TakesBytes old new front
  pub is_first : IsFirstLine front hello
  pub reads_for : ReadsFor old new (length front)

-- the first line was taken, or the input ended before a whole line came
abbrev pub ReadsHello : Input → Option Hello → Input → Type 0
ReadsHello old (Some hello) new = TakesHello old new hello
ReadsHello old None new = TakesPart old new × IsAtEnd (bytes_untaken new)

-- The first line was taken and the reader stays open; the line counts as no item. No read is made for a line already held.
pub record Greets (old new : LineReader) (hello : Hello) : Type 0 where
  pub was_open : old.phase ≡ Open
  pub front : List ℕ
  pub taken : Consumes old.left new.left front
  pub is_first : IsFirstLine front hello
  pub items_is : new.items ≡ old.items
  pub errors_is : new.errors ≡ old.errors
  pub unread_is : length front ≤ length old.held → new.unread ≡ old.unread
  pub phase_is : new.phase ≡ Open

-- no line: the reader was over and is unchanged, or the input ended before a whole one came
abbrev pub GreetsNone : LineReader → LineReader → Type 0
GreetsNone old new = (old.phase ≡ Over) × (new ≡ old) ⊎ CeasesWithin IsLine old new

-- a fault: the reader had failed and is unchanged, or a read failed before a whole line came
abbrev pub HasFailedEarly : LineReader → LineReader → Type 0
HasFailedEarly old new = (old.phase ≡ Failed) × (new ≡ old) ⊎ FailsWithin IsLine old new
