-- How a line is parsed into an item: its words, the command in them, and the body after the line of a load. In lists of words `s`
-- and `b` are names, `P` and `Q` symbols of atoms, `N` is a number and `D` a displacement.
use Rattle.std.specs.Prelude.{ℕ, Bool, nat_le, nat_lt, ◌&&◌, List, [], ◌∷◌, length}
use Rattle.std.specs.Prelude.{Option, Some, None, if◌then◌else◌, codes}
use Rattle.std.specs.List.{last_or}
use Rattle.std.specs.Option.{option_map, unwrap_or}
use Rattle.std.specs.Result.{result_ok}
use Rattle.std.specs.Str.{bytes_eq}
use Rattle.std.specs.Str.Lines.{strip_carriage_return}
use Rattle.lj_fixed.specs.Decimal.{nano_of}
use Rattle.lj_fixed.specs.Numbers.{number_of}
use Rattle.lj_base.specs.Words.{words_of}
use Rattle.lj_xyz.specs.Symbols.{SymbolPair, is_symbol, pair_of}
use Rattle.lj_session.specs.declared.body.LoadBody.{LoadBody}
use Rattle.lj_session.specs.declared.body.LoadBody.TheVariants.{Unread, Read}
use Rattle.lj_session.specs.declared.command.Load.{Load}
use Rattle.lj_session.specs.declared.command.Mode.{Mode}
use Rattle.lj_session.specs.declared.command.Mode.TheVariants.{Rest, Pair}
use Rattle.lj_session.specs.declared.command.Command.{Command}
use Rattle.lj_session.specs.declared.command.Command.TheVariants as command
use Rattle.lj_session.specs.declared.interactions.ClassNumbers.{ClassNumbers}
use Rattle.lj_session.specs.declared.interactions.Interactions.{Interactions}
use Rattle.lj_session.specs.declared.interactions.Interactions.TheVariants.{Pure, Mixed}
use Rattle.lj_base.specs.Names.{name_of}
use Rattle.lj_wire.specs.declared.command_line.TheConstants.{MAX_COUNT_DIGITS}
use Rattle.lj_wire.specs.declared.item.Fault.TheVariants as fault
use Rattle.lj_wire.specs.declared.item.Item.{Item}
use Rattle.lj_wire.specs.declared.item.Item.TheVariants as item
use Rattle.lj_wire.specs.declared.line_limits.TheConstants.{MAX_LINE_BYTES, LONG_LINE_BYTES, MAX_BODY_BYTES}
use Rattle.lj_wire.specs.declared.verb.Verb.{Verb}
use Rattle.lj_wire.specs.declared.verb.Verb.TheVariants as verb
use Rattle.lj_wire.specs.Displacements.{displacement_of}
use Rattle.lj_wire.specs.Verbs.{has_body, verb_of}

infixl 10 ◌>>=◌
-- the bind of Option: None stays None
abbrev pub ◌>>=◌ : {A B : Type 0} → Option A → (A → Option B) → Option B
(Some x) >>= f = f x
None >>= f = None

-- words of a line
abbrev pub Words : Type 0
Words = List (List ℕ)

-- `s`
abbrev pub one_name : Words → Option (List ℕ)
one_name (s ∷ []) = name_of s
one_name words = None

-- `s b`
abbrev pub two_names : Words → Option (List ℕ × List ℕ)
two_names (s ∷ b ∷ []) = do
  name ← name_of s
  branch ← name_of b
  Some (name, branch)
two_names words = None

-- `s N`
abbrev pub name_and_number : Words → Option (List ℕ × ℕ)
name_and_number (s ∷ n ∷ []) = do
  name ← name_of s
  number ← number_of n
  Some (name, number)
name_and_number words = None

-- a command without arguments
abbrev pub bare_command : Command → Words → Option Command
bare_command command [] = Some command
bare_command command words = None

-- a command on a session: `s`
abbrev pub session_command : (List ℕ → Command) → Words → Option Command
session_command command words = option_map command (one_name words)

-- a command on a branch: `s b`
abbrev pub branch_command : (List ℕ → List ℕ → Command) → Words → Option Command
branch_command command words = option_map (λ p. command p.0 p.1) (two_names words)

-- a command on a session, with a number: `s N`
abbrev pub number_command : (List ℕ → ℕ → Command) → Words → Option Command
number_command command words = option_map (λ p. command p.0 p.1) (name_and_number words)

-- TUG: `s N D D D`
abbrev pub tug_command : Words → Option Command
tug_command (s ∷ n ∷ dx ∷ dy ∷ dz ∷ []) = do
  name ← name_of s
  atom ← number_of n
  x ← displacement_of dx
  y ← displacement_of dy
  z ← displacement_of dz
  Some (command.Tug name atom x y z)
tug_command words = None

-- LIST: no word, or `s`
abbrev pub list_command : Words → Option Command
list_command [] = Some command.List
list_command words = session_command command.ListBranches words

-- `rest` or `pair`
abbrev pub mode_of : List ℕ → Option Mode
mode_of word =
    if bytes_eq word (codes "rest") then Some Rest
    else (if bytes_eq word (codes "pair") then Some Pair else None)

-- a load without its body
abbrev pub load_from : List ℕ → List ℕ → Interactions → List ℕ → Option Load
load_from s edge interactions mode = do
  name ← name_of s
  mode ← mode_of mode
  Some (record { name = name; edge = result_ok (nano_of edge); interactions = interactions; mode = mode; body = Unread })

-- `mode count`: the mode of a load
abbrev pub mode_and_count : Words → Option (List ℕ)
mode_and_count (mode ∷ count ∷ []) = Some mode
mode_and_count words = None

-- LOAD: `s edge sigma step_factor mode count`; edge, sigma and step factor may be any words
abbrev pub load_of : Words → Option Load
load_of (s ∷ edge ∷ sigma ∷ step_factor ∷ words) = do
  mode ← mode_and_count words
  load_from s edge (Pure (result_ok (nano_of sigma)) (number_of step_factor)) mode
load_of words = None

-- a word as the symbol of an atom
abbrev pub symbol_of : List ℕ → Option (List ℕ)
symbol_of word = if is_symbol word then Some word else None

-- `P Q`: two symbols that differ
abbrev pub pair_of_words : List ℕ → List ℕ → Option SymbolPair
pair_of_words p q = do
  first ← symbol_of p
  second ← symbol_of q
  pair_of first second

-- the class in the first three words, `sigma step_factor weight`, which may be any words; and the words after them
abbrev pub class_of_words : Words → Option (ClassNumbers × Words)
class_of_words (sigma ∷ step_factor ∷ weight ∷ words) = Some (
  record { sigma = result_ok (nano_of sigma); step_factor = number_of step_factor; weight = number_of weight },
  words,
)
class_of_words words = None

-- the classes for two atoms of the first species, for one of each and for two of the second; `left` has the words after them
pub record Classes : Type 0 where
  pub first : ClassNumbers
  pub unlike : ClassNumbers
  pub second : ClassNumbers
  pub left : Words

-- three classes
abbrev pub classes_in : Words → Option Classes
classes_in words = do
  first ← class_of_words words
  unlike ← class_of_words first.1
  second ← class_of_words unlike.1
  Some (record { first = first.0; unlike = unlike.0; second = second.0; left = second.1 })

-- LOADMIX: `s edge P Q`, the classes of P with P, of P with Q and of Q with Q, and `mode count`
abbrev pub load_mix_of : Words → Option Load
load_mix_of (s ∷ edge ∷ p ∷ q ∷ words) = do
  symbols ← pair_of_words p q
  classes ← classes_in words
  mode ← mode_and_count classes.left
  load_from s edge (Mixed symbols classes.first classes.unlike classes.second) mode
load_mix_of words = None

-- the command of a load, with this body
abbrev pub load_command : LoadBody → Option Load → Option Command
load_command body load = option_map (λ load. command.Load (record load { body = body })) load

-- the command of a verb and the words after it; a load gets this body
abbrev pub verb_command : Verb → LoadBody → Words → Option Command
verb_command verb.Load body words = load_command body (load_of words)
verb_command verb.LoadMix body words = load_command body (load_mix_of words)
verb_command verb.Advance body words = number_command command.Advance words
verb_command verb.Start body words = number_command command.Start words
verb_command verb.Reverse body words = session_command command.Reverse words
verb_command verb.Branch body words = branch_command command.Branch words
verb_command verb.Restore body words = branch_command command.Restore words
verb_command verb.Forget body words = branch_command command.Forget words
verb_command verb.Tug body words = tug_command words
verb_command verb.Measure body words = session_command command.Measure words
verb_command verb.Show body words = number_command command.Show words
verb_command verb.Dump body words = session_command command.Dump words
verb_command verb.List body words = list_command words
verb_command verb.Unload body words = session_command command.Unload words
verb_command verb.Bye body words = bare_command command.Bye words

-- the value of a word of at most 7 digits, where it is at most 1,048,576
unfoldable pub count_of : List ℕ → Option ℕ
count_of word = do
  count ← number_of word
  if nat_le (length word) MAX_COUNT_DIGITS && nat_le count MAX_BODY_BYTES then Some count else None

-- the count in the line of a load: the last word after the verb
abbrev pub load_count : Words → Option ℕ
load_count words = last_or None words >>= count_of

-- the item of parsed words: their command, or a syntax fault
abbrev pub item_or_syntax : Option Command → Item
item_or_syntax (Some command) = item.Command command
item_or_syntax None = item.Bad fault.Syntax

-- the item of the line of a load: without a count the last fault Body, else its command or a syntax fault
abbrev pub counted_item : Option ℕ → Option Command → Item
counted_item (Some count) command = item_or_syntax command
counted_item None command = item.Last fault.Body

-- the item of a line, by its verb and the words after it: without a verb the fault Command; a load gets this body
abbrev pub verb_item : Option Verb → Words → LoadBody → Item
verb_item None words body = item.Bad fault.Command
verb_item (Some verb) words body =
    if has_body verb then counted_item (load_count words) (verb_command verb body words)
    else item_or_syntax (verb_command verb body words)

-- the number of bytes of body after a line with this verb: the count of a load, else 0
abbrev pub verb_body_len : Option Verb → Words → ℕ
verb_body_len None words = 0
verb_body_len (Some verb) words = if has_body verb then unwrap_or (load_count words) 0 else 0

-- the item of a line of these words: without a word a syntax fault; a load gets this body
unfoldable pub item_of_words : Words → LoadBody → Item
item_of_words [] body = item.Bad fault.Syntax
item_of_words (word ∷ words) body = verb_item (verb_of word) words body

-- the number of bytes of body after a line of these words
unfoldable pub body_len : Words → ℕ
body_len [] = 0
body_len (word ∷ words) = verb_body_len (verb_of word) words

-- a line of more than 256 bytes is no command
abbrev pub is_over : List ℕ → Bool
is_over line = nat_lt MAX_LINE_BYTES (length line)

-- the item of an overlong line: from 65,536 bytes on it ends the connection
abbrev pub over_item : List ℕ → Item
over_item line = if nat_lt (length line) LONG_LINE_BYTES then item.Bad fault.Line else item.Last fault.Long

-- the words of a line, without a carriage return at its end
abbrev pub words_in : List ℕ → Words
words_in line = words_of (strip_carriage_return line)

-- the number of bytes of body after a line; 0 after an overlong one
abbrev pub body_len_announced : List ℕ → ℕ
body_len_announced line = if is_over line then 0 else body_len (words_in line)

-- the item of a line; a load gets this body
abbrev pub item_with : List ℕ → LoadBody → Item
item_with line body = if is_over line then over_item line else item_of_words (words_in line) body

-- the item of a line and the bytes of its body
abbrev pub item_of : List ℕ → List ℕ → Item
item_of line body = item_with line (Read body)
