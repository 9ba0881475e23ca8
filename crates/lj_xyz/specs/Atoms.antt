-- Single lines of a frame: the number of atoms, and one atom.
use Rattle.std.specs.Prelude.{ℕ, Bool, ◌&&◌, nat_le, ℤ, List, ◌∷◌, Option, Some, None, Result, Ok, Err, if◌then◌else◌}
use Rattle.lj_fixed.specs.declared.numbers.NumberFault.{NumberFault}
use Rattle.lj_fixed.specs.Decimal.{nano_of}
use Rattle.lj_fixed.specs.Numbers.{number_of}
use Rattle.lj_xyz.specs.declared.xyz_fault.XyzKind.{XyzKind}
use Rattle.lj_xyz.specs.declared.xyz_fault.XyzKind.TheVariants as kind
use Rattle.lj_xyz.specs.declared.frame_reader.TheConstants.{MAX_FRAME_ATOMS}
use Rattle.lj_xyz.specs.declared.atom_row.AtomRow.{AtomRow}
use Rattle.lj_base.specs.Words.{words_of}
use Rattle.lj_xyz.specs.Kinds.{number_fault_kind}
use Rattle.lj_xyz.specs.Symbols.{SymbolPair, is_symbol, is_of_species}

-- a number of atoms that a frame may have
abbrev pub is_count : ℕ → Bool
is_count n = nat_le 1 n && nat_le n MAX_FRAME_ATOMS

-- a number, if a frame may have that many atoms
abbrev pub count_if : Option ℕ → Option ℕ
count_if None = None
count_if (Some n) = if is_count n then Some n else None

-- the number of atoms that a word gives
abbrev pub atom_count_of : List ℕ → Option ℕ
atom_count_of word = count_if (number_of word)

-- the second step on the value of the first, or the fault of the first
infixl 10 ◌>>=◌
abbrev pub ◌>>=◌ : {A B F : Type 0} → Result A F → (A → Result B F) → Result B F
(Ok x) >>= f = f x
(Err e) >>= f = Err e

-- a coordinate in nano, or its fault as a fault of the line
abbrev pub coordinate_or_kind : Result ℤ NumberFault → Result ℤ XyzKind
coordinate_or_kind (Ok nano) = Ok nano
coordinate_or_kind (Err fault) = Err (number_fault_kind fault)

-- the coordinate that a word gives, in nano
abbrev pub coordinate : List ℕ → Result ℤ XyzKind
coordinate word = coordinate_or_kind (nano_of word)

-- a symbol of the given species, or its fault
abbrev pub species_or_kind : Option SymbolPair → List ℕ → Result (List ℕ) XyzKind
species_or_kind symbols symbol = if is_of_species symbols symbol then Ok symbol else Err kind.Species

-- the word as a symbol of the given species, or its fault
abbrev pub symbol_or_kind : Option SymbolPair → List ℕ → Result (List ℕ) XyzKind
symbol_or_kind symbols word = if is_symbol word then species_or_kind symbols word else Err kind.Symbol

-- the atom of four words, or their first fault
unfoldable pub row_of_four : Option SymbolPair → List ℕ → List ℕ → List ℕ → List ℕ → Result AtomRow XyzKind
row_of_four symbols word x y z = do
  symbol ← symbol_or_kind symbols word
  x ← coordinate x
  y ← coordinate y
  z ← coordinate z
  Ok (record { symbol = symbol; x = x; y = y; z = z })

-- the atom of a line's words; those after the fourth are not used
abbrev pub row_of_words : Option SymbolPair → List (List ℕ) → Result AtomRow XyzKind
row_of_words symbols (word ∷ x ∷ y ∷ z ∷ more) = row_of_four symbols word x y z
row_of_words symbols _ = Err kind.Short

-- the atom of a line, or the fault of the line
unfoldable pub row_of : Option SymbolPair → List ℕ → Result AtomRow XyzKind
row_of symbols line = row_of_words symbols (words_of line)
