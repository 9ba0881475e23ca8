-- The symbol of an atom, and the symbols of two species.
use Rattle.std.specs.Prelude.{ℕ, ◌≢◌, Bool, true, ◌&&◌, ◌||◌, nat_lt, nat_le, IsTrue, List, length, Option, Some, None}
use Rattle.std.specs.Prelude.{if◌then◌else◌}
use Rattle.std.specs.Char.{is_ascii_graphic}
use Rattle.std.specs.List.{list_all}
use Rattle.std.specs.Str.{bytes_eq}
use Rattle.lj_xyz.specs.declared.symbol.TheConstants.{MAX_SYMBOL_BYTES}

-- 1 to 16 printable bytes other than blanks, each in 0x21 to 0x7E
abbrev pub is_symbol : List ℕ → Bool
is_symbol word = nat_lt 0 (length word) && nat_le (length word) MAX_SYMBOL_BYTES && list_all is_ascii_graphic word

-- the symbols of two species
pub record SymbolPair : Type 0 where
  pub first : List ℕ
  pub second : List ℕ

-- both are symbols, and they differ
abbrev pub IsSymbolPair : SymbolPair → Type 0
IsSymbolPair pair = IsTrue (is_symbol pair.first) × IsTrue (is_symbol pair.second) × (pair.first ≢ pair.second)

-- two symbols as a pair, if they differ
abbrev pub pair_of : List ℕ → List ℕ → Option SymbolPair
pair_of first second = if bytes_eq first second then None else Some (record { first = first; second = second })

-- the symbol is the second one
abbrev pub is_second : SymbolPair → List ℕ → Bool
is_second pair symbol = bytes_eq symbol pair.second

-- the symbol is one of the two
abbrev pub is_of_pair : SymbolPair → List ℕ → Bool
is_of_pair pair symbol = bytes_eq symbol pair.first || is_second pair symbol

-- the symbol is of the given species: of either of two, or with None, of any
abbrev pub is_of_species : Option SymbolPair → List ℕ → Bool
is_of_species None symbol = true
is_of_species (Some pair) symbol = is_of_pair pair symbol
