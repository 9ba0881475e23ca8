-- Names of users, sessions and saved simulations.
use Rattle.std.specs.Prelude.{ℕ, ◌≡◌, Bool, true, ◌==◌, ◌&&◌, ◌||◌, nat_le, List, [], ◌∷◌, length, Option, Some, None}
use Rattle.std.specs.Prelude.{if◌then◌else◌}
use Rattle.std.specs.List.{list_all}
use Rattle.std.specs.Char.{is_ascii_alphanumeric}
use Rattle.lj_base.specs.declared.names.TheConstants.{MAX_NAME_BYTES}

-- a letter, a digit, `_` or `-`
abbrev pub is_name_byte : ℕ → Bool
is_name_byte byte = is_ascii_alphanumeric byte || byte == 95 || byte == 45

-- 1 to 16 letters, digits, `_` and `-`
abbrev pub is_name : List ℕ → Bool
is_name word = nat_le 1 (length word) && nat_le (length word) MAX_NAME_BYTES && list_all is_name_byte word

-- these bytes are a name
abbrev pub IsName : List ℕ → Type 0
IsName word = is_name word ≡ true

-- the name `_`
abbrev pub blank_name : List ℕ
blank_name = 95 ∷ []

-- the name that a word is, if it is one
unfoldable pub name_of : List ℕ → Option (List ℕ)
name_of word = if is_name word then Some word else None
