-- Tokens of users.
use Rattle.std.specs.Prelude.{ℕ, ◌≡◌, Bool, true, ◌==◌, ◌&&◌, List, length, Option, Some, None, if◌then◌else◌}
use Rattle.std.specs.List.{list_all}
use Rattle.std.specs.Char.{is_ascii_alphanumeric}
use Rattle.lj_base.specs.declared.tokens.TheConstants.{TOKEN_BYTES}

-- 32 ASCII letters or digits
abbrev pub is_token : List ℕ → Bool
is_token word = length word == TOKEN_BYTES && list_all is_ascii_alphanumeric word

-- these bytes are a token
abbrev pub IsToken : List ℕ → Type 0
IsToken word = is_token word ≡ true

-- a word as a token, if it is one
abbrev pub token_of : List ℕ → Option (List ℕ)
token_of word = if is_token word then Some word else None
