-- The sizes of names and tokens.
use Rattle.std.specs.Prelude.{◌≡◌, refl}
use Rattle.lj_base.specs.declared.names.TheConstants.{MAX_NAME_BYTES}
use Rattle.lj_base.specs.declared.tokens.TheConstants.{TOKEN_BYTES}

-- a name has at most 16 bytes
most_name_bytes : MAX_NAME_BYTES ≡ 16
most_name_bytes = refl

-- a token has 32 bytes
token_bytes : TOKEN_BYTES ≡ 32
token_bytes = refl
