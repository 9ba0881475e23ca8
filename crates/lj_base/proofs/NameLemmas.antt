-- A name is a text.
use Rattle.std.proofs.Common.{◌≡◌, ℕ, ◌<◌, true, List, [], ◌∷◌, refl, arith}
use Rattle.std.specs.List.{list_all}
use Rattle.std.specs.Str.{IsAscii, IsUtf8}
use Rattle.std.specs.Prelude.{Result, Ok, Err, MatchResult, IsOk}
use Rattle.std.proofs.lemmas.Bool.{and_parts}
use Rattle.std.proofs.lemmas.Bool.Decides.{nat_tests}
use Rattle.std.proofs.lemmas.Str.{IsUtf8-from_ascii}
use Rattle.std.proofs.lemmas.Str.Ascii.{IsAscii-nil, IsAscii-cons}
use Rattle.lj_base.specs.Names.{is_name_byte, is_name}

name_byte-ascii : (byte : ℕ) → is_name_byte byte ≡ true → byte < 128
name_byte-ascii byte h = grind (arith, nat_tests)

all_name_bytes-ascii : (word : List ℕ) → list_all is_name_byte word ≡ true → IsAscii word
all_name_bytes-ascii [] h = IsAscii-nil
all_name_bytes-ascii (byte ∷ word) h =
    let p = and_parts (is_name_byte byte) (list_all is_name_byte word) h in
    IsAscii-cons byte word (name_byte-ascii byte p.0) (all_name_bytes-ascii word p.1)

IsUtf8-from_name : (word : List ℕ) → list_all is_name_byte word ≡ true → IsUtf8 word
IsUtf8-from_name word h = IsUtf8-from_ascii word (all_name_bytes-ascii word h)

-- what `from_utf8` answers of a name
pub IsOk-from_name : {T E : Type 0} (word : List ℕ) (P : T → Type 0) (Q : E → Type 0) (r : Result T E)
    → is_name word ≡ true
    → MatchResult r P (λ e. ¬ (IsUtf8 word) × Q e) → IsOk r
IsOk-from_name word P Q (Ok text) h m = refl
IsOk-from_name word P Q (Err e) h m =
    absurd (m.0 (IsUtf8-from_name word (and_parts _ (list_all is_name_byte word) h).1))
