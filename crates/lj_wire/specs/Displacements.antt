-- Displacements as words.
use Rattle.std.specs.Prelude.{ℕ, ◌^◌, Bool, ◌&&◌, ℤ, pos, neg_ℤ, ◌-ℤ◌, int_le}
use Rattle.std.specs.Prelude.{List, drop, Option, Some, None, if◌then◌else◌}
use Rattle.std.specs.Option.{option_map, option_and_then}
use Rattle.std.specs.Str.Parse.{starts_with_minus}
use Rattle.lj_fixed.specs.Numbers.{number_of}

-- a whole number, negative with `-` before it
abbrev pub integer_of : List ℕ → Option ℤ
integer_of word =
    if starts_with_minus word then option_map (λ n. neg_ℤ (pos n)) (number_of (drop 1 word))
    else option_map pos (number_of word)

-- a displacement is from -2^31 to 2^31 - 1
abbrev pub is_displacement : ℤ → Bool
is_displacement z = int_le (neg_ℤ (pos (2 ^ 31))) z && int_le z (pos (2 ^ 31) -ℤ pos 1)

-- the displacement in a word; None outside that range
unfoldable pub displacement_of : List ℕ → Option ℤ
displacement_of word = option_and_then (λ z. if is_displacement z then Some z else None) (integer_of word)
