-- The parts of a word, as they are read from left to right.
use Rattle.std.specs.Prelude.{◌≡◌, ℕ, ◌/◌, ◌^◌, ◌<◌, ◌≤◌, Bool, ◌||◌, ◌==◌, nat_le, List, [], length, drop}
use Rattle.std.specs.Prelude.{if◌then◌else◌, slice_index, Option, Some, None}
use Rattle.std.specs.Char.{is_ascii_digit}
use Rattle.std.specs.List.{prefix_len, take_while}
use Rattle.lj_fixed.specs.declared.numbers.TheConstants.{MAX_NANO}
use Rattle.lj_fixed.specs.Decimal.{is_point, is_exponent_letter}

-- `number` is n without its last `dropped` digits; digits are dropped only after the first eighteen
pub record Leads (number dropped n : ℕ) : Type 0 where
  pub quotient : number ≡ n / 10 ^ dropped
  pub long : 0 < dropped → 10 ^ 17 ≤ number

-- the size, if it is within the limit of a nano
abbrev pub number_within_limit : ℕ → Option ℕ
number_within_limit size = if nat_le size MAX_NANO then Some size else None

-- the digits at the front of a text, and the text after them
abbrev pub whole_of : List ℕ → List ℕ
whole_of text = take_while is_ascii_digit text

abbrev pub rest_behind_whole : List ℕ → List ℕ
rest_behind_whole text = drop (prefix_len is_ascii_digit text) text

-- the digits after a point, if the text begins with one, and the text after them
abbrev pub fraction_at : List ℕ → List ℕ
fraction_at rest = if is_point (slice_index rest 0) then whole_of (drop 1 rest) else []

abbrev pub tail_at : List ℕ → List ℕ
tail_at rest = if is_point (slice_index rest 0) then rest_behind_whole (drop 1 rest) else rest

-- the same two for the text after the digits at the front
abbrev pub fraction_of : List ℕ → List ℕ
fraction_of text = fraction_at (rest_behind_whole text)

abbrev pub tail_of : List ℕ → List ℕ
tail_of text = tail_at (rest_behind_whole text)

-- the text is empty or begins with an exponent letter
abbrev pub is_exponent_start : List ℕ → Bool
is_exponent_start tail = length tail == 0 || is_exponent_letter (slice_index tail 0)
