-- Decimal words, and their values in billionths (nano).
use Rattle.std.specs.Prelude.{ℕ, ◌+◌, ◌*◌, ◌/◌, ◌^◌, Bool, ◌&&◌, ◌||◌, ◌==◌, nat_lt, nat_le, ℤ, pos, negsuc, neg_ℤ}
use Rattle.std.specs.Prelude.{List, ◌++◌, length, if◌then◌else◌, Option, Some, None, Result, Ok, Err}
use Rattle.std.specs.List.{list_any, before_first, after_first}
use Rattle.std.specs.Option.{option_map}
use Rattle.std.specs.Str.{all_ascii_digits}
use Rattle.std.specs.Str.Parse.{digits_value, starts_with_minus, without_leading_sign, signed_digits_value}
use Rattle.lj_fixed.specs.declared.numbers.TheConstants.{MAX_NANO}
use Rattle.lj_fixed.specs.declared.decimal_words.TheConstants.{MAX_EXPONENT_DIGITS, MAX_WORD_BYTES, NANO_PLACES}
use Rattle.lj_fixed.specs.declared.numbers.NumberFault.{NumberFault}
use Rattle.lj_fixed.specs.declared.numbers.NumberFault.TheVariants.{BadNumber, OutOfRange}

-- the parts of a word: its sign, all digits as one number, how many of them stand after the point, and the exponent of ten
pub record Decimal : Type 0 where
  pub negative : Bool
  pub digits : ℕ
  pub behind : ℕ
  pub exponent : ℤ

-- `.`
abbrev pub is_point : ℕ → Bool
is_point c = c == 46

-- `e`, `E`, `d` or `D`
abbrev pub is_exponent_letter : ℕ → Bool
is_exponent_letter c = c == 101 || c == 69 || c == 100 || c == 68

-- one to three digits
abbrev pub is_short_number : List ℕ → Bool
is_short_number digits =
    nat_lt 0 (length digits) && nat_le (length digits) MAX_EXPONENT_DIGITS && all_ascii_digits digits

-- an optional sign and one to three digits
abbrev pub is_exponent : List ℕ → Bool
is_exponent text = is_short_number (without_leading_sign text)

-- the exponent after the first letter, and 0 if there is no letter
abbrev pub exponent_of : List ℕ → Option ℤ
exponent_of text =
    let power = after_first is_exponent_letter text in
    if list_any is_exponent_letter text
    then (if is_exponent power then Some (signed_digits_value 10 power) else None)
    else Some (pos 0)

-- A word is at most 40 bytes: an optional sign; digits, at least one, and at most one point before, among or after
-- them; and an optional exponent after a letter.
unfoldable pub decimal_of : List ℕ → Option Decimal
decimal_of word =
    let text = without_leading_sign word in
    let mantissa = before_first is_exponent_letter text in
    let whole = before_first is_point mantissa in
    let fraction = after_first is_point mantissa in
    let digits = whole ++ fraction in
    if nat_le (length word) MAX_WORD_BYTES && nat_lt 0 (length digits) && all_ascii_digits digits
    then option_map (λ exponent. record {
      negative = starts_with_minus word;
      digits = digits_value 10 digits;
      behind = length fraction;
      exponent = exponent;
    }) (exponent_of text)
    else None

-- how many places an exponent moves the point up, and how many down
abbrev pub places_up : ℤ → ℕ
places_up (pos n) = n
places_up (negsuc n) = 0

abbrev pub places_down : ℤ → ℕ
places_down (pos n) = 0
places_down (negsuc n) = n + 1

-- the size of a decimal's value is numerator / denominator
abbrev pub numerator : Decimal → ℕ
numerator d = d.digits * 10 ^ places_up d.exponent

abbrev pub denominator : Decimal → ℕ
denominator d = 10 ^ (d.behind + places_down d.exponent)

-- n / d rounded to the nearest whole number, halves up: away from zero
abbrev pub rounded_quotient : ℕ → ℕ → ℕ
rounded_quotient n d = (2 * n + d) / (2 * d)

-- the size of a decimal's value in billionths, rounded
abbrev pub nano_size : Decimal → ℕ
nano_size d = rounded_quotient (numerator d * 10 ^ NANO_PLACES) (denominator d)

-- n or -n
abbrev pub signed_number : Bool → ℕ → ℤ
signed_number negative n = if negative then neg_ℤ (pos n) else pos n

-- the nano of a parsed word, or its fault
abbrev pub nano_or_fault : Option Decimal → Result ℤ NumberFault
nano_or_fault None = Err BadNumber
nano_or_fault (Some d) =
    if nat_le (nano_size d) MAX_NANO then Ok (signed_number d.negative (nano_size d)) else Err OutOfRange

-- the nano of a word: `BadNumber` outside the grammar, and `OutOfRange` beyond the limit
unfoldable pub nano_of : List ℕ → Result ℤ NumberFault
nano_of word = nano_or_fault (decimal_of word)
