-- Limits of decimal words, whole numbers and printed millionths.
use Rattle.std.specs.Prelude.{◌≡◌, ◌^◌, refl}
use Rattle.lj_fixed.specs.declared.numbers.TheConstants.{MAX_NANO}
use Rattle.lj_fixed.specs.declared.printing.TheConstants.{MAX_MICRO_BYTES}
use Rattle.lj_fixed.specs.declared.whole.TheConstants.{MAX_DIGITS}
use Rattle.lj_fixed.specs.declared.decimal_words.TheConstants.{MAX_EXPONENT_DIGITS, MAX_WORD_BYTES, NANO_PLACES}

-- a decimal word has at most 40 bytes
most_word_bytes : MAX_WORD_BYTES ≡ 40
most_word_bytes = refl

-- its exponent has at most three digits
most_exponent_digits : MAX_EXPONENT_DIGITS ≡ 3
most_exponent_digits = refl

-- a nano is a unit of the ninth decimal place
nano_places : NANO_PLACES ≡ 9
nano_places = refl

-- the size of a nano is at most a million file units
greatest_nano : MAX_NANO ≡ 10 ^ 15
greatest_nano = refl

-- a whole number has at most 19 digits
most_digits : MAX_DIGITS ≡ 19
most_digits = refl

-- a printed number of millionths has at most 32 bytes
most_micro_bytes : MAX_MICRO_BYTES ≡ 32
most_micro_bytes = refl
