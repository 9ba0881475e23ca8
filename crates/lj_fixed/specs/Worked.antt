-- Words and their numbers, and printed millionths, worked out.
use Rattle.std.specs.Prelude.{◌≡◌, pos, negsuc, Some, None, Ok, Err, codes, refl}
use Rattle.std.specs.Fmt.{digits}
use Rattle.lj_fixed.specs.Decimal.{decimal_of, nano_of}
use Rattle.lj_fixed.specs.Numbers.{number_of}
use Rattle.lj_fixed.specs.Millionths.{millionths}
use Rattle.lj_fixed.specs.declared.numbers.NumberFault.TheVariants.{BadNumber, OutOfRange}

point_behind : nano_of (codes "1.") ≡ Ok (pos 1000000000)
unfolding nano_of decimal_of
point_behind = refl

point_before : nano_of (codes ".5") ≡ Ok (pos 500000000)
unfolding nano_of decimal_of
point_before = refl

letter_d : nano_of (codes "15D-1") ≡ Ok (pos 1500000000)
unfolding nano_of decimal_of
letter_d = refl

half_away_from_zero : nano_of (codes "-0.0000000005") ≡ Ok (negsuc 0)
unfolding nano_of decimal_of
half_away_from_zero = refl

below_half : nano_of (codes "0.00000000049") ≡ Ok (pos 0)
unfolding nano_of decimal_of
below_half = refl

least_exponent : nano_of (codes "1e-999") ≡ Ok (pos 0)
unfolding nano_of decimal_of
least_exponent = refl

greatest_exponent : nano_of (codes "0e999") ≡ Ok (pos 0)
unfolding nano_of decimal_of
greatest_exponent = refl

at_limit : nano_of (codes "1e6") ≡ Ok (pos 1000000000000000)
unfolding nano_of decimal_of
at_limit = refl

rounded_to_limit : nano_of (codes "1000000.0000000004") ≡ Ok (pos 1000000000000000)
unfolding nano_of decimal_of
rounded_to_limit = refl

rounded_beyond_limit : nano_of (codes "1000000.0000000005") ≡ Err OutOfRange
unfolding nano_of decimal_of
rounded_beyond_limit = refl

beyond_limit : nano_of (codes "1e7") ≡ Err OutOfRange
unfolding nano_of decimal_of
beyond_limit = refl

no_digit : nano_of (codes ".") ≡ Err BadNumber
unfolding nano_of decimal_of
no_digit = refl

only_sign : nano_of (codes "+") ≡ Err BadNumber
unfolding nano_of decimal_of
only_sign = refl

only_letter : nano_of (codes "1e") ≡ Err BadNumber
unfolding nano_of decimal_of
only_letter = refl

only_exponent_sign : nano_of (codes "1e+") ≡ Err BadNumber
unfolding nano_of decimal_of
only_exponent_sign = refl

two_points : nano_of (codes "1.2.3") ≡ Err BadNumber
unfolding nano_of decimal_of
two_points = refl

no_number : nano_of (codes "NaN") ≡ Err BadNumber
unfolding nano_of decimal_of
no_number = refl

hexadecimal : nano_of (codes "0x1") ≡ Err BadNumber
unfolding nano_of decimal_of
hexadecimal = refl

empty_word : nano_of (codes "") ≡ Err BadNumber
unfolding nano_of decimal_of
empty_word = refl

four_exponent_digits : nano_of (codes "1e0001") ≡ Err BadNumber
unfolding nano_of decimal_of
four_exponent_digits = refl

forty_bytes : nano_of (codes "000000000000000000000000000000000000001.") ≡ Ok (pos 1000000000)
unfolding nano_of decimal_of
forty_bytes = refl

forty_one_bytes : nano_of (codes "0000000000000000000000000000000000000001.") ≡ Err BadNumber
unfolding nano_of decimal_of
forty_one_bytes = refl

exponent_below_tens : nano_of (codes "123456789012345678901234567890123456e-30") ≡ Ok (pos 123456789012346)
unfolding nano_of decimal_of
exponent_below_tens = refl

no_millionths : millionths 0 ≡ codes "0.000000"
unfolding millionths digits
no_millionths = refl

below_one : millionths 105 ≡ codes "0.000105"
unfolding millionths digits
below_one = refl

above_one : millionths 1499894 ≡ codes "1.499894"
unfolding millionths digits
above_one = refl

most_millionths : millionths 18446744073709551615 ≡ codes "18446744073709.551615"
unfolding millionths digits
most_millionths = refl

nineteen_digits : number_of (codes "9999999999999999999") ≡ Some 9999999999999999999
unfolding number_of
nineteen_digits = refl

twenty_digits : number_of (codes "00000000000000000001") ≡ None
unfolding number_of
twenty_digits = refl

signed : number_of (codes "+1") ≡ None
unfolding number_of
signed = refl
