-- The value of whole numbers, digit by digit.
use Rattle.std.proofs.Common.{◌≡◌, ℕ, ◌+◌, ◌-◌, ◌*◌, ◌^◌, ◌<◌, ◌≤◌, true, ◌&&◌, nat_le, List, [], ◌∷◌, length, take}
use Rattle.std.proofs.Common.{get_or, ap, ◌∙◌, arith}
use Rattle.std.specs.List.{list_all}
use Rattle.std.specs.Char.{is_ascii_digit, digit_value}
use Rattle.std.specs.Int.{IsInRange}
use Rattle.std.specs.Str.Parse.{AllDigits, digits_value}
use Rattle.std.proofs.lemmas.Bool.{and_parts, leb-true}
use Rattle.std.proofs.lemmas.Bool.Decides.{nat_tests}
use Rattle.std.proofs.lemmas.Int.Digits.{digits_value_more}
use Rattle.std.proofs.lemmas.Str.Parse.{digit_at, digits_value_short, numerals_by_value, tells_digits}
use Rattle.std.proofs.lemmas.Str.Parse.{digits_value-take-le}
use Rattle.lj_fixed.specs.Numbers.{is_number}

AllDigits-from_all : (word : List ℕ) → list_all is_ascii_digit word ≡ true → AllDigits 10 word
AllDigits-from_all [] h = tt
AllDigits-from_all (byte ∷ word) h =
    let p = and_parts (is_ascii_digit byte) (list_all is_ascii_digit word) h in
    (grind (arith, nat_tests, p.0), AllDigits-from_all word p.1)

-- one digit more
pub record Step (digits : List ℕ) (i : ℕ) : Type 0 where
  pub value : digits_value 10 (take (i + 1) digits) ≡ digits_value 10 (take i digits) * 10 + (get_or digits i 0 - 48)
  pub fits : digits_value 10 (take (i + 1) digits) < 2 ^ 64

digit_value-is : (c : ℕ) → IsInRange 48 57 c → digit_value c ≡ c - 48
digit_value-is c h = grind (arith, nat_tests, h.0, h.1)

pub step_of : (digits : List ℕ) (i : ℕ) → is_number digits ≡ true → i < length digits → Step digits i
step_of digits i h l =
    let parts = and_parts (nat_le 1 (length digits) && nat_le (length digits) 19) (list_all is_ascii_digit digits) h in
    let few : length digits ≤ 19 =
    leb-true (length digits) 19 (and_parts (nat_le 1 (length digits)) (nat_le (length digits) 19) parts.0).1 in
    let all = AllDigits-from_all digits parts.1 in
    let short : digits_value 10 digits < 10 ^ 19 =
    digits_value_short (numerals_by_value (AllDigits 10) tells_digits) digits 19 all few in
    record {
      value = digits_value_more 10 digits i l ∙ ap (λ x. digits_value 10 (take i digits) * 10 + x)
          (digit_value-is _ (digit_at digits i all l));
      fits = omega (arith, short, digits_value-take-le 10 digits (i + 1) (omega arith));
    }
