-- From what the parts of a word read as to what the word is answered.
use Rattle.std.proofs.Common.{◌≡◌, ℕ, zero, suc, ◌+◌, ◌-◌, ◌*◌, ◌^◌, ◌<◌, ◌≤◌, ℤ, pos, negsuc, ◌≤ℤ◌, Bool, true, false}
use Rattle.std.proofs.Common.{cond, nat_le, List, [], ◌∷◌, length, take, drop, get_or, eqb, Option, Some, None, Result}
use Rattle.std.proofs.Common.{Ok, Err, refl, sym, ◌∙◌, ap, subst, arith, inl, inr}
use Rattle.std.proofs.Math.Seq.{take-length}
use Rattle.std.proofs.lemmas.Bool.{cases_Bool, and_left, and_right, and_from, or_left, or_right, le-leb, lt-ltb}
use Rattle.std.proofs.lemmas.Bool.{cond-true, cond-false}
use Rattle.std.proofs.lemmas.Int.{ints}
use Rattle.std.proofs.lemmas.List.{length-drop}
use Rattle.std.proofs.lemmas.List.Sums.{prefix_len-le-length}
use Rattle.std.proofs.lemmas.Nat.{pow-add}
use Rattle.std.proofs.lemmas.Str.Parse.{digits_value_short, numerals_by_value, tells_all_ascii_digits}
use Rattle.std.proofs.Math.Nat.{mul_assoc, div-le_self}
use Rattle.std.specs.Char.{is_ascii_digit}
use Rattle.std.specs.List.{prefix_len, list_any, after_first}
use Rattle.std.specs.Option.{ok_or, option_map}
use Rattle.std.specs.Str.{all_ascii_digits}
use Rattle.std.specs.Str.Parse.{digits_value, digits_value_after, without_leading_sign, signed_digits_value}
use Rattle.std.specs.Prelude.{nat_abs}
use Rattle.lj_fixed.specs.declared.numbers.NumberFault.{NumberFault}
use Rattle.lj_fixed.specs.declared.numbers.NumberFault.TheVariants.{BadNumber, OutOfRange}
use Rattle.lj_fixed.specs.declared.decimal_words.Numeral.{Numeral}
use Rattle.lj_fixed.specs.declared.numbers.TheConstants.{MAX_NANO}
use Rattle.lj_fixed.specs.Decimal.{Decimal, is_exponent_letter, is_short_number, is_exponent, exponent_of, decimal_of}
use Rattle.lj_fixed.specs.Decimal.{rounded_quotient, places_up, places_down, nano_size, nano_or_fault, nano_of, signed_number}
use Rattle.lj_fixed.specs.WordParts.{Leads, number_within_limit, whole_of, rest_behind_whole, fraction_at, fraction_of, tail_of}
use Rattle.lj_fixed.specs.WordParts.{is_exponent_start}
use Rattle.lj_fixed.specs.StandsFor.{StandsFor, AreAlike}
use Rattle.lj_fixed.proofs.Grammar.{read_digits, decimal_with, decimal_of-read, decimal_of-tail, after_first-stop}
use Rattle.lj_fixed.proofs.Leading.{digits_value_after-append}

-- a slice from a place to its end
rest_of : (n : ℕ) (xs : List ℕ) → take (length xs - n) (drop n xs) ≡ drop n xs
rest_of n xs = ap (λ (k : ℕ). take k (drop n xs)) (sym (length-drop n xs)) ∙ take-length (drop n xs)

-- the digits of the whole part, and those of the fraction after them
pub read_digits-value : (text : List ℕ) (count : ℕ) → count ≡ prefix_len is_ascii_digit text
    → digits_value_after 10 (digits_value_after 10 0 (take count text))
    (fraction_at (take (length text - count) (drop count text))) ≡ digits_value 10 (read_digits text)
read_digits-value text count e =
    let rest : take (length text - count) (drop count text) ≡ rest_behind_whole text =
    rest_of count text ∙ ap (λ (k : ℕ). drop k text) e in
    ap (λ (ys : List ℕ). digits_value_after 10 (digits_value_after 10 0 (take count text)) (fraction_at ys)) rest
    ∙ ap (λ (k : ℕ). digits_value_after 10 (digits_value_after 10 0 (take k text)) (fraction_of text)) e
    ∙ sym (digits_value_after-append 0 (whole_of text) (fraction_of text))

-- the front of a small number is all of it
pub leads_small : (number dropped n : ℕ) → n < 1000 → Leads number dropped n → number ≡ n
leads_small number zero n h l = l.quotient ∙ omega arith
leads_small number (suc k) n h l = absurd (omega (arith, l.long (omega arith), l.quotient, div-le_self n (10 ^ suc k)))

-- three digits at most write a small number
pub short_value : (ds : List ℕ) → all_ascii_digits ds ≡ true → length ds ≤ 3 → digits_value 10 ds < 1000
short_value ds d h =
    digits_value_short (numerals_by_value (λ cs. all_ascii_digits cs ≡ true) tells_all_ascii_digits) ds 3 d h

-- the digits go on to the end of the text, or not
pub digits_to_end : (ds : List ℕ) → length ds ≤ prefix_len is_ascii_digit ds → all_ascii_digits ds ≡ true
digits_to_end [] h = refl
digits_to_end (x ∷ xs) h =
    elim (cases_Bool (is_ascii_digit x)) [
      | inl digit ↦
          and_from _ _ digit (digits_to_end xs (omega
          (arith, cond-true (is_ascii_digit x) (1 + prefix_len is_ascii_digit xs) 0 digit, h)))
      | inr none ↦ absurd (omega (arith, cond-false (is_ascii_digit x) (1 + prefix_len is_ascii_digit xs) 0 none, h))
    ]

pub digits_end : (ds : List ℕ) → prefix_len is_ascii_digit ds < length ds → all_ascii_digits ds ≡ false
digits_end [] h = absurd (omega arith)
digits_end (x ∷ xs) h =
    elim (cases_Bool (is_ascii_digit x)) [
      | inl digit ↦
          and_right _ _
          (digits_end xs (omega (arith, cond-true (is_ascii_digit x) (1 + prefix_len is_ascii_digit xs) 0 digit, h)))
      | inr none ↦ and_left _ _ none
    ]

-- one to three digits as they were read
pub record IsShort (ds : List ℕ) (number : ℕ) : Type 0 where
  pub value : number ≡ digits_value 10 ds
  pub small : number < 1000
  pub digits : all_ascii_digits ds ≡ true

pub short_number : (ds : List ℕ) (number dropped count : ℕ) → count ≡ prefix_len is_ascii_digit ds → length ds ≤ count
    → length ds ≤ 3 → Leads number dropped (digits_value_after 10 0 (take count ds)) → IsShort ds number
short_number ds number dropped count e whole short l =
    let digits : all_ascii_digits ds ≡ true = digits_to_end ds (omega (arith, e, whole)) in
    let all : count ≡ length ds = omega (arith, e, whole, prefix_len-le-length is_ascii_digit ds) in
    let taken : take count ds ≡ ds = ap (λ (k : ℕ). take k ds) all ∙ take-length ds in
    let l' : Leads number dropped (digits_value 10 ds) =
    subst (λ (ys : List ℕ). Leads number dropped (digits_value 10 ys)) taken l in
    let value : number ≡ digits_value 10 ds =
    leads_small number dropped (digits_value 10 ds) (short_value ds digits short) l' in
    record { value = value; small = omega (arith, value, short_value ds digits short); digits = digits }

pub is_short_number-yes : (ds : List ℕ) → 0 < length ds → length ds ≤ 3 → all_ascii_digits ds ≡ true
    → is_short_number ds ≡ true
is_short_number-yes ds some short digits =
    and_from _ _ (and_from _ _ (lt-ltb 0 (length ds) some) (le-leb (length ds) 3 short)) digits

-- the exponent after a letter
abbrev power_of : List ℕ → Option ℤ
power_of text = cond (is_exponent text) (Some (signed_digits_value 10 text)) None

pub exponent_behind : (tail : List ℕ) → 1 ≤ length tail → is_exponent_letter (get_or tail 0 0) ≡ true
    → power_of (take (length tail - 1) (drop 1 tail)) ≡ cond (is_exponent_start tail) (exponent_of tail) None
exponent_behind [] some letter = absurd (omega arith)
exponent_behind (c ∷ more) some letter =
    let behind : after_first is_exponent_letter (c ∷ more) ≡ more = after_first-stop is_exponent_letter c more letter in
    let begins : is_exponent_start (c ∷ more) ≡ true =
    or_right (eqb (length (c ∷ more)) 0) (is_exponent_letter c) letter in
    let exponent : exponent_of (c ∷ more) ≡ power_of more =
    cond-true (list_any is_exponent_letter (c ∷ more)) (power_of (after_first is_exponent_letter (c ∷ more)))
    (Some (pos 0)) (or_left (is_exponent_letter c) (list_any is_exponent_letter more) letter)
    ∙ ap power_of behind in
    ap power_of (rest_of 1 (c ∷ more)) ∙ sym (cond-true (is_exponent_start (c ∷ more))
    (exponent_of (c ∷ more)) None begins ∙ exponent)

-- what is moved up by an exponent that is not below zero
pub size_up : (digits behind : ℕ) (exponent : ℤ) → pos 0 ≤ℤ exponent
    → rounded_quotient (digits * 10 ^ (nat_abs exponent + 9)) (10 ^ behind)
    ≡ rounded_quotient (digits * 10 ^ places_up exponent * 10 ^ 9) (10 ^ (behind + places_down exponent))
size_up digits behind (pos n) h =
    let above : digits * 10 ^ (n + 9) ≡ digits * 10 ^ n * 10 ^ 9 =
    ap (λ (x : ℕ). digits * x) (pow-add 10 n 9) ∙ sym (mul_assoc digits (10 ^ n) (10 ^ 9)) in
    let below : behind ≡ behind + 0 = omega arith in
    ap (λ (x : ℕ). rounded_quotient x (10 ^ behind)) above ∙ ap (λ (k : ℕ). rounded_quotient (digits * 10 ^ n * 10 ^ 9) (10 ^ k)) below
size_up digits behind (negsuc n) h = absurd (omega (arith, ints))

-- a word without an exponent that can be read is no decimal, and one with it is the decimal of its parts
abbrev pub Exponent : List ℕ → Option ℤ
Exponent tail = cond (is_exponent_start tail) (exponent_of tail) None

pub decimal_of-no_exponent : (word : List ℕ) → length word ≤ 40 → 0 < length (read_digits (without_leading_sign word))
    → None ≡ Exponent (tail_of (without_leading_sign word)) → decimal_of word ≡ None
decimal_of-no_exponent word short some h =
    let text = without_leading_sign word in
    elim (cases_Bool (is_exponent_start (tail_of text))) [
      | inl begins ↦
          let none : exponent_of (tail_of text) ≡ None =
          sym (h ∙ cond-true (is_exponent_start (tail_of text)) (exponent_of (tail_of text)) None begins) in
          decimal_of-read word short some begins ∙ ap (option_map (decimal_with word text)) none
      | inr none ↦ decimal_of-tail word none
    ]

pub decimal_of-exponent : (word : List ℕ) (exponent : ℤ) → length word ≤ 40
    → 0 < length (read_digits (without_leading_sign word))
    → Some exponent ≡ Exponent (tail_of (without_leading_sign word))
    → decimal_of word ≡ Some (decimal_with word (without_leading_sign word) exponent)
decimal_of-exponent word exponent short some h =
    let text = without_leading_sign word in
    elim (cases_Bool (is_exponent_start (tail_of text))) [
      | inl begins ↦
          let is : exponent_of (tail_of text) ≡ Some exponent =
          sym (h ∙ cond-true (is_exponent_start (tail_of text)) (exponent_of (tail_of text)) None begins) in
          decimal_of-read word short some begins ∙ ap (option_map (decimal_with word text)) is
      | inr none ↦
          let nothing : Some exponent ≡ None =
          h ∙ cond-false (is_exponent_start (tail_of text)) (exponent_of (tail_of text)) None none in
          cc
    ]

-- a word that is read as no numeral
bad_decimal : (o : Option Decimal) (r : Option Numeral) (e : NumberFault) → AreAlike r o
    → (◌≡◌ {A = Result Numeral NumberFault} (Err e) (ok_or r BadNumber)) → Err e ≡ nano_or_fault o
bad_decimal None None e alike h = let same : e ≡ BadNumber = cc in ap Err same
bad_decimal (Some d) None e alike h = absurd alike
bad_decimal o (Some numeral) e alike h = cc

-- a size, and whether it is within the limit
beyond_at : (b negative : Bool) (size : ℕ) (s : Option ℕ) (e : NumberFault) → s ≡ cond b (Some size) None
    → (◌≡◌ {A = Result ℕ NumberFault} (Err e) (ok_or s OutOfRange))
    → Err e ≡ cond b (Ok (signed_number negative size)) (Err OutOfRange)
beyond_at true negative size s e is h =
    let wrong : ◌≡◌ {A = Result ℕ NumberFault} (Err e) (Ok size) = h ∙ ap (λ (o : Option ℕ). ok_or o OutOfRange) is in
    cc
beyond_at false negative size s e is h =
    let right : ◌≡◌ {A = Result ℕ NumberFault} (Err e) (Err OutOfRange) =
    h ∙ ap (λ (o : Option ℕ). ok_or o OutOfRange) is in
    let same : e ≡ OutOfRange = cc in
    ap Err same

within_at : (b negative : Bool) (size size' : ℕ) (s : Option ℕ) → s ≡ cond b (Some size) None
    → (◌≡◌ {A = Result ℕ NumberFault} (Ok size') (ok_or s OutOfRange))
    → Ok (signed_number negative size') ≡ cond b (Ok (signed_number negative size)) (Err OutOfRange)
within_at true negative size size' s is h =
    let right : ◌≡◌ {A = Result ℕ NumberFault} (Ok size') (Ok size) =
    h ∙ ap (λ (o : Option ℕ). ok_or o OutOfRange) is in
    let same : size' ≡ size = cc in
    ap (λ (n : ℕ). Ok (signed_number negative n)) same
within_at false negative size size' s is h =
    let wrong : ◌≡◌ {A = Result ℕ NumberFault} (Ok size') (Err OutOfRange) =
    h ∙ ap (λ (o : Option ℕ). ok_or o OutOfRange) is in
    cc

beyond_decimal : (o : Option Decimal) (r : Option Numeral) (numeral : Numeral) (s : Option ℕ) (e : NumberFault)
    → AreAlike r o → (◌≡◌ {A = Result Numeral NumberFault} (Ok numeral) (ok_or r BadNumber))
    → ((d : Decimal) → StandsFor numeral d → s ≡ number_within_limit (nano_size d))
    → (◌≡◌ {A = Result ℕ NumberFault} (Err e) (ok_or s OutOfRange)) → Err e ≡ nano_or_fault o
beyond_decimal o None numeral s e alike read size h = cc
beyond_decimal None (Some r) numeral s e alike read size h = absurd alike
beyond_decimal (Some d) (Some r) numeral s e alike read size h =
    let same : r ≡ numeral = cc in
    beyond_at (nat_le (nano_size d) MAX_NANO) d.negative (nano_size d) s e
    (size d (subst (λ (m : Numeral). StandsFor m d) same alike)) h

within_decimal : (o : Option Decimal) (r : Option Numeral) (numeral : Numeral) (s : Option ℕ) (n : ℕ) → AreAlike r o
    → (◌≡◌ {A = Result Numeral NumberFault} (Ok numeral) (ok_or r BadNumber))
    → ((d : Decimal) → StandsFor numeral d → s ≡ number_within_limit (nano_size d))
    → (◌≡◌ {A = Result ℕ NumberFault} (Ok n) (ok_or s OutOfRange)) → Ok (signed_number numeral.negative n) ≡ nano_or_fault o
within_decimal o None numeral s n alike read size h = cc
within_decimal None (Some r) numeral s n alike read size h = absurd alike
within_decimal (Some d) (Some r) numeral s n alike read size h =
    let same : r ≡ numeral = cc in
    let stands : StandsFor numeral d = subst (λ (m : Numeral). StandsFor m d) same alike in
    ap (λ (b : Bool). Ok (signed_number b n)) stands.negative
    ∙ within_at (nat_le (nano_size d) MAX_NANO) d.negative (nano_size d) n s (size d stands) h

-- the same of a word
pub nano_of-bad : (word : List ℕ) (r : Option Numeral) (e : NumberFault) → AreAlike r (decimal_of word)
    → (◌≡◌ {A = Result Numeral NumberFault} (Err e) (ok_or r BadNumber)) → Err e ≡ nano_of word
unfolding nano_of
nano_of-bad word r e alike h = bad_decimal (decimal_of word) r e alike h

pub nano_of-beyond : (word : List ℕ) (r : Option Numeral) (numeral : Numeral) (s : Option ℕ) (e : NumberFault)
    → AreAlike r (decimal_of word) → (◌≡◌ {A = Result Numeral NumberFault} (Ok numeral) (ok_or r BadNumber))
    → ((d : Decimal) → StandsFor numeral d → s ≡ number_within_limit (nano_size d))
    → (◌≡◌ {A = Result ℕ NumberFault} (Err e) (ok_or s OutOfRange)) → Err e ≡ nano_of word
unfolding nano_of
nano_of-beyond word r numeral s e alike read size h = beyond_decimal (decimal_of word) r numeral s e alike read size h

pub nano_of-within : (word : List ℕ) (r : Option Numeral) (numeral : Numeral) (s : Option ℕ) (n : ℕ)
    → AreAlike r (decimal_of word) → (◌≡◌ {A = Result Numeral NumberFault} (Ok numeral) (ok_or r BadNumber))
    → ((d : Decimal) → StandsFor numeral d → s ≡ number_within_limit (nano_size d))
    → (◌≡◌ {A = Result ℕ NumberFault} (Ok n) (ok_or s OutOfRange)) → Ok (signed_number numeral.negative n) ≡ nano_of word
unfolding nano_of
nano_of-within word r numeral s n alike read size h = within_decimal (decimal_of word) r numeral s n alike read size h
