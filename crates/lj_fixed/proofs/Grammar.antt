-- A word cut at its first letter and at its point has the parts that a reader finds from left to right.
use Rattle.std.proofs.Common.{◌≡◌, ℕ, suc, ◌+◌, ◌<◌, ◌≤◌, Bool, true, false, not, ◌||◌, eqb, nat_le, List, [], ◌∷◌}
use Rattle.std.proofs.Common.{◌++◌, length, drop, get_or, None, ℤ, refl, sym, ◌∙◌, ap, arith, inl, inr, append_assoc}
use Rattle.std.proofs.lemmas.Bool.{cases_Bool, and_parts, and_from, and_left, and_right, or_parts, or_from, or_cases}
use Rattle.std.proofs.lemmas.Bool.{not_from_true, not_from_false, cond-true, cond-false, true≢false, leb-true, lt-leb}
use Rattle.std.proofs.lemmas.Bool.{le-leb, le-ltb, lt-ltb, eqb-true, ne_eqb}
use Rattle.std.proofs.lemmas.List.{take-append-drop, append-nil}
use Rattle.std.proofs.lemmas.List.Sums.{take_while-cons}
use Rattle.std.specs.Char.{is_ascii_digit}
use Rattle.std.specs.List.{list_any, prefix_len, position_or_len, before_first, after_first}
use Rattle.std.specs.Option.{option_map}
use Rattle.std.specs.Str.{all_ascii_digits}
use Rattle.std.specs.Str.Parse.{digits_value, starts_with_minus, without_leading_sign}
use Rattle.lj_fixed.specs.Decimal.{Decimal, is_point, is_exponent_letter, exponent_of, decimal_of}
use Rattle.lj_fixed.specs.WordParts.{whole_of, rest_behind_whole, fraction_of, tail_of, is_exponent_start}

-- a cut at the first element that passes goes over those in front that do not
before_first-clean : (p : ℕ → Bool) (front tail : List ℕ) → list_any p front ≡ false
    → before_first p (front ++ tail) ≡ front ++ before_first p tail
before_first-clean p [] tail h = refl
before_first-clean p (x ∷ front) tail h =
    let parts = or_parts (p x) (list_any p front) h in
    take_while-cons (λ y. not (p y)) x (front ++ tail) ∙ cond-true (not (p x)) _ _ (not_from_false (p x) parts.0)
    ∙ ap (λ (ys : List ℕ). x ∷ ys) (before_first-clean p front tail parts.1)

after_first-clean : (p : ℕ → Bool) (front tail : List ℕ) → list_any p front ≡ false
    → after_first p (front ++ tail) ≡ after_first p tail
after_first-clean p [] tail h = refl
after_first-clean p (x ∷ front) tail h =
    let parts = or_parts (p x) (list_any p front) h in
    let over : position_or_len p (x ∷ (front ++ tail)) + 1 ≡ suc (position_or_len p (front ++ tail) + 1) =
    ap (λ (k : ℕ). k + 1) (cond-true (not (p x)) (1 + position_or_len p (front ++ tail)) 0
    (not_from_false (p x) parts.0)) ∙ omega arith in
    ap (λ (k : ℕ). drop k (x ∷ (front ++ tail))) over ∙ after_first-clean p front tail parts.1

list_any-clean : (p : ℕ → Bool) (front tail : List ℕ) → list_any p front ≡ false
    → list_any p (front ++ tail) ≡ list_any p tail
list_any-clean p [] tail h = refl
list_any-clean p (x ∷ front) tail h =
    let parts = or_parts (p x) (list_any p front) h in
    ap (λ (b : Bool). b || list_any p (front ++ tail)) parts.0 ∙ list_any-clean p front tail parts.1

-- and stops at one that does
before_first-stop : (p : ℕ → Bool) (c : ℕ) (more : List ℕ) → p c ≡ true → before_first p (c ∷ more) ≡ []
before_first-stop p c more h =
    take_while-cons (λ y. not (p y)) c more ∙ cond-false (not (p c)) _ _ (not_from_true (p c) h)

pub after_first-stop : (p : ℕ → Bool) (c : ℕ) (more : List ℕ) → p c ≡ true → after_first p (c ∷ more) ≡ more
after_first-stop p c more h =
    ap (λ (k : ℕ). drop (k + 1) (c ∷ more)) (cond-false (not (p c))
    (1 + position_or_len p more) 0 (not_from_true (p c) h))

before_first-go : (p : ℕ → Bool) (c : ℕ) (more : List ℕ) → p c ≡ false
    → before_first p (c ∷ more) ≡ c ∷ before_first p more
before_first-go p c more h =
    take_while-cons (λ y. not (p y)) c more ∙ cond-true (not (p c)) _ _ (not_from_false (p c) h)

-- the range of digits, in which there are no points and no letters
digit_range : (c : ℕ) → is_ascii_digit c ≡ true → (48 ≤ c) × (c ≤ 57)
digit_range c h = let both = and_parts (nat_le 48 c) (nat_le c 57) h in (leb-true 48 c both.0, leb-true c 57 both.1)

digit_no_point : (c : ℕ) → is_ascii_digit c ≡ true → is_point c ≡ false
digit_no_point c h = let r = digit_range c h in ne_eqb c 46 (λ e. omega arith)

digit_no_letter : (c : ℕ) → is_ascii_digit c ≡ true → is_exponent_letter c ≡ false
digit_no_letter c h =
    let r = digit_range c h in
    or_from _ _ (or_from _ _ (or_from _ _ (ne_eqb c 101 (λ e. omega arith)) (ne_eqb c 69 (λ e. omega arith)))
    (ne_eqb c 100 (λ e. omega arith))) (ne_eqb c 68 (λ e. omega arith))

digits_clean : (p : ℕ → Bool) → ((c : ℕ) → is_ascii_digit c ≡ true → p c ≡ false) → (ds : List ℕ)
    → all_ascii_digits ds ≡ true → list_any p ds ≡ false
digits_clean p outside [] h = refl
digits_clean p outside (c ∷ cs) h =
    let parts = and_parts (is_ascii_digit c) (all_ascii_digits cs) h in
    or_from (p c) (list_any p cs) (outside c parts.0) (digits_clean p outside cs parts.1)

-- digits on both sides, or another byte between
digits-append : (xs ys : List ℕ) → all_ascii_digits xs ≡ true → all_ascii_digits ys ≡ true
    → all_ascii_digits (xs ++ ys) ≡ true
digits-append [] ys h k = k
digits-append (x ∷ xs) ys h k =
    let parts = and_parts (is_ascii_digit x) (all_ascii_digits xs) h in
    and_from _ _ parts.0 (digits-append xs ys parts.1 k)

no_digits_at : (xs : List ℕ) (c : ℕ) (ys : List ℕ) → is_ascii_digit c ≡ false → all_ascii_digits (xs ++ c ∷ ys) ≡ false
no_digits_at [] c ys h = and_left _ _ h
no_digits_at (x ∷ xs) c ys h = and_right _ _ (no_digits_at xs c ys h)

-- the digits at the front of a text are digits, and no digit stands after them
pub is_whole_session-digits : (text : List ℕ) → all_ascii_digits (whole_of text) ≡ true
is_whole_session-digits [] = refl
is_whole_session-digits (x ∷ xs) =
    elim (cases_Bool (is_ascii_digit x)) [
      | inl digit ↦ ap all_ascii_digits (take_while-cons is_ascii_digit x xs ∙ cond-true _ _ _ digit)
          ∙ and_from _ _ digit (is_whole_session-digits xs)
      | inr none ↦ ap all_ascii_digits (take_while-cons is_ascii_digit x xs ∙ cond-false _ _ _ none)
    ]

no_digit_behind : (text : List ℕ) → is_ascii_digit (get_or (rest_behind_whole text) 0 0) ≡ false
no_digit_behind [] = refl
no_digit_behind (x ∷ xs) =
    elim (cases_Bool (is_ascii_digit x)) [
      | inl digit ↦
          let over : prefix_len is_ascii_digit (x ∷ xs) ≡ suc (prefix_len is_ascii_digit xs) =
          cond-true (is_ascii_digit x) (1 + prefix_len is_ascii_digit xs) 0 digit ∙ omega arith in
          ap (λ (k : ℕ). is_ascii_digit (get_or (drop k (x ∷ xs)) 0 0)) over ∙ no_digit_behind xs
      | inr none ↦ ap (λ (k : ℕ). is_ascii_digit (get_or (drop k (x ∷ xs)) 0 0))
          (cond-false (is_ascii_digit x) (1 + prefix_len is_ascii_digit xs) 0 none) ∙ none
    ]

-- the digits of a mantissa that is cut at its point
abbrev digits_of : List ℕ → List ℕ
digits_of mantissa = before_first is_point mantissa ++ after_first is_point mantissa

-- a mantissa with no letter stands before the first letter of what it begins
cut_at_letter : (front tail : List ℕ) → list_any is_exponent_letter front ≡ false → is_exponent_start tail ≡ true
    → before_first is_exponent_letter (front ++ tail) ≡ front
cut_at_letter front [] h b = before_first-clean is_exponent_letter front [] h ∙ append-nil front
cut_at_letter front (c ∷ more) h b =
    elim (or_cases (eqb (length (c ∷ more)) 0) (is_exponent_letter c) b) [
      | inl none ↦ absurd (omega (arith, eqb-true (length (c ∷ more)) 0 none))
      | inr letter ↦ before_first-clean is_exponent_letter front (c ∷ more) h
          ∙ ap (λ (ys : List ℕ). front ++ ys) (before_first-stop is_exponent_letter c more letter) ∙ append-nil front
    ]

same_exponent : (front tail : List ℕ) → list_any is_exponent_letter front ≡ false
    → exponent_of (front ++ tail) ≡ exponent_of tail
same_exponent front tail h =
    rw (list_any-clean is_exponent_letter front tail h, after_first-clean is_exponent_letter front tail h)

-- what stands after a mantissa and is no exponent belongs to no decimal
no_letter_first : (tail : List ℕ) → is_exponent_start tail ≡ false → (c : ℕ) × (more : List ℕ) × (tail ≡ c ∷ more)
    × (is_exponent_letter c ≡ false)
no_letter_first [] b = absurd (true≢false b)
no_letter_first (c ∷ more) b = (c, more, refl, (or_parts (eqb (length (c ∷ more)) 0) (is_exponent_letter c) b).1)

-- whole digits without a point
whole_clean : (whole : List ℕ) → all_ascii_digits whole ≡ true → list_any is_exponent_letter whole ≡ false
whole_clean whole d = digits_clean is_exponent_letter digit_no_letter whole d

pointed_clean : (whole fraction : List ℕ) → all_ascii_digits whole ≡ true → all_ascii_digits fraction ≡ true
    → list_any is_exponent_letter (whole ++ 46 ∷ fraction) ≡ false
pointed_clean whole fraction d e =
    list_any-clean is_exponent_letter whole (46 ∷ fraction) (whole_clean whole d) ∙ whole_clean fraction e

no_point : (whole : List ℕ) → all_ascii_digits whole ≡ true → list_any is_point whole ≡ false
no_point whole d = digits_clean is_point digit_no_point whole d

before_point_plain : (whole : List ℕ) → all_ascii_digits whole ≡ true → before_first is_point whole ≡ whole
before_point_plain whole d = ap (before_first is_point) (sym (append-nil whole))
    ∙ before_first-clean is_point whole [] (no_point whole d) ∙ append-nil whole

after_point_plain : (whole : List ℕ) → all_ascii_digits whole ≡ true → after_first is_point whole ≡ []
after_point_plain whole d =
    ap (after_first is_point) (sym (append-nil whole)) ∙ after_first-clean is_point whole [] (no_point whole d)

before_point : (whole rest : List ℕ) → all_ascii_digits whole ≡ true
    → before_first is_point (whole ++ 46 ∷ rest) ≡ whole
before_point whole rest d = before_first-clean is_point whole (46 ∷ rest) (no_point whole d)
    ∙ ap (λ (ys : List ℕ). whole ++ ys) (before_first-stop is_point 46 rest refl) ∙ append-nil whole

after_point : (whole rest : List ℕ) → all_ascii_digits whole ≡ true → after_first is_point (whole ++ 46 ∷ rest) ≡ rest
after_point whole rest d =
    after_first-clean is_point whole (46 ∷ rest) (no_point whole d) ∙ after_first-stop is_point 46 rest refl

-- after such a mantissa, a byte that is no letter spoils it
spoiled : (front : List ℕ) (c : ℕ) (more : List ℕ) → list_any is_exponent_letter front ≡ false
    → is_exponent_letter c ≡ false → before_first is_exponent_letter (front ++ c ∷ more)
    ≡ front ++ c ∷ before_first is_exponent_letter more
spoiled front c more h n = before_first-clean is_exponent_letter front (c ∷ more) h
    ∙ ap (λ (ys : List ℕ). front ++ ys) (before_first-go is_exponent_letter c more n)

spoiled_plain : (whole : List ℕ) (c : ℕ) (more : List ℕ) → all_ascii_digits whole ≡ true → is_exponent_letter c ≡ false
    → is_ascii_digit c ≡ false → is_point c ≡ false
    → all_ascii_digits (digits_of (before_first is_exponent_letter (whole ++ c ∷ more))) ≡ false
spoiled_plain whole c more d n k p =
    let m = before_first is_exponent_letter more in
    let front = before_first-clean is_point whole (c ∷ m) (no_point whole d)
    ∙ ap (λ (ys : List ℕ). whole ++ ys) (before_first-go is_point c m p) in
    let fraction = after_first is_point (whole ++ c ∷ m) in
    ap (λ (ys : List ℕ). all_ascii_digits (digits_of ys)) (spoiled whole c more (whole_clean whole d) n)
    ∙ ap (λ (ys : List ℕ). all_ascii_digits (ys ++ fraction)) front
    ∙ ap all_ascii_digits (append_assoc whole (c ∷ before_first is_point m) fraction)
    ∙ no_digits_at whole c (before_first is_point m ++ fraction) k

spoiled_pointed : (whole fraction : List ℕ) (c : ℕ) (more : List ℕ) → all_ascii_digits whole ≡ true
    → all_ascii_digits fraction ≡ true → is_exponent_letter c ≡ false → is_ascii_digit c ≡ false
    → all_ascii_digits (digits_of (before_first is_exponent_letter ((whole ++ 46 ∷ fraction) ++ c ∷ more))) ≡ false
spoiled_pointed whole fraction c more d e n k =
    let m = before_first is_exponent_letter more in
    let rest = fraction ++ c ∷ m in
    ap (λ (ys : List ℕ). all_ascii_digits (digits_of ys))
    (spoiled (whole ++ 46 ∷ fraction) c more (pointed_clean whole fraction d e) n
    ∙ append_assoc whole (46 ∷ fraction) (c ∷ m))
    ∙ ap (λ (ys : List ℕ). all_ascii_digits (ys ++ after_first is_point (whole ++ 46 ∷ rest)))
    (before_point whole rest d)
    ∙ ap (λ (ys : List ℕ). all_ascii_digits (whole ++ ys)) (after_point whole rest d)
    ∙ ap all_ascii_digits (sym (append_assoc whole fraction (c ∷ m)))
    ∙ no_digits_at (whole ++ fraction) c m k

-- the two ways to cut a text give the same parts
record IsCutAlike (text : List ℕ) : Type 0 where
  whole : before_first is_point (before_first is_exponent_letter text) ≡ whole_of text
  fraction : after_first is_point (before_first is_exponent_letter text) ≡ fraction_of text
  exponent : exponent_of text ≡ exponent_of (tail_of text)

abbrev AreSpoiled : List ℕ → Type 0
AreSpoiled text = all_ascii_digits (digits_of (before_first is_exponent_letter text)) ≡ false

plain_text : (text : List ℕ) → is_point (get_or (rest_behind_whole text) 0 0) ≡ false
    → (fraction_of text ≡ []) × (tail_of text ≡ rest_behind_whole text)
plain_text text p = (cond-false _ _ _ p, cond-false _ _ _ p)

split_text : (text : List ℕ) → whole_of text ++ rest_behind_whole text ≡ text
split_text text = take-append-drop (prefix_len is_ascii_digit text) text

cut_plain : (text : List ℕ) → is_point (get_or (rest_behind_whole text) 0 0) ≡ false
    → is_exponent_start (tail_of text) ≡ true → IsCutAlike text
cut_plain text p b =
    let d = is_whole_session-digits text in
    let parts = plain_text text p in
    let b' : is_exponent_start (rest_behind_whole text) ≡ true = ap is_exponent_start (sym parts.1) ∙ b in
    let mantissa : before_first is_exponent_letter text ≡ whole_of text =
    ap (before_first is_exponent_letter) (sym (split_text text))
    ∙ cut_at_letter (whole_of text) (rest_behind_whole text) (whole_clean (whole_of text) d) b' in
    record {
      whole = ap (before_first is_point) mantissa ∙ before_point_plain (whole_of text) d;
      fraction = ap (after_first is_point) mantissa ∙ after_point_plain (whole_of text) d ∙ sym parts.0;
      exponent = ap exponent_of (sym (split_text text))
          ∙ same_exponent (whole_of text) (rest_behind_whole text) (whole_clean (whole_of text) d)
          ∙ ap exponent_of (sym parts.1);
    }

point_first : (rest : List ℕ) → is_point (get_or rest 0 0) ≡ true → rest ≡ 46 ∷ drop 1 rest
point_first [] p = absurd (true≢false (sym p))
point_first (c ∷ more) p = ap (λ (x : ℕ). x ∷ more) (eqb-true c 46 p)

record IsPointed (text : List ℕ) : Type 0 where
  split : text ≡ (whole_of text ++ 46 ∷ fraction_of text) ++ tail_of text
  digits : all_ascii_digits (fraction_of text) ≡ true
  stop : is_ascii_digit (get_or (tail_of text) 0 0) ≡ false

pointed_text : (text : List ℕ) → is_point (get_or (rest_behind_whole text) 0 0) ≡ true → IsPointed text
pointed_text text p =
    let behind = drop 1 (rest_behind_whole text) in
    let is_fraction : fraction_of text ≡ whole_of behind = cond-true _ _ _ p in
    let is_tail : tail_of text ≡ rest_behind_whole behind = cond-true _ _ _ p in
    let inner : whole_of behind ++ rest_behind_whole behind ≡ behind = split_text behind in
    let outer : whole_of text ++ 46 ∷ behind ≡ text =
    ap (λ (ys : List ℕ). whole_of text ++ ys) (sym (point_first (rest_behind_whole text) p)) ∙ split_text text in
    record {
      split = sym (append_assoc (whole_of text) (46 ∷ fraction_of text) (tail_of text)
          ∙ ap (λ (ys : List ℕ). whole_of text ++ 46 ∷ (ys ++ tail_of text)) is_fraction
          ∙ ap (λ (ys : List ℕ). whole_of text ++ 46 ∷ (whole_of behind ++ ys)) is_tail
          ∙ ap (λ (ys : List ℕ). whole_of text ++ 46 ∷ ys) inner ∙ outer);
      digits = ap all_ascii_digits is_fraction ∙ is_whole_session-digits behind;
      stop = ap (λ (ys : List ℕ). is_ascii_digit (get_or ys 0 0)) is_tail ∙ no_digit_behind behind;
    }

cut_pointed : (text : List ℕ) → is_point (get_or (rest_behind_whole text) 0 0) ≡ true
    → is_exponent_start (tail_of text) ≡ true → IsCutAlike text
cut_pointed text p b =
    let d = is_whole_session-digits text in
    let t = pointed_text text p in
    let front = whole_of text ++ 46 ∷ fraction_of text in
    let clean : list_any is_exponent_letter front ≡ false =
    pointed_clean (whole_of text) (fraction_of text) d t.digits in
    let mantissa : before_first is_exponent_letter text ≡ front =
    ap (before_first is_exponent_letter) t.split ∙ cut_at_letter front (tail_of text) clean b in
    record {
      whole = ap (before_first is_point) mantissa ∙ before_point (whole_of text) (fraction_of text) d;
      fraction = ap (after_first is_point) mantissa ∙ after_point (whole_of text) (fraction_of text) d;
      exponent = ap exponent_of t.split ∙ same_exponent front (tail_of text) clean;
    }

cut_alike : (text : List ℕ) → is_exponent_start (tail_of text) ≡ true → IsCutAlike text
cut_alike text b =
    elim (cases_Bool (is_point (get_or (rest_behind_whole text) 0 0)))
    [ inl p ↦ cut_pointed text p b | inr p ↦ cut_plain text p b ]

tail_spoils : (text : List ℕ) → is_exponent_start (tail_of text) ≡ false → AreSpoiled text
tail_spoils text b =
    let d = is_whole_session-digits text in
    let first = no_letter_first (tail_of text) b in
    let c = first.0 in
    let more = first.1 in
    let tail_is : tail_of text ≡ c ∷ more = first.2 in
    elim (cases_Bool (is_point (get_or (rest_behind_whole text) 0 0))) [
      | inl p ↦
          let t = pointed_text text p in
          let text_is : text ≡ (whole_of text ++ 46 ∷ fraction_of text) ++ c ∷ more =
          t.split ∙ ap (λ (ys : List ℕ). (whole_of text ++ 46 ∷ fraction_of text) ++ ys) tail_is in
          ap (λ (ys : List ℕ). all_ascii_digits (digits_of (before_first is_exponent_letter ys))) text_is
          ∙ spoiled_pointed (whole_of text) (fraction_of text) c more d t.digits first.3
          (ap (λ (ys : List ℕ). is_ascii_digit (get_or ys 0 0)) (sym tail_is) ∙ t.stop)
      | inr p ↦
          let parts = plain_text text p in
          let behind_is : rest_behind_whole text ≡ c ∷ more = sym parts.1 ∙ tail_is in
          let text_is : text ≡ whole_of text ++ c ∷ more =
          sym (split_text text) ∙ ap (λ (ys : List ℕ). whole_of text ++ ys) behind_is in
          ap (λ (ys : List ℕ). all_ascii_digits (digits_of (before_first is_exponent_letter ys))) text_is
          ∙ spoiled_plain (whole_of text) c more d first.3
          (ap (λ (ys : List ℕ). is_ascii_digit (get_or ys 0 0)) (sym behind_is) ∙ no_digit_behind text)
          (ap (λ (ys : List ℕ). is_point (get_or ys 0 0)) (sym behind_is) ∙ p)
    ]

-- the digits of a text
abbrev pub read_digits : List ℕ → List ℕ
read_digits text = whole_of text ++ fraction_of text

pub read_digits-digits : (text : List ℕ) → all_ascii_digits (read_digits text) ≡ true
read_digits-digits text = digits-append (whole_of text) (fraction_of text) (is_whole_session-digits text)
    (elim (cases_Bool (is_point (get_or (rest_behind_whole text) 0 0))) [
      | inl p ↦ (pointed_text text p).digits
      | inr p ↦ ap all_ascii_digits (plain_text text p).0
    ])

-- the decimal of a word by what a reader finds, but for the exponent
abbrev pub decimal_with : List ℕ → List ℕ → ℤ → Decimal
decimal_with word text exponent = record {
  negative = starts_with_minus word;
  digits = digits_value 10 (read_digits text);
  behind = length (fraction_of text);
  exponent = exponent;
}

pub decimal_of-long : (word : List ℕ) → 40 < length word → decimal_of word ≡ None
unfolding decimal_of
decimal_of-long word h = cond-false _ _ _ (and_left _ _ (and_left _ _ (lt-leb (length word) 40 h)))

pub decimal_of-tail : (word : List ℕ) → is_exponent_start (tail_of (without_leading_sign word)) ≡ false
    → decimal_of word ≡ None
unfolding decimal_of
decimal_of-tail word b = cond-false _ _ _ (and_right _ _ (tail_spoils (without_leading_sign word) b))

pub decimal_of-empty : (word : List ℕ) → length (read_digits (without_leading_sign word)) ≡ 0 → decimal_of word ≡ None
unfolding decimal_of
decimal_of-empty word h =
    let text = without_leading_sign word in
    elim (cases_Bool (is_exponent_start (tail_of text))) [
      | inl b ↦
          let alike = cut_alike text b in
          let same : digits_of (before_first is_exponent_letter text) ≡ read_digits text =
          ap (λ (ys : List ℕ). ys ++ after_first is_point (before_first is_exponent_letter text)) alike.whole
          ∙ ap (λ (ys : List ℕ). whole_of text ++ ys) alike.fraction in
          cond-false _ _ _ (and_left _ _ (and_right _ _
          (le-ltb 0 (length (digits_of (before_first is_exponent_letter text)))
          (omega (arith, ap length same, h)))))
      | inr b ↦ cond-false _ _ _ (and_right _ _ (tail_spoils text b))
    ]

pub decimal_of-read : (word : List ℕ) → length word ≤ 40 → 0 < length (read_digits (without_leading_sign word))
    → is_exponent_start (tail_of (without_leading_sign word)) ≡ true
    → decimal_of word ≡ option_map (decimal_with word (without_leading_sign word))
    (exponent_of (tail_of (without_leading_sign word)))
unfolding decimal_of
decimal_of-read word short some b =
    let text = without_leading_sign word in
    let alike = cut_alike text b in
    rw (alike.whole, alike.fraction, alike.exponent)
    (cond-true _ _ _ (and_from _ _ (and_from _ _ (le-leb (length word) 40 short) (lt-ltb 0 _ some))
    (read_digits-digits text)))
