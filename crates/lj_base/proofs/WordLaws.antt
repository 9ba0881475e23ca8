-- How the words of a line follow from its front.
use Rattle.std.proofs.Common.{◌≡◌, ℕ, ◌+◌, ◌-◌, ◌<◌, Bool, true, false, cond, not, ltb, List, [], ◌∷◌, length, get_or}
use Rattle.std.proofs.Common.{take, drop, Option, Some, None, refl, sym, ap, ◌∙◌, arith, inl, inr, one-add, lt-ltb}
use Rattle.std.proofs.Common.{le-ltb, unwrap_or}
use Rattle.std.specs.List.{slice_split, position_or_len, before_first, after_first}
use Rattle.std.proofs.lemmas.Bool.{cases_Bool, cases_lt, not-true}
use Rattle.std.proofs.lemmas.List.{drop_more, take_all, drop_all, take_rest, length-take-le, length-drop}
use Rattle.std.proofs.lemmas.List.Elements.{All-from_get_or}
use Rattle.std.proofs.lemmas.List.Splits.{slice_split_none, slice_split_first, slice_split-cons_yes}
use Rattle.std.proofs.lemmas.List.Sums.{fails_before_first, passes_at_first, prefix_len-le-length}
use Rattle.lj_base.specs.Words.{is_blank, is_word, words_of}

-- ---- parts

-- where no byte passes, all is one part
pub one_part : (p : ℕ → Bool) (xs : List ℕ) → position_or_len p xs ≡ length xs → slice_split p xs ≡ xs ∷ []
one_part p xs e =
    let fails : (i : ℕ) → i < length xs → p (get_or xs i 0) ≡ false =
    λ i lt. fails_before_first p xs i 0 (omega arith) in
    slice_split_none p xs (All-from_get_or (λ x. p x ≡ false) xs 0 fails)

-- a part that has a byte is a word
pub word_if : (part : List ℕ) → 0 < length part → is_word part ≡ true
word_if part lt = lt-ltb 0 (length part) lt

-- ---- words

words_of_blank : (b : ℕ) (line : List ℕ) → is_blank b ≡ true → words_of (b ∷ line) ≡ words_of line
unfolding words_of
words_of_blank b line t = rw (slice_split-cons_yes is_blank b line t) refl

-- blanks in front make no word
abbrev pub is_in_word : ℕ → Bool
is_in_word b = not (is_blank b)

pub words_of_blanks : (line : List ℕ) → words_of line ≡ words_of (drop (position_or_len is_in_word line) line)
words_of_blanks [] = refl
words_of_blanks (b ∷ line) =
    elim (cases_Bool (is_blank b)) [
      | inl t ↦ rw (t, one-add, words_of_blank b line t) (words_of_blanks line)
      | inr f ↦ rw f refl
    ]

pub words_of_empty : (line : List ℕ) → length line ≡ 0 → words_of line ≡ []
unfolding words_of
words_of_empty [] e = refl
words_of_empty (b ∷ line) e = absurd (omega arith)

words_of_one : (line : List ℕ) → 0 < length line → position_or_len is_blank line ≡ length line
    → words_of line ≡ line ∷ []
unfolding words_of
words_of_one line lt e = rw (one_part is_blank line e, word_if line lt) refl

words_of_more : (line : List ℕ) → 0 < position_or_len is_blank line → position_or_len is_blank line < length line
    → words_of line ≡ before_first is_blank line ∷ words_of (after_first is_blank line)
unfolding words_of
words_of_more line some lt =
    let word : is_word (before_first is_blank line) ≡ true =
    word_if (before_first is_blank line) (rw (length-take-le (position_or_len is_blank line) line (omega arith))
    some) in
    rw (slice_split_first is_blank line 0 lt, word) refl

-- a word at the front ends at the first blank, or at the end
pub words_of_word : (line : List ℕ) → 0 < position_or_len is_blank line
    → words_of line ≡ before_first is_blank line ∷ words_of (drop (position_or_len is_blank line) line)
words_of_word line some =
    elim (cases_lt (position_or_len is_blank line) (length line)) [
      | inl lt ↦
          let n = position_or_len is_blank line in
          let b = passes_at_first is_blank line 0 lt in
          let at : drop n line ≡ get_or line n 0 ∷ drop (n + 1) line = drop_more line n 0 lt in
          rw (at, words_of_blank (get_or line n 0) (drop (n + 1) line) b) (words_of_more line some lt)
      | inr le ↦
          let n = position_or_len is_blank line in
          let all : n ≡ length line = omega (arith, prefix_len-le-length (λ x. not (is_blank x)) line) in
          let none : drop n line ≡ [] = drop_all n line le in
          let whole : take n line ≡ line = take_all n line le in
          rw (none, whole) (words_of_one line (omega arith) all
          ∙ ap (λ (ws : List (List ℕ)). line ∷ ws) (sym (words_of_empty [] refl)))
    ]

-- ---- what a search for a blank gives

pub position_or_all : (p : ℕ → Bool) (xs : List ℕ) (found : Option ℕ) (r : ℕ)
    → found ≡ cond (ltb (position_or_len p xs) (length xs)) (Some (position_or_len p xs)) None
    → r ≡ unwrap_or found (length xs) → r ≡ position_or_len p xs
position_or_all p xs found r e is =
    elim (cases_lt (position_or_len p xs) (length xs)) [
      | inl lt ↦ rw (is, e, lt-ltb (position_or_len p xs) (length xs) lt) refl
      | inr le ↦
          let all : length xs ≡ position_or_len p xs = omega (arith, prefix_len-le-length (λ x. not (p x)) xs) in
          rw (is, e, le-ltb (position_or_len p xs) (length xs) le) all
    ]

-- the bytes after the blanks
abbrev behind_blanks : List ℕ → ℕ → List ℕ
behind_blanks line blanks = take (length line - blanks) (drop blanks line)

words_behind_blanks : (line : List ℕ) (blanks : ℕ) → blanks ≡ position_or_len is_in_word line
    → words_of line ≡ words_of (behind_blanks line blanks)
words_behind_blanks line blanks e = rw (take_rest line blanks, e) (words_of_blanks line)

pub no_word : (line : List ℕ) (blanks : ℕ) → blanks ≡ position_or_len is_in_word line
    → length (behind_blanks line blanks) ≡ 0 → words_of line ≡ []
no_word line blanks e none = words_behind_blanks line blanks e ∙ words_of_empty (behind_blanks line blanks) none

word_in_front : (line : List ℕ) → position_or_len is_in_word line < length line
    → 0 < position_or_len is_blank (drop (position_or_len is_in_word line) line)
word_in_front line lt =
    let n = position_or_len is_in_word line in
    let at = not-true _ (passes_at_first is_in_word line 0 lt) in
    rw (drop_more line n 0 lt, at) (omega arith)

pub word_at : (line word rest : List ℕ) (blanks n : ℕ) → blanks ≡ position_or_len is_in_word line
    → 0 < length (behind_blanks line blanks)
    → n ≡ position_or_len is_blank (behind_blanks line blanks)
    → word ≡ take n (behind_blanks line blanks) → rest ≡ drop n (behind_blanks line blanks)
    → words_of line ≡ word ∷ words_of rest
word_at line word rest blanks n e some n-is word-is rest-is =
    let whole : behind_blanks line blanks ≡ drop blanks line = take_rest line blanks in
    let lt : blanks < length line = omega (arith, length-drop blanks line, ap length whole) in
    let front : 0 < n = rw (n-is, whole, e) (word_in_front line (omega arith)) in
    rw (word-is, rest-is, n-is) (words_behind_blanks line blanks e
    ∙ words_of_word (behind_blanks line blanks) (omega (arith, front)))
