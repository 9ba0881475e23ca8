-- The count that a word says, and the last of some words.
use Rattle.std.proofs.Common.{◌≡◌, ℕ, ◌≤◌, Bool, true, false, List, [], ◌∷◌, length, map, Option, Some, None, cond}
use Rattle.std.proofs.Common.{nat_le, ◌&&◌, unwrap_or, ap, ◌∙◌, Bor, refl, arith}
use Rattle.std.specs.List.{last_or}
use Rattle.std.specs.Option.{option_map}
use Rattle.std.specs.Iterator.{Drains, YieldsFirstRef}
use Rattle.std.proofs.lemmas.Bool.{leb-true}
use Rattle.lj_fixed.specs.Numbers.{number_of}
use Rattle.lj_wire.specs.declared.verb.Verb.{Verb}
use Rattle.lj_wire.specs.Verbs.{has_body, verb_of}
use Rattle.lj_wire.specs.Commands.{◌>>=◌, Words, count_of, load_count, is_over, words_in, body_len, verb_body_len}
use Rattle.lj_wire.specs.Commands.{body_len_announced}

-- no count is above its limit
limited : (short : Bool) (count : ℕ) → unwrap_or (cond (short && nat_le count 1048576) (Some count) None) 0 ≤ 1048576
limited false count = omega arith
limited true count = by_test (nat_le count 1048576) refl
  where
    by_test : (test : Bool) → nat_le count 1048576 ≡ test → unwrap_or (cond test (Some count) None) 0 ≤ 1048576
    by_test true e = leb-true count 1048576 e
    by_test false e = omega arith

count_of-most : (word : List ℕ) → unwrap_or (count_of word) 0 ≤ 1048576
unfolding count_of
count_of-most word = by_number (number_of word)
  where
    by_number : (number : Option ℕ)
        → unwrap_or (number >>= λ count. cond (nat_le (length word) 7 && nat_le count 1048576) (Some count) None) 0
        ≤ 1048576
    by_number None = omega arith
    by_number (Some count) = limited (nat_le (length word) 7) count

load_count-most : (words : Words) → unwrap_or (load_count words) 0 ≤ 1048576
load_count-most words = by_last (last_or None words)
  where
    by_last : (last : Option (List ℕ)) → unwrap_or (last >>= count_of) 0 ≤ 1048576
    by_last None = omega arith
    by_last (Some word) = count_of-most word

body_len-most : (words : Words) → body_len words ≤ 1048576
unfolding body_len
body_len-most [] = omega arith
body_len-most (word ∷ words) = by_verb (verb_of word)
  where
    by_test : (load : Bool) → cond load (unwrap_or (load_count words) 0) 0 ≤ 1048576
    by_test true = load_count-most words
    by_test false = omega arith

    by_verb : (verb : Option Verb) → verb_body_len verb words ≤ 1048576
    by_verb None = omega arith
    by_verb (Some verb) = by_test (has_body verb)

pub announced-most : (line : List ℕ) → body_len_announced line ≤ 1048576
announced-most line = by_test (is_over line)
  where
    by_test : (over : Bool) → cond over 0 (body_len (words_in line)) ≤ 1048576
    by_test true = omega arith
    by_test false = body_len-most (words_in line)

-- the words that an iterator yields to its end are those that it has left
words-drained : (words : Words) (items : List (Bor (List ℕ))) → Drains (YieldsFirstRef (λ (w : Words). w)) words items
    → words ≡ map (λ item. item.now) items
words-drained words [] d =
    let stays : words ≡ d.1.0 = d.1.1 in
    stays ∙ d.1.2.0
words-drained words (item ∷ items) d =
    let next = d.1.1 in
    next.1 ∙ ap (λ (ws : Words). item.now ∷ ws) (words-drained next.0 items (d.0, (d.1.0, next.2, d.1.2)))

last_or-map : (first : Option (Bor (List ℕ))) (items : List (Bor (List ℕ)))
    → last_or (option_map (λ item. item.now) first) (map (λ item. item.now) items)
    ≡ option_map (λ item. item.now) (last_or first items)
last_or-map first [] = refl
last_or-map first (item ∷ items) = last_or-map (Some item) items

pub last_word : (words : Words) (items : List (Bor (List ℕ))) → Drains (YieldsFirstRef (λ (w : Words). w)) words items
    → last_or None words ≡ option_map (λ item. item.now) (last_or None items)
last_word words items d = ap (last_or None) (words-drained words items d) ∙ last_or-map None items
