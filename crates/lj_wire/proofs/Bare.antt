-- A line that no body follows, by its first letter or by its first word.
use Rattle.std.proofs.Common.{◌≡◌, ℕ, suc, ◌-◌, ◌<◌, Bool, true, false, not, ◌&&◌, ◌||◌, cond, eqb, List, [], ◌∷◌, length}
use Rattle.std.proofs.Common.{take, drop, get_or, Option, Some, None, codes, refl, sym, ap, ◌∙◌, subst, arith, filter, lt-ltb, ne_eqb}
use Rattle.std.specs.List.{slice_split, onto_first}
use Rattle.std.specs.Option.{unwrap_or}
use Rattle.std.specs.Map.{lookup}
use Rattle.std.specs.Str.{bytes_eq}
use Rattle.std.specs.Str.Lines.{strip_carriage_return}
use Rattle.std.proofs.lemmas.List.Splits.{slice_split-cons_no}
use Rattle.lj_base.specs.Words.{is_blank, is_word, words_of}
use Rattle.lj_wire.specs.declared.verb.Verb.{Verb}
use Rattle.lj_wire.specs.declared.verb.Verb.TheVariants as verb
use Rattle.lj_wire.specs.Verbs.{verbs, verb_of, has_body, is_load_verb, is_load, BeginsWithLetter}
use Rattle.lj_wire.specs.Commands.{Words, is_over, words_in, load_count, verb_body_len, body_len, body_len_announced}

-- ---- verbs

abbrev NoneHasBody : List (List ℕ × Verb) → Type 0
NoneHasBody [] = Unit {0}
NoneHasBody (e ∷ es) = (has_body e.1 ≡ false) × NoneHasBody es

either_none : (b : Bool) (v : Verb) (rest : Option Verb) → has_body v ≡ false → is_load_verb rest ≡ false
    → is_load_verb (cond b (Some v) rest) ≡ false
either_none true v rest body none = body
either_none false v rest body none = none

none_found : (test : List ℕ → Bool) (es : List (List ℕ × Verb)) → NoneHasBody es → is_load_verb (lookup test es) ≡ false
none_found test [] h = refl
none_found test (e ∷ es) h = either_none (test e.0) e.1 (lookup test es) h.0 (none_found test es h.1)

not_found : (test : List ℕ → Bool) (e : List ℕ × Verb) (es : List (List ℕ × Verb)) → test e.0 ≡ false
    → is_load_verb (lookup test es) ≡ false → is_load_verb (lookup test (e ∷ es)) ≡ false
not_found test e es differs none =
    subst (λ b. is_load_verb (cond b (Some e.1) (lookup test es)) ≡ false) (sym differs) none

-- a word that does not begin with L is the verb of no load
no_load : (first : ℕ) (others : List ℕ) → eqb first 76 ≡ false → is_load (first ∷ others) ≡ false
no_load first others e =
    let test = bytes_eq (first ∷ others) in
    let later : List (List ℕ × Verb) = drop 2 verbs in
    let load : test (codes "LOAD") ≡ false = ap (λ b. b && bytes_eq others (codes "OAD")) e in
    let mix : test (codes "LOADMIX") ≡ false = ap (λ b. b && bytes_eq others (codes "OADMIX")) e in
    not_found test (codes "LOAD", verb.Load) ((codes "LOADMIX", verb.LoadMix) ∷ later) load
    (not_found test (codes "LOADMIX", verb.LoadMix) later mix
    (none_found test later (refl, (refl, (refl, (refl, (refl, (refl, (refl, (refl, (refl, (refl, (refl, (refl, (refl, tt)))))))))))))))

-- ---- words

-- the first word begins with the first byte, if that is no blank
first_word : (first : ℕ) (others : List ℕ) → is_blank first ≡ false
    → (word : List ℕ) × (words : Words) × (words_of (first ∷ others) ≡ (first ∷ word) ∷ words)
unfolding words_of
first_word first others plain = by (slice_split is_blank others) refl
  where
    by : (parts : List (List ℕ)) → slice_split is_blank others ≡ parts
        → (word : List ℕ) × (words : Words) × (words_of (first ∷ others) ≡ (first ∷ word) ∷ words)
    by [] e = ([], [], ap (filter is_word) (slice_split-cons_no is_blank first others plain ∙ ap (onto_first first) e))
    by (part ∷ parts) e =
        let word : is_word (first ∷ part) ≡ true = lt-ltb 0 (length (first ∷ part)) (omega arith) in (
          part,
          filter is_word parts,
          ap (filter is_word) (slice_split-cons_no is_blank first others plain ∙ ap (onto_first first) e)
              ∙ ap (λ b. cond b ((first ∷ part) ∷ filter is_word parts) (filter is_word parts)) word,
        )

-- a carriage return at the end is not the first byte
stripped : (first : ℕ) (others : List ℕ) → eqb first 13 ≡ false
    → (more : List ℕ) × (strip_carriage_return (first ∷ others) ≡ first ∷ more)
stripped first [] e = ([], ap (λ b. cond b [] (first ∷ [])) e)
stripped first (byte ∷ others) e = by (eqb (get_or line (length line - 1) 0) 13) refl
  where
    line : List ℕ
    line = first ∷ byte ∷ others

    by : (b : Bool) → eqb (get_or line (length line - 1) 0) 13 ≡ b
        → (more : List ℕ) × (strip_carriage_return line ≡ first ∷ more)
    by true is =
        let count : length line - 1 ≡ suc (length others) = omega arith in (
          take (length others) (byte ∷ others),
          ap (λ b. cond b (take (length line - 1) line) line) is ∙ ap (λ n. take n line) count,
        )
    by false is = (byte ∷ others, ap (λ b. cond b (take (length line - 1) line) line) is)

-- ---- bodies

-- no body follows a line without words
pub bare_empty : (line : List ℕ) → words_in line ≡ [] → body_len_announced line ≡ 0
unfolding body_len
bare_empty line e = by (is_over line)
  where
    by : (b : Bool) → cond b 0 (body_len (words_in line)) ≡ 0
    by true = refl
    by false = ap body_len e

-- nor one whose first word is the verb of no load
pub bare_word : (line word : List ℕ) (words : Words) → words_in line ≡ word ∷ words → is_load word ≡ false
    → body_len_announced line ≡ 0
unfolding body_len
bare_word line word words e none = by (is_over line)
  where
    verb_len : (v : Option Verb) → is_load_verb v ≡ false → verb_body_len v words ≡ 0
    verb_len None n = refl
    verb_len (Some v) n = ap (λ b. cond b (unwrap_or (load_count words) 0) 0) n

    by : (b : Bool) → cond b 0 (body_len (words_in line)) ≡ 0
    by true = refl
    by false = ap body_len e ∙ verb_len (verb_of word) none

-- nor one that begins with another letter than L
bare_first : (first : ℕ) (others : List ℕ) → 64 < first → (first ≡ 76 → ⊥) → body_len_announced (first ∷ others) ≡ 0
bare_first first others letter no_l =
    let plain : is_blank first ≡ false =
    ap (λ b. b || eqb first 9) (ne_eqb first 32 (λ e. omega (arith, e, letter)))
    ∙ ne_eqb first 9 (λ e. omega (arith, e, letter)) in
    let strip = stripped first others (ne_eqb first 13 (λ e. omega (arith, e, letter))) in
    let word = first_word first strip.0 plain in
    bare_word (first ∷ others) (first ∷ word.0) word.1 (ap words_of strip.1 ∙ word.2)
    (no_load first word.0 (ne_eqb first 76 no_l))

pub bare_letter : (line : List ℕ) → BeginsWithLetter line → body_len_announced line ≡ 0
bare_letter line l =
    subst (λ bytes. body_len_announced bytes ≡ 0) (sym l.bytes_are) (bare_first l.first l.others l.letter l.no_load)

pub negated : (b : Bool) → not b ≡ true → b ≡ false
negated true e = sym e
negated false e = refl
