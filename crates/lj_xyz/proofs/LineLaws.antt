-- How the lines of a text follow from its front.
use Rattle.std.proofs.Common.{◌≡◌, ℕ, ◌+◌, ◌-◌, ◌<◌, Bool, false, List, [], ◌∷◌, length, get_or}
use Rattle.std.proofs.Common.{take, drop, refl, ap, ◌∙◌, arith, inl, inr}
use Rattle.std.specs.List.{slice_split, onto_first, position_or_len, before_first, after_first}
use Rattle.std.specs.Str.Lines.{strip_carriage_return}
use Rattle.std.proofs.lemmas.Bool.{cases_Bool, false_from_ne_true}
use Rattle.std.proofs.lemmas.List.{drop_all, take_rest}
use Rattle.std.proofs.lemmas.List.Splits.{slice_split_first, slice_split-cons_yes}
use Rattle.std.proofs.lemmas.List.Splits.{slice_split-cons_no}
use Rattle.std.proofs.lemmas.List.Sums.{position_or_len_is}
use Rattle.bstr.specs.Find.{NoneBefore, Nowhere, Passes, is_byte}
use Rattle.lj_base.proofs.WordLaws.{one_part, word_if}
use Rattle.lj_xyz.specs.Lines.{is_line_feed, but_empty_last, lines_of}

-- ---- parts

-- there is always a first part
parts_first : (p : ℕ → Bool) (xs : List ℕ) → (part : List ℕ) × (parts : List (List ℕ))
    × (slice_split p xs ≡ part ∷ parts)
parts_first p [] = ([], [], refl)
parts_first p (x ∷ xs) =
    let q = parts_first p xs in
    elim (cases_Bool (p x)) [
      | inl t ↦ ([], slice_split p xs, slice_split-cons_yes p x xs t)
      | inr f ↦ (x ∷ q.0, q.1, slice_split-cons_no p x xs f ∙ ap (onto_first x) q.2)
    ]

-- ---- lines

pub lines_of_empty : (text : List ℕ) → length text ≡ 0 → lines_of text ≡ []
unfolding lines_of
lines_of_empty [] e = refl
lines_of_empty (b ∷ text) e = absurd (omega arith)

pub lines_of_last : (text : List ℕ) → 0 < length text → position_or_len is_line_feed text ≡ length text
    → lines_of text ≡ strip_carriage_return text ∷ []
unfolding lines_of
lines_of_last text lt e = rw (one_part is_line_feed text e, word_if text lt) refl

but_empty_last-cons : (part : List ℕ) (parts : List (List ℕ)) → 0 < length parts
    → but_empty_last (part ∷ parts) ≡ part ∷ but_empty_last parts
but_empty_last-cons part [] lt = absurd (omega arith)
but_empty_last-cons part (next ∷ parts) lt = refl

pub lines_of_first : (text : List ℕ) → position_or_len is_line_feed text < length text
    → lines_of text ≡ strip_carriage_return (before_first is_line_feed text) ∷ lines_of (after_first is_line_feed text)
unfolding lines_of
lines_of_first text lt =
    let rest = after_first is_line_feed text in
    let q = parts_first is_line_feed rest in
    let some : 0 < length (slice_split is_line_feed rest) = rw q.2 (omega arith) in
    rw (
      slice_split_first is_line_feed text 0 lt,
      but_empty_last-cons (before_first is_line_feed text)
          (slice_split is_line_feed rest) some,
    ) refl

-- ---- what a search for a line feed gives

pub lines_at : (text line : List ℕ) (end : ℕ) → NoneBefore (Passes (is_byte 10) text) 0 (length text) end
    → Passes (is_byte 10) text end
    → line ≡ strip_carriage_return (take end text)
    → lines_of text ≡ line ∷ lines_of (take (length text - (end + 1)) (drop (end + 1) text))
lines_at text line end before at is_line =
    let fails : (k : ℕ) → k < end → is_line_feed (get_or text k 0) ≡ false =
    λ k lt. false_from_ne_true _ (before.before k (omega arith) lt) in
    let lt : end < length text = before.high in
    let e : position_or_len is_line_feed text ≡ end =
    position_or_len_is is_line_feed text end 0 (omega arith) fails (λ _. at) in
    rw (take_rest text (end + 1), is_line, ← e) (lines_of_first text (omega arith))

pub lines_at_none : (text line : List ℕ) → 0 < length text → Nowhere (Passes (is_byte 10) text) 0 (length text)
    → line ≡ strip_carriage_return text
    → lines_of text ≡ line ∷ lines_of (take (length text - length text) (drop (length text) text))
lines_at_none text line some none is_line =
    let fails : (k : ℕ) → k < length text → is_line_feed (get_or text k 0) ≡ false =
    λ k lt. false_from_ne_true _ (none k (omega arith) lt) in
    let e : position_or_len is_line_feed text ≡ length text =
    position_or_len_is is_line_feed text (length text) 0 (omega arith) fails (λ lt. absurd (omega arith)) in
    let nothing : lines_of (take (length text - length text) (drop (length text) text)) ≡ [] =
    rw (take_rest text (length text), drop_all (length text) text (omega arith)) (lines_of_empty [] refl) in
    rw (nothing, is_line) (lines_of_last text some e)
