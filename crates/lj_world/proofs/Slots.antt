-- Slots that may be empty: what is read there, and is written back.
use Rattle.std.proofs.Common.{◌≡◌, ℕ, ◌<◌, ◌≤◌, List, length, get_or, set, Option, None, ap, ◌∙◌, sym}
use Rattle.std.proofs.lemmas.List.{set-get_or, get_or_past, get_or_default}

-- a slot that is read
pub read_at : {X : Type 0} (xs : List (Option X)) (i j : ℕ) (x y : Option X) → i ≡ j → i < length xs → x ≡ get_or xs i x → x ≡ y
    → get_or xs j None ≡ y
read_at xs i j x y same within read is = ap (λ k. get_or xs k None) (sym same) ∙ get_or_default xs i None x within ∙ sym read ∙ is

-- what is read and written back
pub written_back : {X : Type 0} (xs : List X) (i : ℕ) (x : X) → x ≡ get_or xs i x → set xs i x ≡ xs
written_back xs i x read = ap (set xs i) read ∙ set-get_or xs i x

-- beyond the slots there is nothing
pub none_past : {X : Type 0} (xs : List (Option X)) (i : ℕ) → length xs ≤ i → get_or xs i None ≡ None
none_past xs i past = get_or_past xs i None past
