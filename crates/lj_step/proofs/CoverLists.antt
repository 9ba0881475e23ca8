-- Filtered ranges of numbers, made number by number.
use Rattle.std.proofs.Common.{ℕ, zero, suc, ◌+◌, ◌<◌, ◌≤◌, refl, slice_index_or, ◌≡◌, Bool, true, false, cond, List, [], ◌∷◌, ◌++◌, sym, ap, ◌∙◌}
use Rattle.std.proofs.Common.{append-nil, length, length-append, map, add-one, add-zero, arith}
use Rattle.std.specs.List.{range_with_len, filter}
use Rattle.std.proofs.lemmas.List.{map-append}
use Rattle.std.proofs.lemmas.List.Elements.{filter-append}
use Rattle.std.proofs.lemmas.List.FromFn.{get_or-map-range_with_len, length-map-range_with_len}
use Rattle.lj_step.specs.KeptSims.{set_numbers}

range_more : (a n : ℕ) → range_with_len a (suc n) ≡ range_with_len a n ++ (a + n) ∷ []
range_more a zero = ap (λ k. k ∷ []) (sym (add-zero a))
range_more a (suc n) =
    let e : a + 1 + n ≡ a + suc n = omega arith in
    ap (λ t. a ∷ t) (range_more (a + 1) n ∙ ap (λ k. range_with_len (a + 1) n ++ k ∷ []) e)

-- a list made of the numbers of a range, with one number more
pub map_range_more : {A : Type 0} (f : ℕ → A) (n : ℕ) (xs ys : List A) → xs ≡ map f (range_with_len 0 n)
    → ys ≡ xs ++ f n ∷ [] → ys ≡ map f (range_with_len 0 (n + 1))
map_range_more f n xs ys front e =
    let last : 0 + n ≡ n = omega arith in
    e
    ∙ ap (λ t. t ++ f n ∷ []) front
    ∙ sym (ap (λ m. map f (range_with_len 0 m)) (add-one n)
    ∙ ap (map f) (range_more 0 n ∙ ap (λ k. range_with_len 0 n ++ k ∷ []) last)
    ∙ map-append f (range_with_len 0 n) (n ∷ []))

-- one number more in a filtered range
pub filter_range_more : (p : ℕ → Bool) (n : ℕ) → filter p (range_with_len 0 (n + 1))
    ≡ filter p (range_with_len 0 n) ++ cond (p n) (n ∷ []) []
filter_range_more p n =
    let e : 0 + n ≡ n = omega arith in
    ap (λ m. filter p (range_with_len 0 m)) (add-one n)
    ∙ ap (filter p) (range_more 0 n ∙ ap (λ k. range_with_len 0 n ++ k ∷ []) e)
    ∙ filter-append p (range_with_len 0 n) (n ∷ [])

pub one_kept : (p : ℕ → Bool) (n : ℕ) (xs ys : List ℕ) → xs ≡ filter p (range_with_len 0 n) → p n ≡ true
    → ys ≡ xs ++ n ∷ [] → ys ≡ filter p (range_with_len 0 (n + 1))
one_kept p n xs ys front passes e =
    e ∙ ap (λ t. t ++ n ∷ []) front ∙ sym (filter_range_more p n
    ∙ ap (λ (b : Bool). filter p (range_with_len 0 n) ++ cond b (n ∷ []) []) passes)

pub one_skipped : (p : ℕ → Bool) (n : ℕ) (xs : List ℕ) → xs ≡ filter p (range_with_len 0 n) → p n ≡ false
    → xs ≡ filter p (range_with_len 0 (n + 1))
one_skipped p n xs front fails =
    front ∙ sym (filter_range_more p n ∙ ap (λ (b : Bool). filter p (range_with_len 0 n) ++ cond b (n ∷ []) []) fails
    ∙ append-nil (filter p (range_with_len 0 n)))

pub few_more : (n : ℕ) (xs ys : List ℕ) → ys ≡ xs ++ n ∷ [] → length xs ≤ n → length ys ≤ n + 1
few_more n xs ys e few = rw e (omega (arith, length-append xs (n ∷ [])))

-- equal tests keep the same numbers
filter_equal : (p q : ℕ → Bool) (a n : ℕ) → ((k : ℕ) → k < a + n → p k ≡ q k)
    → filter p (range_with_len a n) ≡ filter q (range_with_len a n)
filter_equal p q a zero same = refl
filter_equal p q a (suc n) same =
    ap (λ (b : Bool). cond b (a ∷ filter p (range_with_len (a + 1) n)) (filter p (range_with_len (a + 1) n)))
    (same a (omega arith))
    ∙ ap (λ xs. cond (q a) (a ∷ xs) xs) (filter_equal p q (a + 1) n (λ k h. same k (omega arith)))

-- the numbers of the flags that a test sets are those that pass it
pub set_by : (p : ℕ → Bool) (n : ℕ) → set_numbers (map p (range_with_len 0 n)) ≡ filter p (range_with_len 0 n)
set_by p n =
    ap (λ m. filter (λ k. slice_index_or (map p (range_with_len 0 n)) k false) (range_with_len 0 m))
    (length-map-range_with_len p 0 n)
    ∙ filter_equal (λ k. slice_index_or (map p (range_with_len 0 n)) k false) p 0 n
    (λ k h. get_or-map-range_with_len p 0 n k k false (omega (arith, h)) (omega arith))
