-- Lists of numbers: how often one stands in a list, what is left where one passes no more, and the first one from a
-- place on that passes.
use Rattle.std.proofs.Common.{◌≡◌, ℕ, zero, suc, ◌+◌, ◌-◌, ◌<◌, ◌≤◌, Bool, true, false, List, [], ◌∷◌, ◌++◌, length}
use Rattle.std.proofs.Common.{map, take, get_or, count_by, cond, Some, None, inl, inr, refl, sym, ap, ◌∙◌, subst, arith}
use Rattle.std.specs.Prelude.{nat_eq}
use Rattle.std.specs.List.{filter, find, range_with_len, Contains}
use Rattle.std.proofs.lemmas.Bool.{cases_Bool, cases_eq, eq-eqb, ne_eqb}
use Rattle.std.proofs.lemmas.List.{take_all, append-nil}
use Rattle.std.proofs.lemmas.List.Elements.{filter_more}
use Rattle.std.proofs.lemmas.Option.{none-some, same_Some}
use Rattle.std.proofs.lemmas.List.Sums.{sum_by-cons, sum_by-take-le}
use Rattle.lj_engine.specs.Gathering.{is_awaited}
use Rattle.lj_end.specs.Accounts.{occurrences}

occurrences-cons : (k x : ℕ) (xs : List ℕ) → occurrences k (x ∷ xs) ≡ cond (nat_eq x k) 1 0 + occurrences k xs
occurrences-cons k x xs = sum_by-cons (λ j. cond (nat_eq j k) 1 0) x xs

occurrences-here : (k x : ℕ) (xs : List ℕ) → x ≡ k → occurrences k (x ∷ xs) ≡ 1 + occurrences k xs
occurrences-here k x xs e = occurrences-cons k x xs ∙ ap (λ b. cond b 1 0 + occurrences k xs) (eq-eqb x k e)

occurrences-other : (k x : ℕ) (xs : List ℕ) → (x ≡ k → ⊥) → occurrences k (x ∷ xs) ≡ occurrences k xs
occurrences-other k x xs other = occurrences-cons k x xs ∙ ap (λ b. cond b 1 0 + occurrences k xs) (ne_eqb x k other) ∙ omega arith

-- of the numbers that pass, one that passes is there as often as before
pub occurrences-filter : (p : ℕ → Bool) (k : ℕ) → p k ≡ true → (xs : List ℕ) → occurrences k (filter p xs) ≡ occurrences k xs
occurrences-filter p k passes [] = refl
occurrences-filter p k passes (x ∷ xs) =
    elim (cases_eq x k) [
      | inl same ↦
          ap (λ b. occurrences k (cond b (x ∷ filter p xs) (filter p xs))) (ap p same ∙ passes)
          ∙ occurrences-here k x (filter p xs) same
          ∙ ap (λ n. 1 + n) (occurrences-filter p k passes xs)
          ∙ sym (occurrences-here k x xs same)
      | inr other ↦
          elim (cases_Bool (p x)) [
            | inl passing ↦
                ap (λ b. occurrences k (cond b (x ∷ filter p xs) (filter p xs))) passing
                ∙ occurrences-other k x (filter p xs) other
                ∙ occurrences-filter p k passes xs
                ∙ sym (occurrences-other k x xs other)
            | inr failing ↦
                ap (λ b. occurrences k (cond b (x ∷ filter p xs) (filter p xs))) failing
                ∙ occurrences-filter p k passes xs
                ∙ sym (occurrences-other k x xs other)
          ]
    ]

-- where none passes, one that passes is not there
pub occurrences-none : (p : ℕ → Bool) (k : ℕ) (xs : List ℕ) → p k ≡ true → filter p xs ≡ [] → occurrences k xs ≡ 0
occurrences-none p k xs passes none = sym (occurrences-filter p k passes xs) ∙ ap (occurrences k) none

pub occurrences-take : (k n : ℕ) (xs : List ℕ) → occurrences k (take n xs) ≤ occurrences k xs
occurrences-take k n xs = sum_by-take-le (λ j. cond (nat_eq j k) 1 0) xs n

occurrences-range_before : (k a n : ℕ) → k < a → occurrences k (range_with_len a n) ≡ 0
occurrences-range_before k a zero before = refl
occurrences-range_before k a (suc n) before =
    occurrences-other k a (range_with_len (a + 1) n) (λ e. omega arith) ∙ occurrences-range_before k (a + 1) n (omega arith)

-- a range has each of its numbers once
pub occurrences-range : (k a n : ℕ) → a ≤ k → k < a + n → occurrences k (range_with_len a n) ≡ 1
occurrences-range k a zero from within = absurd (omega arith)
occurrences-range k a (suc n) from within =
    elim (cases_eq a k) [
      | inl same ↦ occurrences-here k a (range_with_len (a + 1) n) same
          ∙ ap (λ t. 1 + t) (occurrences-range_before k (a + 1) n (omega arith))
      | inr other ↦ occurrences-other k a (range_with_len (a + 1) n) other
          ∙ occurrences-range k (a + 1) n (omega arith) (omega arith)
    ]

-- where no flag is set, none is counted
pub none_set : (flags : List Bool) → ((k : ℕ) → is_awaited flags k ≡ true → ⊥) → count_by (λ awaited. awaited) flags ≡ 0
none_set [] none = refl
none_set (flag ∷ flags) none =
    elim (cases_Bool flag) [
      | inl set ↦ absurd (none 0 set)
      | inr clear ↦
          sum_by-cons (λ (awaited : Bool). cond awaited 1 0) flag flags
          ∙ ap (λ (b : Bool). cond b 1 0 + count_by (λ awaited. awaited) flags) clear
          ∙ ap (λ n. 0 + n) (none_set flags (λ k set. none (suc k) set))
    ]

-- two tests that agree but at one number, which passes the second no more
module _ (p q : ℕ → Bool) (k : ℕ) (ends : q k ≡ false) (agree : (j : ℕ) → (j ≡ k → ⊥) → q j ≡ p j) where
  pub filter-apart : (xs : List ℕ) → occurrences k xs ≡ 0 → filter q xs ≡ filter p xs
  filter-apart [] none = refl
  filter-apart (x ∷ xs) none =
      elim (cases_eq x k) [
        | inl same ↦ let here : occurrences k (x ∷ xs) ≡ 1 + occurrences k xs =
            occurrences-here k x xs same in absurd (omega (arith, here, none))
        | inr other ↦
            ap (λ b. cond b (x ∷ filter q xs) (filter q xs)) (agree x other)
            ∙ ap (λ r. cond (p x) (x ∷ r) r) (filter-apart xs (sym (occurrences-other k x xs other) ∙ none))
      ]

  module _ {W : Type 0} (f : ℕ → W) (g : W → ℕ) (back : (j : ℕ) → g (f j) ≡ j) where
    -- the image of one that passes is among the images
    image_in : (xs : List ℕ) → (occurrences k xs ≡ 0 → ⊥) → Contains (map f xs) (f k)
    image_in [] some = absurd (some refl)
    image_in (x ∷ xs) some =
        elim (cases_eq x k) [
          | inl same ↦ (0, omega arith, ap f same)
          | inr other ↦
              let rest = image_in xs (λ none. some (occurrences-other k x xs other ∙ none)) in
              (suc rest.0, omega (arith, rest.1), rest.2)
        ]

    -- where its image is not there, nothing changes
    pub images-kept : (xs : List ℕ) → p k ≡ true → (Contains (map f (filter p xs)) (f k) → ⊥)
        → map f (filter q xs) ≡ map f (filter p xs)
    images-kept xs passes absent =
        elim (cases_eq (occurrences k xs) 0) [
          | inl none ↦ ap (map f) (filter-apart xs none)
          | inr some ↦ absurd (absent (image_in (filter p xs) (λ none. some (sym (occurrences-filter p k passes xs) ∙ none))))
        ]

    -- where its image is there, the first one is taken out
    at_k : (x : ℕ) (xs : List ℕ) (front behind : List W) → occurrences k (x ∷ xs) ≤ 1 → x ≡ k → p k ≡ true
        → f x ∷ map f (filter p xs) ≡ front ++ f k ∷ behind
        → (Contains front (f k) → ⊥) → map f (filter q (x ∷ xs)) ≡ front ++ behind
    at_k x xs [] behind once same passes e first =
        let here : occurrences k (x ∷ xs) ≡ 1 + occurrences k xs = occurrences-here k x xs same in
        let rest : map f (filter p xs) ≡ behind = cc in
        ap (λ b. map f (cond b (x ∷ filter q xs) (filter q xs))) (ap q same ∙ ends)
        ∙ ap (map f) (filter-apart xs (omega (arith, here, once)))
        ∙ rest
    at_k x xs (w ∷ front) behind once same passes e first =
        let head : f x ≡ w = cc in absurd (first (0, omega arith, sym head ∙ ap f same))

    before_k : (x : ℕ) (xs : List ℕ) (front behind : List W) → (x ≡ k → ⊥) → p x ≡ true
        → f x ∷ map f (filter p xs) ≡ front ++ f k ∷ behind
        → (Contains front (f k) → ⊥)
        → ((others : List W) → map f (filter p xs) ≡ others ++ f k ∷ behind → (Contains others (f k) → ⊥)
        → map f (filter q xs) ≡ others ++ behind)
        → map f (filter q (x ∷ xs)) ≡ front ++ behind
    before_k x xs [] behind other passes e first rest =
        let head : f x ≡ f k = cc in absurd (other (sym (back x) ∙ ap g head ∙ back k))
    before_k x xs (w ∷ front) behind other passes e first rest =
        let head : f x ≡ w = cc in
        let tail : map f (filter p xs) ≡ front ++ f k ∷ behind = cc in
        let later = rest front tail (λ h. first (suc h.0, omega (arith, h.1), h.2)) in
        ap (λ b. map f (cond b (x ∷ filter q xs) (filter q xs))) (agree x other ∙ passes)
        ∙ ap (λ w. w ∷ map f (filter q xs)) head
        ∙ ap (λ ws. w ∷ ws) later

    pub images-taken : (xs : List ℕ) (front behind : List W) → occurrences k xs ≤ 1 → p k ≡ true
        → map f (filter p xs) ≡ front ++ f k ∷ behind
        → (Contains front (f k) → ⊥) → map f (filter q xs) ≡ front ++ behind
    images-taken [] [] behind once passes e first = absurd (cc)
    images-taken [] (w ∷ front) behind once passes e first = absurd (cc)
    images-taken (x ∷ xs) front behind once passes e first =
        elim (cases_eq x k) [
          | inl same ↦
              at_k x xs front behind once same passes
              (sym (ap (λ b. map f (cond b (x ∷ filter p xs) (filter p xs))) (ap p same ∙ passes)) ∙ e) first
          | inr other ↦
              elim (cases_Bool (p x)) [
                | inl passing ↦
                    before_k x xs front behind other passing
                    (sym (ap (λ b. map f (cond b (x ∷ filter p xs) (filter p xs))) passing) ∙ e) first
                    (λ others. images-taken xs others behind
                    (subst (λ n. n ≤ 1) (occurrences-other k x xs other) once) passes)
                | inr failing ↦
                    ap (λ b. map f (cond b (x ∷ filter q xs) (filter q xs))) (agree x other ∙ failing)
                    ∙ images-taken xs front behind (subst (λ n. n ≤ 1) (occurrences-other k x xs other) once) passes
                    (sym (ap (λ b. map f (cond b (x ∷ filter p xs) (filter p xs))) failing) ∙ e) first
              ]
        ]

-- the first number from place a on that passes, by a test on places
module _ (test : ℕ → Bool) (p : ℕ → Bool) (xs : List ℕ)
    (agree : (i : ℕ) → i < length xs → test i ≡ p (get_or xs i 0)) where
  skipped : (a : ℕ) → a < length xs → test a ≡ false → filter p (take (a + 1) xs) ≡ filter p (take a xs)
  skipped a within fails =
      filter_more p xs a 0 within
      ∙ ap (λ b. filter p (take a xs) ++ cond b (get_or xs a 0 ∷ []) []) (sym (agree a within) ∙ fails)
      ∙ append-nil (filter p (take a xs))

  -- there is one
  pub found_next : (n a i : ℕ) → n ≡ length xs - a → find test (range_with_len a n) ≡ Some i
      → (a ≤ i) × (i < length xs) × (filter p (take (i + 1) xs) ≡ filter p (take a xs) ++ get_or xs i 0 ∷ [])
      × (p (get_or xs i 0) ≡ true)
  found_next zero a i left found = absurd (none-some i found)
  found_next (suc n) a i left found =
      let within : a < length xs = omega arith in
      elim (cases_Bool (test a)) [
        | inl passing ↦
            let here : a ≡ i =
            same_Some a i (sym (ap (λ b. cond b (Some a) (find test (range_with_len (a + 1) n))) passing)
            ∙ found) in
            let passes : p (get_or xs a 0) ≡ true = sym (agree a within) ∙ passing in
            subst (λ i. (a ≤ i) × (i < length xs) × (filter p (take (i + 1) xs)
            ≡ filter p (take a xs) ++ get_or xs i 0 ∷ []) × (p (get_or xs i 0) ≡ true)) here (
              omega arith,
              within,
              filter_more p xs a 0 within
                  ∙ ap (λ b. filter p (take a xs) ++ cond b (get_or xs a 0 ∷ []) []) passes,
              passes,
            )
        | inr failing ↦
            let rest =
            found_next n (a + 1) i (omega arith)
            (sym (ap (λ b. cond b (Some a) (find test (range_with_len (a + 1) n))) failing) ∙ found) in (
              omega (arith, rest.0),
              rest.1,
              rest.2
                  ∙ ap (λ front. front ++ get_or xs i 0 ∷ []) (skipped a within failing),
              rest.3,
            )
      ]

  -- there is none
  pub found_none : (n a : ℕ) → n ≡ length xs - a → find test (range_with_len a n) ≡ None
      → filter p xs ≡ filter p (take a xs)
  found_none zero a left none = ap (filter p) (sym (take_all a xs (omega arith)))
  found_none (suc n) a left none =
      let within : a < length xs = omega arith in
      elim (cases_Bool (test a)) [
        | inl passing ↦
            absurd (none-some a (sym none ∙ ap (λ b. cond b (Some a) (find test (range_with_len (a + 1) n))) passing))
        | inr failing ↦
            found_none n (a + 1) (omega arith) (sym
            (ap (λ b. cond b (Some a) (find test (range_with_len (a + 1) n))) failing) ∙ none)
            ∙ skipped a within failing
      ]
