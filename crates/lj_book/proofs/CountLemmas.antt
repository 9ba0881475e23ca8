-- Sums over the slots of a slab, of which one changes.
use Rattle.std.proofs.Common.{◌≡◌, ◌≢◌, ℕ, zero, suc, ◌+◌, List, [], ◌∷◌, Option, None, sum_by, get_or, drop, refl, sym, ap, ◌∙◌, arith}
use Rattle.std.proofs.lemmas.List.Sums.{sum_by-cons}

module _ {A : Type 0} (f : Option A → ℕ) (nothing : f None ≡ 0) where
  sum_none : (xs : List (Option A)) → ((k : ℕ) → get_or xs k None ≡ None) → sum_by f xs ≡ 0
  sum_none [] h = refl
  sum_none (x ∷ xs) h =
      let head : f x ≡ 0 = ap f (h 0) ∙ nothing in
      let tail : sum_by f xs ≡ 0 = sum_none xs (λ k. h (suc k)) in
      omega (arith, sum_by-cons f x xs)

  sum_same : (xs ys : List (Option A)) → ((k : ℕ) → get_or ys k None ≡ get_or xs k None)
      → sum_by f ys ≡ sum_by f xs
  sum_same [] ys h = sum_none ys h
  sum_same (x ∷ xs) [] h = sym (sum_none (x ∷ xs) (λ k. sym (h k)))
  sum_same (x ∷ xs) (y ∷ ys) h =
      let head : f y ≡ f x = ap f (h 0) in
      let tail : sum_by f ys ≡ sum_by f xs = sum_same xs ys (λ k. h (suc k)) in
      omega (arith, sum_by-cons f x xs, sum_by-cons f y ys)

  split : (xs : List (Option A)) → sum_by f xs ≡ f (get_or xs 0 None) + sum_by f (drop 1 xs)
  split [] = omega (arith, nothing)
  split (x ∷ xs) = sum_by-cons f x xs

  at_tail : (xs : List (Option A)) (k : ℕ) → get_or (drop 1 xs) k None ≡ get_or xs (suc k) None
  at_tail [] k = refl
  at_tail (x ∷ xs) k = refl

  -- lists of slots that differ at one key alone have sums that differ by what those two slots add
  pub sum_changed : (xs ys : List (Option A)) (key : ℕ)
      → ((k : ℕ) → k ≢ key → get_or ys k None ≡ get_or xs k None)
      → sum_by f ys + f (get_or xs key None) ≡ sum_by f xs + f (get_or ys key None)
  sum_changed xs ys zero others =
      let tails : sum_by f (drop 1 ys) ≡ sum_by f (drop 1 xs) =
      sum_same (drop 1 xs) (drop 1 ys)
      (λ k. at_tail ys k ∙ others (suc k) (omega arith) ∙ sym (at_tail xs k)) in
      omega (arith, split xs, split ys)
  sum_changed xs ys (suc key) others =
      let heads : f (get_or ys 0 None) ≡ f (get_or xs 0 None) = ap f (others 0 (omega arith)) in
      let tails : sum_by f (drop 1 ys) + f (get_or (drop 1 xs) key None)
      ≡ sum_by f (drop 1 xs) + f (get_or (drop 1 ys) key None) =
      sum_changed (drop 1 xs) (drop 1 ys) key
      (λ k ne. at_tail ys k ∙ others (suc k) (λ e. ne (omega arith)) ∙ sym (at_tail xs k)) in
      omega (arith, split xs, split ys, ap f (at_tail xs key), ap f (at_tail ys key))
