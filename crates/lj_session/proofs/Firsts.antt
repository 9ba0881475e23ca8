-- The first element of a list that passes a test, looked for by index.
use Rattle.std.proofs.Common.{◌≡◌, ℕ, zero, suc, ◌+◌, ◌<◌, Bool, true, false, nat_eq, List, [], ◌∷◌, length, slice_get, Some, None, ◌≢◌, ◌⊎◌, inl, inr, refl, sym, ◌∙◌, ap, arith}
use Rattle.std.proofs.lemmas.Bool.Decides.{eqb_tells}
use Rattle.std.specs.List.{find}
use Rattle.lj_session.proofs.Entries.{by_test}

module _ {A : Type 0} (test : A → Bool) where
  -- none of the first so many passes
  abbrev pub NoneBefore : List A → ℕ → Type 0
  NoneBefore xs i = (k : ℕ) (x : A) → k < i → slice_get xs k ≡ Some x → test x ≡ false

  pub none-first : (xs : List A) → NoneBefore xs 0
  none-first xs k x below at = absurd (omega (arith, below))

  same_Some : (x y : A) → Some x ≡ Some y → x ≡ y
  same_Some x y e = cc

  none_some : (x : A) → None ≡ Some x → ⊥
  none_some x e = cc

  pub none-next : (xs : List A) (i : ℕ) (x : A) → slice_get xs i ≡ Some x → test x ≡ false → NoneBefore xs i
      → NoneBefore xs (i + 1)
  none-next xs i x there fails before k y below at = by (eqb_tells k i)
    where
      by : (nat_eq k i ≡ true) × (k ≡ i) ⊎ (nat_eq k i ≡ false) × (k ≢ i) → test y ≡ false
      by (inl (t, is)) = ap test (same_Some y x (sym at ∙ ap (slice_get xs) is ∙ there)) ∙ fails
      by (inr (t, differs)) = before k y (omega (arith, below, differs)) at

  pub find-at : (xs : List A) (i : ℕ) (x : A) → slice_get xs i ≡ Some x → test x ≡ true → NoneBefore xs i
      → find test xs ≡ Some x
  find-at [] i x there passes before = absurd (none_some x there)
  find-at (y ∷ ys) zero x there passes before =
      let is = same_Some y x there in
      let t : test y ≡ true = ap test is ∙ passes in
      rw t there
  find-at (y ∷ ys) (suc i) x there passes before =
      let t = before 0 y (omega arith) refl in
      rw t (find-at ys i x there passes (λ k z below at. before (suc k) z (omega (arith, below)) at))

  pub find-nowhere : (xs : List A) → NoneBefore xs (length xs) → find test xs ≡ None
  find-nowhere [] before = refl
  find-nowhere (y ∷ ys) before =
      let t = before 0 y (omega arith) refl in
      rw t (find-nowhere ys (λ k z below at. before (suc k) z (omega (arith, below)) at))

  pub find-passes : (xs : List A) (x : A) → find test xs ≡ Some x → test x ≡ true
  find-passes [] x e = absurd (none_some x e)
  find-passes (y ∷ ys) x e = by_test (test y)
      (λ t. ap test (sym (same_Some y x (rw t at e))) ∙ t)
      (λ t. find-passes ys x (rw t at e))
