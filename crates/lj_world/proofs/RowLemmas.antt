-- Rows of users: one changed, and what is read of the others.
use Rattle.std.proofs.Common.{◌≡◌, ◌≢◌, ℕ, zero, suc, ◌+◌, Bool, not, cond, nat_lt, List, [], ◌∷◌, slice_get, slice_set, position, Option, Some, None, nat_eq, true, false, ◌⊎◌, inl, inr, refl, sym, ◌∙◌, ap, ap₂, length-set}
use Rattle.std.proofs.lemmas.Bool.Decides.{eqb_tells}
use Rattle.std.specs.List.{prefix_len}
use Rattle.lj_access.specs.UserRows.{UserRow, has_credentials, user_with, with_row_changed, with_row_changed_to}

no_row : {A : Type 0} (x : A) → None ≡ Some x → ⊥
no_row x e = cc

same_row : {A : Type 0} (x y : A) → Some x ≡ Some y → x ≡ y
same_row x y e = cc

set_same : {A : Type 0} (xs : List A) (i : ℕ) (old new : A) → slice_get xs i ≡ Some old → slice_get (slice_set xs i new) i ≡ Some new
set_same [] i old new e = absurd (no_row old e)
set_same (x ∷ xs) zero old new e = refl
set_same (x ∷ xs) (suc i) old new e = set_same xs i old new e

set_other : {A : Type 0} (xs : List A) (i j : ℕ) (new : A) → i ≢ j → slice_get (slice_set xs i new) j ≡ slice_get xs j
set_other [] i j new differs = refl
set_other (x ∷ xs) zero zero new differs = absurd (differs refl)
set_other (x ∷ xs) zero (suc j) new differs = refl
set_other (x ∷ xs) (suc i) zero new differs = refl
set_other (x ∷ xs) (suc i) (suc j) new differs = set_other xs i j new (λ e. differs (ap suc e))

prefix_set : {A : Type 0} (p : A → Bool) (xs : List A) (i : ℕ) (old new : A) → slice_get xs i ≡ Some old → p new ≡ p old
    → prefix_len p (slice_set xs i new) ≡ prefix_len p xs
prefix_set p [] i old new e same = refl
prefix_set p (x ∷ xs) zero old new e same = ap (λ b. cond b (1 + prefix_len p xs) 0) (same ∙ ap p (sym (same_row x old e)))
prefix_set p (x ∷ xs) (suc i) old new e same = ap (λ n. cond (p x) (1 + n) 0) (prefix_set p xs i old new e same)

position_set : {A : Type 0} (p : A → Bool) (xs : List A) (i : ℕ) (old new : A) → slice_get xs i ≡ Some old → p new ≡ p old
    → position p (slice_set xs i new) ≡ position p xs
position_set {A} p xs i old new e same =
    ap₂ (λ n l. cond (nat_lt n l) (Some n) None) (prefix_set (λ x. not (p x)) xs i old new e (ap not same)) (length-set {A = A} xs i new)

-- the row that is changed
pub row_changed : (rows : List UserRow) (user : ℕ) (change : UserRow → UserRow) (row : UserRow) → slice_get rows user ≡ Some row
    → slice_get (with_row_changed user change rows) user ≡ Some (change row)
row_changed rows user change row e =
    ap (λ o. slice_get (with_row_changed_to user change o rows) user) e ∙ set_same rows user row (change row) e

-- and every other as it was
pub row_other : (rows : List UserRow) (user : ℕ) (change : UserRow → UserRow) (other : ℕ) → user ≢ other
    → slice_get (with_row_changed user change rows) other ≡ slice_get rows other
row_other rows user change other differs = by (slice_get rows user)
  where
    by : (o : Option UserRow) → slice_get (with_row_changed_to user change o rows) other ≡ slice_get rows other
    by None = refl
    by (Some row) = set_other rows user other (change row) differs

-- a change that leaves names and tokens leaves who is known by them
pub users_stay : (rows : List UserRow) (user : ℕ) (change : UserRow → UserRow) (name token : List ℕ)
    → ((row : UserRow) → has_credentials name token (change row) ≡ has_credentials name token row) → user_with (with_row_changed user change rows) name token ≡ user_with rows name token
users_stay rows user change name token same = by (slice_get rows user) refl
  where
    by : (o : Option UserRow) → slice_get rows user ≡ o → user_with (with_row_changed_to user change o rows) name token ≡ user_with rows name token
    by None e = refl
    by (Some row) e = position_set (has_credentials name token) rows user row (change row) e (same row)

-- what was there before a change of a row, and whether it was changed
abbrev pub WasRead : List UserRow → ℕ → (UserRow → UserRow) → ℕ → UserRow → Type 0
WasRead rows user change other row =
    (was : UserRow) × (slice_get rows other ≡ Some was)
    × ((user ≡ other) × (row ≡ change was) ⊎ (user ≢ other) × (row ≡ was) ⊎ (slice_get rows user ≡ None) × (row ≡ was))

read_same : (rows : List UserRow) (user : ℕ) (change : UserRow → UserRow) (other : ℕ) (row : UserRow) → slice_get (with_row_changed user change rows) other ≡ Some row
    → (o : Option UserRow) → slice_get rows user ≡ o → user ≡ other → WasRead rows user change other row
read_same rows user change other row e None none same =
    (row, sym (ap (λ o. slice_get (with_row_changed_to user change o rows) other) none) ∙ e, inr (inr (none, refl)))
read_same rows user change other row e (Some was) is same =
    let read : slice_get rows other ≡ Some was = ap (slice_get rows) (sym same) ∙ is in
    let new : slice_get (with_row_changed user change rows) other ≡ Some (change was) =
    ap (slice_get (with_row_changed user change rows)) (sym same) ∙ row_changed rows user change was is in
    (was, read, inl (same, same_row row (change was) (sym e ∙ new)))

-- what is read after a change was there before
pub read_changed : (rows : List UserRow) (user : ℕ) (change : UserRow → UserRow) (other : ℕ) (row : UserRow) → slice_get (with_row_changed user change rows) other ≡ Some row
    → WasRead rows user change other row
read_changed rows user change other row e = by (eqb_tells user other)
  where
    by : ((nat_eq user other ≡ true) × (user ≡ other)) ⊎ ((nat_eq user other ≡ false) × (user ≢ other)) → WasRead rows user change other row
    by (inl (_, same)) = read_same rows user change other row e (slice_get rows user) refl same
    by (inr (_, differs)) = (row, sym (row_other rows user change other differs) ∙ e, inr (inl (differs, refl)))
