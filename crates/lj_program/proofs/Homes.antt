-- Each state at home stays the latest in the history of its user.
use Rattle.std.proofs.Common.{◌≡◌, ◌≢◌, ◌⊎◌, ℕ, zero, suc, ◌<◌, List, [], ◌∷◌, ◌++◌, length, slice_get, slice_set, Option, Some, None, IsSomeAnd, IfSome, IfNone, refl, sym, ap, ◌∙◌, subst, arith, inl, inr}
use Rattle.std.specs.Option.{option_and_then}
use Rattle.std.proofs.lemmas.List.{length-set}
use Rattle.std.proofs.lemmas.Option.{slice_get_within}
use Rattle.lj_session.specs.UserState.{UserState}
use Rattle.lj_access.specs.declared.user.User.{User}
use Rattle.lj_access.specs.UserRows.{UserRow, home_of, with_home, with_row_changed, with_row_changed_to, without_home}
use Rattle.lj_access.specs.Passing.{PassesOver, passed}
use Rattle.lj_program.specs.Histories.{HasNoted, latest_state}
use Rattle.lj_program.specs.Homes.{HomesAreLatest, first_state}
use Rattle.lj_program.proofs.Noted.{latest_state-last}

-- an element read after one was set: that one, or what was there
pub get-set : {A : Type 0} (xs : List A) (i j : ℕ) (x y : A) → slice_get (slice_set xs i x) j ≡ Some y
    → ((i ≡ j) × (y ≡ x)) ⊎ ((i ≢ j) × (slice_get xs j ≡ Some y))
get-set [] i j x y found = absurd cc
get-set (z ∷ xs) zero zero x y found = inl (refl, cc)
get-set (z ∷ xs) zero (suc j) x y found = inr ((λ e. absurd cc), found)
get-set (z ∷ xs) (suc i) zero x y found = inr ((λ e. absurd cc), found)
get-set (z ∷ xs) (suc i) (suc j) x y found = by (get-set xs i j x y found)
  where
    by : ((i ≡ j) × (y ≡ x)) ⊎ ((i ≢ j) × (slice_get xs j ≡ Some y))
        → ((suc i ≡ suc j) × (y ≡ x)) ⊎ ((suc i ≢ suc j) × (slice_get xs j ≡ Some y))
    by (inl (same, is)) = inl (ap suc same, is)
    by (inr (other, there)) = inr ((λ e. other (omega (arith, e))), there)

keep-by : (o : Option UserRow) (users : List User) (histories : List (List UserState)) (rows : List UserRow) (user : ℕ)
    (change : UserRow → UserRow) → slice_get rows user ≡ o
    → ((row : UserRow) (state : UserState) → (change row).home ≡ Some state → row.home ≡ Some state)
    → HomesAreLatest users histories rows → HomesAreLatest users histories (with_row_changed_to user change o rows)
keep-by None users histories rows user change missing keeps old = old
keep-by (Some row) users histories rows user change found keeps old = record {
  one_each = old.one_each ∙ sym (length-set rows user (change row));
  latest = λ other after states state there own home.
      by other after states state own home (get-set rows user other (change row) after there);
}
  where
    by : (other : ℕ) (after : UserRow) (states : List UserState) (state : UserState) → slice_get histories other ≡ Some states
        → after.home ≡ Some state
        → ((user ≡ other) × (after ≡ change row)) ⊎ ((user ≢ other) × (slice_get rows other ≡ Some after))
        → latest_state (first_state users other) states ≡ Some state
    by other after states state own home (inl (same, is)) =
        old.latest other row states state (subst (λ n. slice_get rows n ≡ Some row) same found) own
        (keeps row state (sym (ap (λ (r : UserRow). r.home) is) ∙ home))
    by other after states state own home (inr (differ, there)) = old.latest other after states state there own home

-- a row that changes keeps its state at home, or has none there
pub keep_homes : (users : List User) (histories : List (List UserState)) (rows : List UserRow) (user : ℕ) (change : UserRow → UserRow)
    → ((row : UserRow) (state : UserState) → (change row).home ≡ Some state → row.home ≡ Some state)
    → HomesAreLatest users histories rows → HomesAreLatest users histories (with_row_changed user change rows)
keep_homes users histories rows user change keeps old =
    keep-by (slice_get rows user) users histories rows user change refl keeps old

-- a state is lent, and is no more at home
pub lend_homes : (users : List User) (histories : List (List UserState)) (rows after : List UserRow) (user : ℕ)
    → after ≡ with_row_changed user without_home rows → HomesAreLatest users histories rows → HomesAreLatest users histories after
lend_homes users histories rows after user changed homes =
    subst (HomesAreLatest users histories) (sym changed)
    (keep_homes users histories rows user without_home (λ row state home. absurd cc) homes)

-- tickets are passed over
pub pass_homes : (users : List User) (histories : List (List UserState)) (old new : List UserRow) (user : ℕ)
    → PassesOver user old new → HomesAreLatest users histories old → HomesAreLatest users histories new
pass_homes users histories old new user over homes =
    subst (HomesAreLatest users histories) (sym over.1)
    (keep_homes users histories old user (passed over.0) (λ row state home. home) homes)

bring-by : (o : Option UserRow) (users : List User) (histories : List (List UserState)) (rows : List UserRow) (user : ℕ)
    (before after : List UserState) (state : UserState) → slice_get rows user ≡ o → HasNoted before state after
    → HomesAreLatest users histories rows
    → HomesAreLatest users (slice_set histories user after) (with_row_changed_to user (with_home state) o rows)
bring-by None users histories rows user before after state missing noted old = record {
  one_each = length-set histories user after ∙ old.one_each;
  latest = λ other row states own there history home.
      by other row states own there home (get-set histories user other after states history);
}
  where
    by : (other : ℕ) (row : UserRow) (states : List UserState) (own : UserState) → slice_get rows other ≡ Some row
        → row.home ≡ Some own
        → ((user ≡ other) × (states ≡ after)) ⊎ ((user ≢ other) × (slice_get histories other ≡ Some states))
        → latest_state (first_state users other) states ≡ Some own
    by other row states own there home (inl (same, is)) =
        let none : slice_get rows other ≡ None = subst (λ n. slice_get rows n ≡ None) same missing in
        absurd (let differ : Some row ≡ None = sym there ∙ none in cc)
    by other row states own there home (inr (differ, history)) = old.latest other row states own there history home
bring-by (Some first) users histories rows user before after state found noted old = record {
  one_each = length-set histories user after ∙ old.one_each ∙ sym (length-set rows user (with_home state first));
  latest = λ other row states own there history home.
      by other row states own home (get-set rows user other (with_home state first) row there)
      (get-set histories user other after states history);
}
  where
    by : (other : ℕ) (row : UserRow) (states : List UserState) (own : UserState) → row.home ≡ Some own
        → ((user ≡ other) × (row ≡ with_home state first)) ⊎ ((user ≢ other) × (slice_get rows other ≡ Some row))
        → ((user ≡ other) × (states ≡ after)) ⊎ ((user ≢ other) × (slice_get histories other ≡ Some states))
        → latest_state (first_state users other) states ≡ Some own
    by other row states own home (inl (same, is)) (inl (alike, are)) =
        ap (latest_state (first_state users other)) (are ∙ noted.1)
        ∙ latest_state-last (first_state users other) (before ++ noted.0) state
        ∙ sym (ap (λ (r : UserRow). r.home) is) ∙ home
    by other row states own home (inl (same, is)) (inr (differ, history)) = absurd (differ same)
    by other row states own home (inr (differ, there)) (inl (same, are)) = absurd (differ same)
    by other row states own home (inr (differ, there)) (inr (unlike, history)) = old.latest other row states own there history home

-- a state comes home, and is noted as the last one
pub bring_home : (users : List User) (histories : List (List UserState)) (rows : List UserRow) (user : ℕ)
    (before after : List UserState) (state : UserState) → HasNoted before state after
    → HomesAreLatest users histories rows
    → HomesAreLatest users (slice_set histories user after) (with_row_changed user (with_home state) rows)
bring_home users histories rows user before after state noted old =
    bring-by (slice_get rows user) users histories rows user before after state refl noted old

-- a list that has nothing at a place ends before it
slice_get_within-not : {A : Type 0} (xs : List A) (i : ℕ) → slice_get xs i ≡ None → i < length xs → ⊥
slice_get_within-not [] i none below = absurd (omega (arith, below))
slice_get_within-not (x ∷ xs) zero none below = absurd cc
slice_get_within-not (x ∷ xs) (suc i) none below = slice_get_within-not xs i none (omega (arith, below))

-- a user whose state is at home has a history
pub history_there : (users : List User) (histories : List (List UserState)) (rows : List UserRow) (user : ℕ) (state : UserState)
    → HomesAreLatest users histories rows → home_of rows user ≡ Some state → slice_get histories user ≡ None → ⊥
history_there users histories rows user state homes home none = by (slice_get rows user) refl
  where
    by : (o : Option UserRow) → slice_get rows user ≡ o → ⊥
    by None found = absurd (let e : option_and_then (λ (r : UserRow). r.home) None ≡ Some state = sym (ap (option_and_then (λ (r : UserRow). r.home)) found) ∙ home in cc)
    by (Some row) found =
        let below = slice_get_within rows user row found in
        slice_get_within-not histories user none (omega (arith, below, homes.one_each))

-- the state at home is the latest in the history of its user
pub latest_home : (users : List User) (histories : List (List UserState)) (rows : List UserRow) (user : ℕ) (state : UserState)
    (states : List UserState) → HomesAreLatest users histories rows → home_of rows user ≡ Some state
    → slice_get histories user ≡ Some states → latest_state (first_state users user) states ≡ Some state
latest_home users histories rows user state states homes home there = by (slice_get rows user) refl
  where
    by : (o : Option UserRow) → slice_get rows user ≡ o → latest_state (first_state users user) states ≡ Some state
    by None found = absurd (let e : option_and_then (λ (r : UserRow). r.home) None ≡ Some state = sym (ap (option_and_then (λ (r : UserRow). r.home)) found) ∙ home in cc)
    by (Some row) found =
        homes.latest user row states state found there (sym (ap (option_and_then (λ (r : UserRow). r.home)) found) ∙ home)

noted-by : (o : Option (List UserState)) (users : List User) (old : List (List UserState)) (rows : List UserRow) (user : ℕ)
    (state : UserState) (after : List UserState) → IsSomeAnd o (λ before. HasNoted before state after)
    → HomesAreLatest users old rows
    → HomesAreLatest users (slice_set old user after) (with_row_changed user (with_home state) rows)
noted-by None users old rows user state after noted homes = absurd noted
noted-by (Some before) users old rows user state after noted homes = bring_home users old rows user before after state noted homes

-- a state comes home and is noted in the history of its user, where there is one
pub note_home : {X : Type 0} (o : Option X) (states : X → List UserState) (users : List User) (old new : List (List UserState))
    (rows after : List UserRow) (user : ℕ) (state : UserState)
    → IfSome o (λ x. IsSomeAnd (slice_get old user) (λ before. HasNoted before state (states x)))
    → IfSome o (λ x. new ≡ slice_set old user (states x)) → IfNone o (slice_get old user ≡ None) → IfNone o (new ≡ old)
    → after ≡ with_row_changed user (with_home state) rows → HomesAreLatest users old rows → HomesAreLatest users new after
note_home (Some x) states users old new rows after user state noted others none unchanged changed homes =
    subst (λ h. HomesAreLatest users h after) (sym others)
    (subst (HomesAreLatest users (slice_set old user (states x))) (sym changed)
    (noted-by (slice_get old user) users old rows user state (states x) noted homes))
note_home None states users old new rows after user state noted others none unchanged changed homes =
    let missing : slice_get rows user ≡ None = nothing (slice_get rows user) refl in
    let same : after ≡ rows = changed ∙ ap (λ o. with_row_changed_to user (with_home state) o rows) missing in
    subst (λ h. HomesAreLatest users h after) (sym unchanged) (subst (HomesAreLatest users old) (sym same) homes)
  where
    nothing : (o : Option UserRow) → slice_get rows user ≡ o → slice_get rows user ≡ None
    nothing None found = found
    nothing (Some row) found =
        absurd (slice_get_within-not old user none
        (let below = slice_get_within rows user row found in let same = homes.one_each in omega (arith, below, same)))
