-- A step that notes a state keeps the rule of a history.
use Rattle.std.proofs.Common.{◌≡◌, ℕ, zero, suc, ◌<◌, ◌++◌, ◌⊎◌, true, List, [], ◌∷◌, length, map, slice_set, refl, ap, sym, subst, arith, inl, inr, None, Option, Some, All}
use mathlib.Core.List.{IsPrefix}
use Rattle.logbook.specs.Pages.{Cell, cell, keeps, no_nib, step, Moves, Goes}
use Rattle.lj_session.specs.UserState.{UserState}
use Rattle.lj_program.specs.Histories.{IsHistory, NotesState, latest_state}

abbrev pub shown : List UserState → List UserState
shown states = []

abbrev pub moved : List UserState → List UserState → ℕ → Type 0
moved before after answer = Unit {0}

notes_goes : (seen states : List UserState) (state : UserState) → IsPrefix seen states
    → Goes IsHistory shown moved 0 (seen, (no_nib, None)) (λ n. n) (NotesState (step 0 0 0 state) (seen, (no_nib, None)))
    ((0, true) ∷ (0, true) ∷ []) states
notes_goes seen states state begins = (
  keeps,
  state ∷ [],
  None,
  tt,
  refl,
  inl (refl, refl),
  (begins.0, ap (λ front. front ++ state ∷ []) (sym begins.1)),
)

-- whatever was noted meanwhile, the state is noted as the last one
pub notes_moves : (seen : List UserState) (state : UserState)
    → Moves IsHistory shown moved 0 (seen, (no_nib, None)) (λ n. n) (NotesState (step 0 0 0 state) (seen, (no_nib, None)))
notes_moves seen state cells states kept begins away =
    let P : List Cell → Type 0 = λ c. (0 < length c) × ((cell c 0).1 ≡ true)
    × Goes IsHistory shown moved 0 (seen, (no_nib, None)) (λ n. n) (NotesState (step 0 0 0 state) (seen, (no_nib, None))) c states in
    subst P (sym kept) (omega arith, refl, notes_goes seen states state begins)

-- the state that was noted last is the latest
pub latest_state-last : (first : Option UserState) (states : List UserState) (state : UserState)
    → latest_state first (states ++ state ∷ []) ≡ Some state
latest_state-last first [] state = refl
latest_state-last first (other ∷ states) state = latest_state-last (Some other) states state

-- of two beginnings of one list, one begins the other
pub prefixes_of_one : {A : Type 0} (xs ys zs : List A) → IsPrefix xs zs → IsPrefix ys zs → IsPrefix xs ys ⊎ IsPrefix ys xs
prefixes_of_one [] ys zs p q = inl (ys, refl)
prefixes_of_one (x ∷ xs) [] zs p q = inr (x ∷ xs, refl)
prefixes_of_one (x ∷ xs) (y ∷ ys) [] p q = absurd (cc (p.1))
prefixes_of_one (x ∷ xs) (y ∷ ys) (z ∷ zs) p q =
    let heads : x ≡ y = cc (p.1, q.1) in
    by (prefixes_of_one xs ys zs (p.0, cc (p.1)) (q.0, cc (q.1))) heads
  where
    by : IsPrefix xs ys ⊎ IsPrefix ys xs → x ≡ y → IsPrefix (x ∷ xs) (y ∷ ys) ⊎ IsPrefix (y ∷ ys) (x ∷ xs)
    by (inl begins) heads = inl (begins.0, cc (heads, begins.1))
    by (inr begins) heads = inr (begins.0, cc (heads, begins.1))

-- one element set, before a map and after it
pub map-set : {A B : Type 0} (f : A → B) (xs : List A) (i : ℕ) (x : A) → map f (slice_set xs i x) ≡ slice_set (map f xs) i (f x)
map-set f [] i x = refl
map-set f (y ∷ xs) zero x = refl
map-set f (y ∷ xs) (suc i) x = ap (λ others. f y ∷ others) (map-set f xs i x)

-- what holds of what each element gives holds of each one given
pub all-map : {A B : Type 0} (f : A → B) (P : B → Type 0) (xs : List A) → All (λ x. P (f x)) xs → All P (map f xs)
all-map f P [] holds k d within = absurd (omega (arith, within))
all-map f P (x ∷ xs) holds zero d within = holds zero x (omega arith)
all-map f P (x ∷ xs) holds (suc k) d within = all-map f P xs (λ j e below. holds (suc j) e (omega (arith, below))) k d (omega (arith, within))
