-- The boxes of an end, and results that leave the book one after the other.
use Rattle.std.proofs.Common.{◌≡◌, ℕ, ◌≢◌, ◌<◌, suc, true, List, [], ◌∷◌, ◌++◌, Option, Some, None, length, map, take, drop, get_or, inl, inr, refl, sym, ap, ◌∙◌, subst, arith}
use Rattle.std.specs.Prelude.{is_some, IsSomeAnd}
use Rattle.std.specs.List.{All, remove}
use Rattle.std.proofs.lemmas.Bool.{cases_lt}
use Rattle.std.proofs.lemmas.List.{map-append, take-map, drop-map, get_or-map, get_or_default}
use Rattle.std.proofs.lemmas.List.Edits.{length-remove}
use Rattle.std.proofs.lemmas.List.Elements.{All-append, All-take, All-drop}
use Rattle.lj_task.specs.Blank.{blank_task}
use Rattle.lj_task.specs.Task.{Task}
use Rattle.lj_book.specs.declared.key_states.KeyState.TheVariants.{ToFetch}
use Rattle.lj_book.specs.Book.{BookOf, Fetches, IsDoneAt, key_state_of, user_of_task}
use Rattle.lj_book.specs.Boxes.{Numbered, Slip}
use Rattle.lj_lock.specs.EndBoxes.{ArePlaced, EndBoxes, HandsOut, IsFirstOf, IsNext, TakesInHand, result_in}
use Rattle.lj_lock.specs.PoolStates.{FetchesEach}

-- what is seen of the places without one
pub map-remove : {X Y : Type 0} (f : X → Y) (xs : List X) (i : ℕ) → map f (remove xs i) ≡ remove (map f xs) i
map-remove f xs i = map-append f (take i xs) (drop (suc i) xs) ∙ ap (λ front. front ++ map f (drop (suc i) xs)) (sym (take-map f i xs))
    ∙ ap (λ behind. take i (map f xs) ++ behind) (sym (drop-map f (suc i) xs))

-- what is true of all places is true of all without one
pub All-remove : {X : Type 0} (P : X → Type 0) (xs : List X) (i : ℕ) → All P xs → All P (remove xs i)
All-remove P xs i all = All-append P (take i xs) (drop (suc i) xs) (All-take P i xs all) (All-drop P (suc i) xs all)

-- what was read at a place is its result
pub read_result : (hand : List (Option Task)) (here : ℕ) (place : Option Task) (done : Task) → here < length hand
    → place ≡ get_or hand here place → place ≡ Some done → done ≡ get_or (map result_in hand) here blank_task
read_result hand here place done inside read some =
    ap result_in (sym some ∙ read ∙ get_or_default hand here place None inside)
    ∙ sym (get_or-map result_in hand here None blank_task inside)

-- one result fewer in hand
pub placed_left : (hand spare : List (Option Task)) (here : ℕ) → ArePlaced hand spare → here < length hand
    → ArePlaced (remove hand here) spare
placed_left hand spare here placed inside = record {
  results = All-remove (λ place. is_some place ≡ true) hand here placed.results;
  boxes = placed.boxes;
  few = omega (arith, placed.few, length-remove hand here inside);
  places = omega (arith, placed.places, length-remove hand here inside);
}

-- a result that was fetched for a user is the user's
pub users_result : (old new : BookOf Numbered Slip) (user key : ℕ) (done : Task) → Fetches old new done key → IsDoneAt user old key
    → user_of_task done ≡ user
users_result old new user key done fetches here =
    let same : ToFetch (user_of_task done) ≡ ToFetch user = sym (ap key_state_of fetches.was) ∙ here in
    cc

-- one result more
pub fetches_more : (xs : List Task) (done : Task) (old mid new : BookOf Numbered Slip) (key : ℕ) → FetchesEach xs old mid
    → Fetches mid new done key → FetchesEach (xs ++ done ∷ []) old new
fetches_more [] done old mid new key before fetches =
    (new, (key, subst (λ book. Fetches book new done key) before fetches), refl)
fetches_more (x ∷ xs) done old mid new key before fetches =
    (before.0, before.1, fetches_more xs done before.0 mid new key before.2 fetches)

-- two first results of a user are one
pub same_first : (hand : List Task) (user here there : ℕ) → IsFirstOf hand user here → IsFirstOf hand user there → here ≡ there
same_first hand user here there one other = elim (cases_lt here there) [
  | inl below ↦ absurd (other.before here below one.whose)
  | inr above ↦ elim (cases_lt there here) [
    | inl below ↦ absurd (one.before there below other.whose)
    | inr up ↦ omega (arith, above, up)
  ]
]

-- what was in hand is the next result
pub next_in_hand : (user : ℕ) (old new : EndBoxes) → HandsOut user old new
    → IsSomeAnd new.last (λ done. IsNext user old.hand done new.hand)
next_in_hand user old new out =
    subst (λ last. IsSomeAnd last (λ done. IsNext user old.hand done new.hand)) (sym out.last) record {
      whose = out.first.whose;
      first = λ here first. let same = same_first old.hand user here out.here first out.first in
          (ap (λ k. get_or old.hand k blank_task) (sym same), out.hand ∙ ap (remove old.hand) (sym same));
      none = λ others. absurd (others out.here blank_task out.first.within out.first.whose);
    }

-- what was fetched is the next result, if none of the user's was in hand
pub next_fetched : (user : ℕ) (old new : EndBoxes) → TakesInHand user old new → All (λ other. user_of_task other ≢ user) old.hand
    → IsSomeAnd new.last (λ done. IsNext user old.hand done new.hand)
next_fetched user old new takes none =
    subst (λ last. IsSomeAnd last (λ done. IsNext user old.hand done new.hand)) (sym takes.last) record {
      whose = takes.whose;
      first = λ here first. absurd (none here blank_task first.within first.whose);
      none = λ others. (takes.others, takes.hand);
    }
