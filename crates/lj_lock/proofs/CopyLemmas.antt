-- Several tasks posted at once: what the pool holds then, and which of the boxes of their copies are left.
use Rattle.std.proofs.Common.{◌≡◌, ℕ, zero, suc, ◌+◌, ◌<◌, ◌≤◌, true, cond, count_by, is_some, List, [], ◌∷◌, ◌++◌, length, take, get_or, Option, Some, None, inl, inr}
use Rattle.std.proofs.Common.{refl, sym, ap, ◌∙◌, subst, arith}
use Rattle.std.proofs.lemmas.Bool.{cases_lt}
use Rattle.std.proofs.lemmas.List.{take_more, get_or_past}
use Rattle.std.proofs.lemmas.List.Recursion.{is_count_by}
use Rattle.std.proofs.lemmas.Option.{none-some, same_Some}
use Rattle.lj_task.specs.Blank.{blank_task}
use Rattle.lj_task.specs.Task.{Task}
use Rattle.lj_book.specs.Boxes.{BoxBook}
use Rattle.lj_lock.specs.Copies.{AreCopies, HandsOver}
use Rattle.lj_lock.specs.PoolStates.{HasPosted, PostsEach}

-- one task more stands in the book
pub posts_more : (xs : List Task) (work : Task) (old mid new : BoxBook) → PostsEach xs old mid → HasPosted work mid new
    → PostsEach (xs ++ work ∷ []) old new
posts_more [] work old mid new before posted = (new, subst (λ book. HasPosted work book new) before posted, refl)
posts_more (x ∷ xs) work old mid new before posted =
    (before.0, before.1, posts_more xs work before.0 mid new before.2 posted)

pub posts_next : (tasks : List Task) (k : ℕ) (work : Task) (old mid new : BoxBook) → k < length tasks → work ≡ get_or tasks k blank_task
    → PostsEach (take k tasks) old mid → HasPosted work mid new → PostsEach (take (k + 1) tasks) old new
posts_next tasks k work old mid new inside read before posted =
    subst (λ xs. PostsEach xs old new)
    (ap (λ x. take k tasks ++ x ∷ []) read ∙ sym (take_more tasks k blank_task inside))
    (posts_more (take k tasks) work old mid new before posted)

-- copies that lie at the first places are copies
pub are_copies : (boxes : List (Option Task)) (tasks : List Task)
    → ((k : ℕ) → k < length boxes → get_or boxes k None ≡ Some (get_or tasks k blank_task)) → AreCopies boxes tasks
are_copies boxes tasks each k inside copy there = elim (cases_lt k (length boxes)) [
  | inl below ↦ sym (same_Some (get_or tasks k blank_task) copy (sym (each k below) ∙ there))
  | inr above ↦ absurd (none-some copy (sym (get_or_past boxes k None (omega (arith, above))) ∙ there))
]

abbrev boxes_in : List (Option Task) → ℕ
boxes_in [] = 0
boxes_in (place ∷ places) = cond (is_some place) (1 + boxes_in places) (boxes_in places)

left_by : (posted : ℕ) (old new : List (Option Task))
    → ((k : ℕ) → k < length old → is_some (get_or old k None) ≡ true) → HandsOver posted old new
    → length old ≤ boxes_in new + posted
left_by posted [] new some h = omega arith
left_by posted (b ∷ bs) [] some h = omega (arith, h.places)
left_by zero (b ∷ bs) (c ∷ cs) some h =
    let is_left : is_some c ≡ true = ap is_some (h.handed_back 0 (omega arith)) ∙ some 0 (omega arith) in
    let others = left_by zero bs cs (λ k l. some (suc k) (omega (arith, l))) record {
      out_of_hand = λ k l. let no : ⊥ = omega (arith, l) in absurd no;
      handed_back = λ k l. h.handed_back (suc k) (omega arith);
      places = omega (arith, h.places);
    } in
    rw is_left (omega (arith, others))
left_by (suc posted) (b ∷ bs) (c ∷ cs) some h =
    let others = left_by posted bs cs (λ k l. some (suc k) (omega (arith, l))) record {
      out_of_hand = λ k l. h.out_of_hand (suc k) (omega (arith, l));
      handed_back = λ k l. h.handed_back (suc k) (omega (arith, l));
      places = omega (arith, h.places);
    } in
    rw (h.out_of_hand 0 (omega arith)) (omega (arith, others))

-- Of boxes of which the first ones were handed over the others are left.
pub left_over : (posted : ℕ) (old new : List (Option Task))
    → ((k : ℕ) → k < length old → is_some (get_or old k None) ≡ true) → HandsOver posted old new
    → length old ≤ count_by is_some new + posted
left_over posted old new some h =
    let counted = is_count_by boxes_in is_some refl (λ place places. refl) new in
    let left = left_by posted old new some h in
    omega (arith, counted, left)
