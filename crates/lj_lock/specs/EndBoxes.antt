-- The boxes of an end of a pool behind a lock.
use Rattle.std.specs.Prelude.{◌≡◌, ◌≢◌, ℕ, ◌+◌, ◌<◌, ◌≤◌, Bool, true, false, List, [], ◌++◌, Option, Some, None, is_some, cond, length, slice_index_or, unwrap_or}
use Rattle.std.specs.List.{All, remove}
use Rattle.lj_task.specs.Task.{Task}
use Rattle.lj_task.specs.Blank.{blank_task}
use Rattle.lj_book.specs.Book.{user_of_task}
use Rattle.lj_lock.specs.declared.end_boxes.TheConstants.{MAX_IN_HAND, MAX_SPARE}

-- the result handed out last; those in hand, in the order of handing out; the number of spare boxes; and whether the last fetch took
-- all results that the pool had, until the next poll or post
pub record EndBoxes : Type 0 where
  pub last : Option Task
  pub hand : List Task
  pub spare : ℕ
  pub took_all : Bool

-- no box
abbrev pub no_boxes : EndBoxes
no_boxes = record { last = None; hand = []; spare = 0; took_all = false }

-- the result in a place, blank where there is none
abbrev pub result_in : Option Task → Task
result_in place = unwrap_or place blank_task

-- Each place has a box. Results in hand and spare boxes together have one place more than results in hand may have, for the box
-- of the last result.
pub record ArePlaced (hand spare : List (Option Task)) : Type 0 where
  pub results : All (λ place. is_some place ≡ true) hand
  pub boxes : All (λ place. is_some place ≡ true) spare
  pub few : length hand ≤ MAX_IN_HAND
  pub places : length hand + length spare ≤ MAX_SPARE

-- the number of boxes
abbrev pub end_box_count : EndBoxes → ℕ
end_box_count own = cond (is_some own.last) 1 0 + length own.hand + own.spare

-- the first result of this user in hand is at index `here`
pub record IsFirstOf (hand : List Task) (user here : ℕ) : Type 0 where
  pub within : here < length hand
  pub whose : user_of_task (slice_index_or hand here blank_task) ≡ user
  pub before : (k : ℕ) → k < here → user_of_task (slice_index_or hand k blank_task) ≢ user

-- The first result of this user in hand was handed out; the box of the one handed out before is spare.
pub record HandsOut (user : ℕ) (old new : EndBoxes) : Type 0 where
  pub here : ℕ
  pub first : IsFirstOf old.hand user here
  pub last : new.last ≡ Some (slice_index_or old.hand here blank_task)
  pub hand : new.hand ≡ remove old.hand here
  pub spare : new.spare ≡ old.spare + cond (is_some old.last) 1 0

-- Results of this user were fetched: the first is handed out, the others are in hand behind those that were there, and the box of the
-- result handed out before is spare.
pub record TakesInHand (user : ℕ) (old new : EndBoxes) : Type 0 where
  pub first : Task
  pub others : List Task
  pub last : new.last ≡ Some first
  pub hand : new.hand ≡ old.hand ++ others
  pub freed : cond (is_some old.last) 1 0 ≤ new.spare
  pub whose : user_of_task first ≡ user
  pub whose_others : All (λ done. user_of_task done ≡ user) others

-- This result of the user was handed out, and `left` is in hand now. It was the user's first one in hand; where the user had none
-- there, all others are still in hand.
pub record IsNext (user : ℕ) (hand : List Task) (done : Task) (left : List Task) : Type 0 where
  pub whose : user_of_task done ≡ user
  pub first : (here : ℕ) → IsFirstOf hand user here
      → (done ≡ slice_index_or hand here blank_task) × (left ≡ remove hand here)
  pub none : All (λ other. user_of_task other ≢ user) hand → (others : List Task) × (left ≡ hand ++ others)

-- Only spare boxes have come or gone.
pub record SameResults (old new : EndBoxes) : Type 0 where
  pub last : new.last ≡ old.last
  pub hand : new.hand ≡ old.hand
