-- A book that hands out tasks in their boxes.
use Rattle.std.specs.Prelude.{◌≡◌, ℕ, ◌+◌, ◌≤◌, ◌<◌, Bool, true, false, List, [], Option, Some, None, count_by, Vec, vec_len}
use Rattle.std.specs.Global.{Global}
use Rattle.std.specs.Vec.{vec_capacity}
use Rattle.lj_task.specs.Task.{Task}
use Rattle.lj_book.specs.declared.book_entry.TheConstants.{MAX_ENTRIES}
use Rattle.lj_book.specs.Book.{BookOf, BookEntry, Open, Out, Done, entry_at, entry_count, user_of_task, is_of_by, Posts, LetsOut, Reopens, Finishes, Fetches, Removes}

-- the entry holds a box, by whether an open one does, and what is stored while it is out
abbrev pub has_box_by : {P K : Type 0} → (P → Bool) → (K → Bool) → Option (BookEntry P K) → Bool
has_box_by in_open in_kept None = false
has_box_by in_open in_kept (Some (Open opened)) = in_open opened
has_box_by in_open in_kept (Some (Out kept)) = in_kept kept
has_box_by in_open in_kept (Some (Done work)) = true

-- how many entries hold a box
abbrev pub box_count_by : {P K : Type 0} → (P → Bool) → (K → Bool) → List (Option (BookEntry P K)) → ℕ
box_count_by in_open in_kept slots = count_by (has_box_by in_open in_kept) slots

-- By value each entry holds a box, and of MAX_ENTRIES + 1 boxes one more is always spare, to change an entry. All fit
-- in the list of spare boxes.
pub record HasBoxes (inner : BookOf Task Task) (spare : Vec Task Global) : Type 0 where
  pub boxes : vec_len spare + entry_count inner ≡ MAX_ENTRIES + 1
  pub one : 0 < vec_len spare
  pub places : MAX_ENTRIES + 1 ≤ vec_capacity spare

-- a task with the number of its post
pub record Numbered : Type 0 where
  pub number : ℕ
  pub work : Task

-- what is stored for a task whose box is out
pub record Slip : Type 0 where
  pub number : ℕ
  pub user : ℕ

-- what is out in its box, with its key and the number of its post
pub record Lent (B : Type 0) : Type 0 where
  pub key : ℕ
  pub number : ℕ
  pub work : B

-- a task that is out in its box
abbrev pub LentTask : Type 0
LentTask = Lent Task

-- the lent task as an open one
abbrev pub numbered_of : LentTask → Numbered
numbered_of lent = record { number = lent.number; work = lent.work }

-- what is stored for a task while its box is out
abbrev pub slip_for : Numbered → Slip
slip_for opened = record { number = opened.number; user = user_of_task opened.work }

-- what is stored for the lent task
abbrev pub slip_of : LentTask → Slip
slip_of lent = slip_for (numbered_of lent)

-- entries and counts, how many boxes are spare, and how many were made
pub record BoxBook : Type 0 where
  pub inner : BookOf Numbered Slip
  pub spare : ℕ
  pub made : ℕ

-- the entry holds a box, which none does while it is out
abbrev pub has_box : Option (BookEntry Numbered Slip) → Bool
has_box = has_box_by (λ opened. true) (λ kept. false)

-- how many entries hold a box: all but those that are out
abbrev pub box_count : List (Option (BookEntry Numbered Slip)) → ℕ
box_count = box_count_by (λ opened. true) (λ kept. false)

-- how many boxes the book accounts for: the spare ones, and one for each entry, in it or out with its task; the others
-- are lent
abbrev pub boxes : BoxBook → ℕ
boxes book = book.spare + entry_count book.inner

-- how many boxes are in the book, spare or in entries
abbrev pub boxes_inside : BoxBook → ℕ
boxes_inside book = book.spare + box_count book.inner.slots

-- the lent task is out under its key, with the number of its post
abbrev pub IsOut : BoxBook → LentTask → Type 0
IsOut book lent = entry_at book.inner lent.key ≡ Some (Out (slip_of lent))

-- the number of the entry, if it has one, is below this one
abbrev pub IsBelow : ℕ → Option (BookEntry Numbered Slip) → Type 0
IsBelow posted None = Unit {0}
IsBelow posted (Some (Open opened)) = opened.number < posted
IsBelow posted (Some (Out kept)) = kept.number < posted
IsBelow posted (Some (Done work)) = Unit {0}

-- each number in the book is below the count of posts, so that each post has its own number
abbrev pub AreOlder : BookOf Numbered Slip → Type 0
AreOlder inner = (k : ℕ) → IsBelow inner.posted (entry_at inner k)

-- The spare boxes and the entries are at most the boxes that were made. All boxes fit in the list of spare ones.
pub record IsBoxBook (inner : BookOf Numbered Slip) (spare : Vec Task Global) (made : ℕ) : Type 0 where
  pub few : vec_len spare + entry_count inner ≤ made
  pub places : made ≤ vec_capacity spare
  pub older : AreOlder inner

-- the entry is one of this user
abbrev pub is_slot_of : ℕ → Option (BookEntry Numbered Slip) → Bool
is_slot_of = is_of_by (λ opened. user_of_task opened.work) (λ kept. kept.user)

-- a book without entries, whose boxes are all spare
abbrev pub empty_box_book : ℕ → BoxBook
empty_box_book made = record {
  inner = record { slots = []; posted = 0; given = 0; fetched = 0; withdrawn = 0 };
  spare = made;
  made = made;
}

-- the task is open in its box, with the number of this post, under a key that was vacant
pub record PostsBox (old new : BoxBook) (work : Task) (key : ℕ) : Type 0 where
  pub posts : Posts old.inner new.inner (record { number = old.inner.posted; work = work }) key
  pub spare : new.spare ≡ old.spare
  pub made : new.made ≡ old.made
  pub boxes : boxes new ≡ boxes old + 1

-- the task that stood open is out, and its box with it
pub record TakesBox (old new : BoxBook) (lent : LentTask) : Type 0 where
  pub takes : LetsOut old.inner new.inner lent.key (numbered_of lent) (slip_of lent)
  pub spare : new.spare ≡ old.spare
  pub made : new.made ≡ old.made
  pub boxes : boxes new ≡ boxes old

-- the task that was out is open again, in its box
pub record HandsBackBox (old new : BoxBook) (lent : LentTask) : Type 0 where
  pub hands_back : Reopens old.inner new.inner lent.key (slip_of lent) (numbered_of lent)
  pub spare : new.spare ≡ old.spare
  pub made : new.made ≡ old.made
  pub boxes : boxes new ≡ boxes old

-- the task that was out has its result, in its box
pub record GivesBox (old new : BoxBook) (lent : LentTask) : Type 0 where
  pub gives : Finishes old.inner new.inner lent.key (slip_of lent) lent.work
  pub spare : new.spare ≡ old.spare
  pub made : new.made ≡ old.made
  pub boxes : boxes new ≡ boxes old

-- the result has left the book in its box
pub record FetchesBox (old new : BoxBook) (work : Task) (key : ℕ) : Type 0 where
  pub fetches : Fetches old.inner new.inner work key
  pub spare : new.spare ≡ old.spare
  pub made : new.made ≡ old.made
  pub boxes : boxes new + 1 ≡ boxes old

-- every entry of the user has left the book; the boxes in them are spare, and those of tasks that are out are lent
pub record WithdrawsBox (user : ℕ) (old new : BoxBook) : Type 0 where
  pub withdraws : Removes (is_slot_of user) old.inner new.inner
  pub made : new.made ≡ old.made
  pub inside : boxes_inside new ≡ boxes_inside old
  pub boxes : boxes new ≤ boxes old
