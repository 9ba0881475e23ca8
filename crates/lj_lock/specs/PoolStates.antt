-- The state under the lock of a pool.
use Rattle.std.specs.Prelude.{◌≡◌, ℕ, ◌+◌, ◌-◌, ◌<◌, ◌≤◌, Bool, false, List, [], ◌∷◌, Option, Some, None, replicate}
use Rattle.lj_task.specs.Task.{Task}
use Rattle.lj_book.specs.Book.{BookOf, Fetches, IsDoneAt}
use Rattle.lj_book.specs.Boxes.{BoxBook, Numbered, PostsBox, Slip, WithdrawsBox, boxes}
use Rattle.lj_end.specs.declared.waking.TheConstants.{WAIT_QUEUES}
use Rattle.lj_lock.specs.EndBoxes.{EndBoxes, TakesInHand, end_box_count}

-- the book, the key from which the next take looks on, how many posts no worker was woken for, how many workers are idle, the wait
-- queues, and whether it is closed
pub record PoolState : Type 0 where
  pub book : BoxBook
  pub next : ℕ
  pub unsignalled : ℕ
  pub idle : ℕ
  pub wait_queues : List ℕ
  pub closed : Bool

-- the state of an open pool with this book, in which no end and no worker waits
abbrev pub open_pool : BoxBook → PoolState
open_pool book = record {
  book = book;
  next = 0;
  unsignalled = 0;
  idle = 0;
  wait_queues = replicate WAIT_QUEUES 0;
  closed = false;
}

-- there is a box to post in: the one at hand if one is lent, else a spare one
abbrev pub HasBox : BoxBook → Option Task → Type 0
HasBox book None = 0 < book.spare
HasBox book (Some task) = boxes book < book.made

-- the book without the box that is posted
abbrev pub lending : Option Task → BoxBook → BoxBook
lending None book = record book { spare = book.spare - 1 }
lending (Some task) book = book

-- A box that was lent is spare again; where none was lent, nothing changes.
pub record PutsBy (old new : BoxBook) : Type 0 where
  pub inner : new.inner ≡ old.inner
  pub made : new.made ≡ old.made
  pub lent : boxes old < old.made → new.spare ≡ old.spare + 1
  pub none : old.made ≤ boxes old → new.spare ≡ old.spare

-- the user has no result in the book
abbrev pub HasNoResult : ℕ → BookOf Numbered Slip → Type 0
HasNoResult user book = (k : ℕ) → ¬ IsDoneAt user book k

-- These results have left the book, one after the other.
abbrev pub FetchesEach : List Task → BookOf Numbered Slip → BookOf Numbered Slip → Type 0
FetchesEach [] old new = new ≡ old
FetchesEach (done ∷ others) old new =
    (next : BookOf Numbered Slip) × ((key : ℕ) × Fetches old next done key) × FetchesEach others next new

-- The task was posted into the book, in the box at hand if there is one, else in a spare one.
abbrev pub PostsIn : Option Task → Task → BoxBook → BoxBook → Type 0
PostsIn boxed work old new = (key : ℕ) × PostsBox (lending boxed old) new work key

-- The task was posted into the book, in the box at hand or in a spare one.
abbrev pub HasPosted : Task → BoxBook → BoxBook → Type 0
HasPosted work old new = (boxed : Option Task) × PostsIn boxed work old new

-- These tasks were posted into the book, one after the other.
abbrev pub PostsEach : List Task → BoxBook → BoxBook → Type 0
PostsEach [] old new = new ≡ old
PostsEach (work ∷ works) old new = (next : BoxBook) × HasPosted work old next × PostsEach works next new

-- No box of the book or of an end is lost, if those of the end were lent.
abbrev pub NoneIsLost : BoxBook → EndBoxes → BoxBook → EndBoxes → Type 0
NoneIsLost old own new others =
    boxes old + end_box_count own ≤ old.made → boxes new + end_box_count others ≡ boxes old + end_box_count own

-- Exactly the results that an end took in hand have left the book.
pub record FetchesInHand (user : ℕ) (old : BoxBook) (own : EndBoxes) (new : BoxBook) (others : EndBoxes) : Type 0 where
  pub takes : TakesInHand user own others
  pub fetches : FetchesEach (takes.first ∷ takes.others) old.inner new.inner

-- the entries of the user have left the book, if there is one user
abbrev pub Withdrawn : Option ℕ → BoxBook → BoxBook → Type 0
Withdrawn None old new = new ≡ old
Withdrawn (Some user) old new = WithdrawsBox user old new

-- What an end had came home: first its boxes, of which none is lost if they were lent, and then the entries of its user.
pub record TakesHome (own : EndBoxes) (user : Option ℕ) (old new : BoxBook) : Type 0 where
  pub spare : ℕ
  pub kept : boxes old + end_box_count own ≤ old.made
      → boxes (record old { spare = spare }) ≡ boxes old + end_box_count own
  pub withdrawn : Withdrawn user (record old { spare = spare }) new
