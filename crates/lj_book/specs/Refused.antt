-- Boxes that are refused for ever.
use Rattle.std.specs.Prelude.{◌≡◌, ◌≢◌, ℕ, zero, suc, ◌<◌, Option, Some, None}
use Rattle.lj_task.specs.Task.{Task}
use Rattle.lj_book.specs.Book.{BookEntry, Open, Out, Done, entry_at}
use Rattle.lj_book.specs.Boxes.{BoxBook, FetchesBox, GivesBox, HandsBackBox, LentTask, Numbered, PostsBox, Slip, TakesBox, WithdrawsBox}

-- the number of the post of an entry without its result
abbrev pub number_at : Option (BookEntry Numbered Slip) → Option ℕ
number_at None = None
number_at (Some (Open opened)) = Some opened.number
number_at (Some (Out kept)) = Some kept.number
number_at (Some (Done work)) = None

-- the lent task is no longer under its key, and later posts have greater numbers
pub record HasLeft (book : BoxBook) (lent : LentTask) : Type 0 where
  pub number : lent.number < book.inner.posted
  pub gone : number_at (entry_at book.inner lent.key) ≢ Some lent.number

-- one call changes the book
pub data Changes (old new : BoxBook) : Type 0 where
  Posting : (work : Task) (key : ℕ) → PostsBox old new work key → Changes old new
  Taking : (lent : LentTask) → TakesBox old new lent → Changes old new
  Giving : (lent : LentTask) → GivesBox old new lent → Changes old new
  Handing_back : (lent : LentTask) → HandsBackBox old new lent → Changes old new
  Fetching : (work : Task) (key : ℕ) → FetchesBox old new work key → Changes old new
  Withdrawing : (user : ℕ) → WithdrawsBox user old new → Changes old new
  Stocking : new.inner ≡ old.inner → Changes old new

-- this many calls change the book, one after the other
abbrev pub Runs : ℕ → BoxBook → BoxBook → Type 0
Runs zero old new = new ≡ old
Runs (suc calls) old new = (next : BoxBook) × Changes old next × Runs calls next new
