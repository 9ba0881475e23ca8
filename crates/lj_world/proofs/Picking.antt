-- The pick decides if the picked entry of the book changes, or none does.
use Rattle.std.proofs.Common.{ℕ, Option, refl, sym, subst, inl, inr}
use Rattle.std.proofs.lemmas.Bool.{cases_eq}
use Rattle.lj_task.specs.Task.{Task}
use Rattle.lj_book.specs.Picks.{IsPick}
use Rattle.lj_book.specs.declared.book_entry.BookEntry.{BookEntry}
use Rattle.lj_book.specs.Book.{Book, Puts}
use Rattle.lj_world.specs.declared.event.WorkerEvent.{WorkerEvent}
use Rattle.lj_world.specs.declared.event.WorkerEvent.TheVariants.{Take, Compute, Give, HandBack}
use Rattle.lj_world.specs.Picked.{ChangesPicked, WorkerFollowsPick}

-- the picked one changes
pub puts_picked : (Passes : ℕ → Type 0) (pick : ℕ) (old new : Book) (key : ℕ) (slot : Option (BookEntry Task Task)) → Puts old new key slot
    → IsPick Passes pick key → ChangesPicked Passes pick old new
puts_picked Passes pick old new key slot puts is k changes = elim (cases_eq k key) [
  | inl same ↦ subst (IsPick Passes pick) (sym same) is
  | inr apart ↦ absurd (changes (puts.others k apart))
]

-- an event at a worker that changes nothing
pub still_follows : (event : WorkerEvent) (book : Book) → WorkerFollowsPick event book book
still_follows (Take pick) book = λ key changes. absurd (changes refl)
still_follows Compute book = tt
still_follows Give book = tt
still_follows HandBack book = tt
