-- The history of a user: the states that came home, in order, and the rule by which it grows.
use Rattle.std.specs.Prelude.{ℕ, ◌≡◌, true, List, [], ◌∷◌, ◌++◌, Option, Some, slice_get, slice_index_or}
use Rattle.logbook.specs.Pages.{Cell, Step, View, Book, Named}
use Rattle.lj_session.specs.UserState.{UserState}

-- what was seen of the history of the user of this number
pub record UserHistory : Type 0 where
  pub user : ℕ
  pub states : List UserState

-- the history of one user: which one it is, and the states
pub record OneHistory : Type 0 where
  pub book : Book
  pub states : List UserState

-- the two words of a history never change, whatever states it has
abbrev pub IsHistory : List Cell → List UserState → Type 0
IsHistory cells states = cells ≡ (0, true) ∷ (0, true) ∷ []

-- the first word of a history
abbrev pub first_word : Book → Named
first_word book = record { tracked = true; key = 0; book = book }

-- no history
abbrev pub no_book : Book
no_book = record { number = 0; log_name = 0; cells_name = 0 }

-- a state was noted, as the last one of all that are in the history then
abbrev pub HasNoted : List UserState → UserState → List UserState → Type 0
HasNoted before state after = (others : List UserState) × (after ≡ (before ++ others) ++ state ∷ [])

-- what a step that notes a state tells
abbrev pub NotesState : Step UserState → View UserState ℕ → ℕ → View UserState ℕ → Type 0
NotesState step before found after = HasNoted before.0 step.ask after.0

-- the history at each place is that of the user of this number
abbrev pub AreNamed : (ℕ → Book) → List OneHistory → Type 0
AreNamed books histories = (user : ℕ) (history : OneHistory) → slice_get histories user ≡ Some history → history.book ≡ books user

-- which history is at a place
abbrev pub book_at : List OneHistory → ℕ → Book
book_at histories user = (slice_index_or histories user (record { book = no_book; states = [] })).book

-- the last of these states, or a first one if there is none
abbrev pub latest_state : Option UserState → List UserState → Option UserState
latest_state first [] = first
latest_state first (state ∷ states) = latest_state (Some state) states
