-- The contents of a book, and how each call changes it.
use Rattle.std.specs.Prelude.{◌≡◌, ◌≢◌, ℕ, ◌+◌, ◌-◌, ◌^◌, ◌≤◌, ◌<◌, Bool, true, false, List, Option, Some, None, is_some, count_by, cond, nat_eq, slice_index_or, length}
use Rattle.slab.specs.Slab.{Slab, get, slab_len}
use Rattle.lj_task.specs.Task.{Task}
use Rattle.lj_book.specs.declared.key_states.KeyState.{KeyState}
use Rattle.lj_book.specs.declared.key_states.KeyState.TheVariants.{Vacant, ToTake, Taken, ToFetch}
use Rattle.lj_book.specs.declared.book_entry.TheConstants.{MAX_ENTRIES}
use Rattle.lj_book.specs.KeyStates.{key_state_at}
pub use Rattle.lj_book.specs.declared.book_entry.BookEntry.{BookEntry}
pub use Rattle.lj_book.specs.declared.book_entry.BookEntry.TheVariants.{Open, Out, Done}

-- the entry or None under each key from 0 on, and how many tasks were ever posted, results given, results fetched, and
-- entries withdrawn. P is the type of open entries, and K that of what is stored while one is out.
pub record BookOf (P K : Type 0) : Type 0 where
  pub slots : List (Option (BookEntry P K))
  pub posted : ℕ
  pub given : ℕ
  pub fetched : ℕ
  pub withdrawn : ℕ

-- a book that stores the task itself while it is out
abbrev pub Book : Type 0
Book = BookOf Task Task

-- the user of a task
abbrev pub user_of_task : Task → ℕ
user_of_task work = work.name.label.user

module _ {P K : Type 0} where
  -- the entry under a key
  abbrev pub entry_at : BookOf P K → ℕ → Option (BookEntry P K)
  entry_at inner key = slice_index_or inner.slots key None

  -- the number of entries
  abbrev pub entry_count : BookOf P K → ℕ
  entry_count inner = count_by is_some inner.slots

  -- there is room for one more entry, and one more post can be counted
  abbrev pub HasRoom : BookOf P K → Type 0
  HasRoom inner = (entry_count inner < MAX_ENTRIES) × (inner.posted < 2 ^ 64 - 1)

  -- the state of the entry under a key
  abbrev pub key_state_of : Option (BookEntry P K) → KeyState
  key_state_of None = Vacant
  key_state_of (Some (Open opened)) = ToTake
  key_state_of (Some (Out kept)) = Taken
  key_state_of (Some (Done work)) = ToFetch work.name.label.user

  -- what is stored for an entry that is out
  abbrev pub kept_at : Option (BookEntry P K) → Option K
  kept_at None = None
  kept_at (Some (Open opened)) = None
  kept_at (Some (Out kept)) = Some kept
  kept_at (Some (Done work)) = None

  -- the entry under the key is open
  abbrev pub IsOpenAt : BookOf P K → ℕ → Type 0
  IsOpenAt inner key = key_state_of (entry_at inner key) ≡ ToTake

  -- the entry under the key is a result of this user
  abbrev pub IsDoneAt : ℕ → BookOf P K → ℕ → Type 0
  IsDoneAt user inner key = key_state_of (entry_at inner key) ≡ ToFetch user

  -- this is the entry under the key, and every other key has its old one
  pub record Puts (old new : BookOf P K) (key : ℕ) (slot : Option (BookEntry P K)) : Type 0 where
    pub changed : entry_at new key ≡ slot
    pub others : (k : ℕ) → k ≢ key → entry_at new k ≡ entry_at old k

  -- the task is open under a key that was vacant, and is counted
  pub record Posts (old new : BookOf P K) (opened : P) (key : ℕ) : Type 0 where
    pub was : entry_at old key ≡ None
    pub puts : Puts old new key (Some (Open opened))
    pub posted : new.posted ≡ old.posted + 1
    pub given : new.given ≡ old.given
    pub fetched : new.fetched ≡ old.fetched
    pub withdrawn : new.withdrawn ≡ old.withdrawn

  -- no count has changed
  pub record SameCounts (old new : BookOf P K) : Type 0 where
    pub posted : new.posted ≡ old.posted
    pub given : new.given ≡ old.given
    pub fetched : new.fetched ≡ old.fetched
    pub withdrawn : new.withdrawn ≡ old.withdrawn

  -- the entry that was open under the key is out, and this is stored for it
  pub record LetsOut (old new : BookOf P K) (key : ℕ) (opened : P) (kept : K) : Type 0 where
    pub was : entry_at old key ≡ Some (Open opened)
    pub puts : Puts old new key (Some (Out kept))
    pub counts : SameCounts old new

  -- the entry that was out under the key is open again
  pub record Reopens (old new : BookOf P K) (key : ℕ) (kept : K) (opened : P) : Type 0 where
    pub was : entry_at old key ≡ Some (Out kept)
    pub puts : Puts old new key (Some (Open opened))
    pub counts : SameCounts old new

  -- the entry that was out under the key has its result, which is counted
  pub record Finishes (old new : BookOf P K) (key : ℕ) (kept : K) (work : Task) : Type 0 where
    pub was : entry_at old key ≡ Some (Out kept)
    pub puts : Puts old new key (Some (Done work))
    pub posted : new.posted ≡ old.posted
    pub given : new.given ≡ old.given + 1
    pub fetched : new.fetched ≡ old.fetched
    pub withdrawn : new.withdrawn ≡ old.withdrawn

  -- the result under the key has left the book, and is counted
  pub record Fetches (old new : BookOf P K) (work : Task) (key : ℕ) : Type 0 where
    pub was : entry_at old key ≡ Some (Done work)
    pub puts : Puts old new key None
    pub posted : new.posted ≡ old.posted
    pub given : new.given ≡ old.given
    pub fetched : new.fetched ≡ old.fetched + 1
    pub withdrawn : new.withdrawn ≡ old.withdrawn

  -- the entry is a task without its result
  abbrev pub is_waiting : Option (BookEntry P K) → Bool
  is_waiting None = false
  is_waiting (Some (Open opened)) = true
  is_waiting (Some (Out kept)) = true
  is_waiting (Some (Done work)) = false

  -- how many tasks have no result yet
  abbrev pub waiting_count : List (Option (BookEntry P K)) → ℕ
  waiting_count slots = count_by is_waiting slots

  -- 1 for a task without its result, else 0
  abbrev pub weight : Option (BookEntry P K) → ℕ
  weight slot = cond (is_waiting slot) 1 0

  -- the invariant of a book
  pub record IsBook (slab : Slab (BookEntry P K)) (key_states : List KeyState) (posted given fetched withdrawn : ℕ) : Type 0 where
    pub balance : posted ≡ fetched + withdrawn + slab_len slab
    pub given_or_waiting : given + waiting_count slab.slots ≤ posted
    pub most : slab_len slab ≤ MAX_ENTRIES
    pub room : MAX_ENTRIES ≤ slab.capacity
    pub keys : length key_states ≡ slab.capacity
    pub marked : (k : ℕ) → key_state_at key_states k ≡ key_state_of (get slab k)

  module _ (mine : Option (BookEntry P K) → Bool) where
    -- the entry, unless it is to be withdrawn
    abbrev pub slot_left : Option (BookEntry P K) → Option (BookEntry P K)
    slot_left slot = cond (mine slot) None slot

    -- the entry under the key has left the book if it was to be withdrawn, and is counted
    pub record RemovesAt (key : ℕ) (old new : BookOf P K) : Type 0 where
      pub puts : Puts old new key (slot_left (entry_at old key))
      pub counted : new.withdrawn + entry_count new ≡ old.withdrawn + entry_count old
      pub posted : new.posted ≡ old.posted
      pub given : new.given ≡ old.given
      pub fetched : new.fetched ≡ old.fetched

    -- every entry that was to be withdrawn has left the book, and these are counted
    pub record Removes (old new : BookOf P K) : Type 0 where
      pub slots : (k : ℕ) → entry_at new k ≡ slot_left (entry_at old k)
      pub counted : new.withdrawn + entry_count new ≡ old.withdrawn + entry_count old
      pub posted : new.posted ≡ old.posted
      pub given : new.given ≡ old.given
      pub fetched : new.fetched ≡ old.fetched

    -- every entry below this key that was to be withdrawn has left the book so far
    pub record RemovesBelow (old new : BookOf P K) (key : ℕ) : Type 0 where
      pub below : (k : ℕ) → k < key → entry_at new k ≡ slot_left (entry_at old k)
      pub others : (k : ℕ) → key ≤ k → entry_at new k ≡ entry_at old k
      pub counted : new.withdrawn + entry_count new ≡ old.withdrawn + entry_count old
      pub posted : new.posted ≡ old.posted
      pub given : new.given ≡ old.given
      pub fetched : new.fetched ≡ old.fetched

  -- the user of an entry, by the user of an open one, and of what is stored
  abbrev pub whose_by : (P → ℕ) → (K → ℕ) → BookEntry P K → ℕ
  whose_by of_open of_kept (Open opened) = of_open opened
  whose_by of_open of_kept (Out kept) = of_kept kept
  whose_by of_open of_kept (Done work) = user_of_task work

  -- the entry is one of this user
  abbrev pub is_of_by : (P → ℕ) → (K → ℕ) → ℕ → Option (BookEntry P K) → Bool
  is_of_by of_open of_kept user None = false
  is_of_by of_open of_kept user (Some entry) = nat_eq (whose_by of_open of_kept entry) user

-- the task that was open under the key is out
abbrev pub Takes : Book → Book → ℕ → Task → Type 0
Takes old new key work = LetsOut old new key work work

-- the task that was out under the key is open again
abbrev pub HandsBack : Book → Book → ℕ → Task → Type 0
HandsBack old new key work = Reopens old new key work work

-- the task that was out under the key has its result, which is counted
abbrev pub Gives : Book → Book → ℕ → Task → Type 0
Gives old new key work = Finishes old new key work work

-- the entry is one of this user
abbrev pub is_of_user : ℕ → Option (BookEntry Task Task) → Bool
is_of_user user = is_of_by user_of_task user_of_task user

-- every entry of the user has left the book, and these are counted
abbrev pub Withdraws : ℕ → Book → Book → Type 0
Withdraws user old new = Removes (is_of_user user) old new
