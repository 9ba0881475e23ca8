-- What the pick of a TAKE or a FETCH decides: which entry of the book changes. A step alone may change any.
use Rattle.std.specs.Prelude.{◌≡◌, ◌≢◌, ℕ, List, Option, Some}
use Rattle.lj_access.specs.declared.user.User.{User}
use Rattle.lj_book.specs.Picks.{IsPick}
use Rattle.lj_book.specs.Book.{Book, entry_at, IsOpenAt, IsDoneAt}
use Rattle.lj_world.specs.declared.event.Event.{Event}
use Rattle.lj_world.specs.declared.event.Event.TheVariants.{Hello, At, By}
use Rattle.lj_world.specs.declared.event.ConnectionEvent.{ConnectionEvent}
use Rattle.lj_world.specs.declared.event.ConnectionEvent.TheVariants.{Fetch}
use Rattle.lj_world.specs.declared.event.WorkerEvent.{WorkerEvent}
use Rattle.lj_world.specs.declared.event.WorkerEvent.TheVariants.{Take}
use Rattle.lj_world.specs.declared.transcript.Entry.{Entry}
use Rattle.lj_world.specs.Machine.{Connection, Machine, initial_machine, connection_at}
use Rattle.lj_world.specs.Runs.{Step, RunBy}

-- Only the entry of the picked key changes: the least key from the pick on that passes, else the least key that passes.
abbrev pub ChangesPicked : (ℕ → Type 0) → ℕ → Book → Book → Type 0
ChangesPicked Passes pick old new = (key : ℕ) → entry_at new key ≢ entry_at old key → IsPick Passes pick key

-- an event at a connection of this user: a FETCH changes the picked result of the user
abbrev pub ConnectionFollowsPick : ConnectionEvent → ℕ → Book → Book → Type 0
ConnectionFollowsPick (Fetch pick) user old new = ChangesPicked (IsDoneAt user old) pick old new
ConnectionFollowsPick _ user old new = Unit {0}

-- an event at a worker: a TAKE changes the picked open task
abbrev pub WorkerFollowsPick : WorkerEvent → Book → Book → Type 0
WorkerFollowsPick (Take pick) old new = ChangesPicked (IsOpenAt old) pick old new
WorkerFollowsPick _ old new = Unit {0}

-- THE PICK DECIDES: a worker takes the picked one of the open tasks, and a connection fetches the picked one of its
-- user's results.
abbrev pub FollowsPick : Machine → Event → Machine → Type 0
FollowsPick old (Hello id name token) new = Unit {0}
FollowsPick old (At id event) new =
    (connection : Connection) → connection_at old id ≡ Some connection
    → ConnectionFollowsPick event connection.user old.book new.book
FollowsPick old (By id event) new = WorkerFollowsPick event old.book new.book

-- a step in which the pick decides
abbrev pub PickedStep : Machine → Event → Option Entry → Machine → Type 0
PickedStep old event reply new = Step old event reply new × FollowsPick old event new

-- These replies are the whole transcript of a run over just these events in which each pick decides.
abbrev pub IsPickedTranscript : List User → List Event → List Entry → Type 0
IsPickedTranscript users events replies = (last : Machine) × RunBy PickedStep (initial_machine users) events replies last
