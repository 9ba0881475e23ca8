-- The events of a visit besides reads and writes: who is let in, whose state is lent and taken home, and which end of the pool is
-- made.
use Rattle.std.specs.Prelude.{◌≡◌, ℕ, Bool, List, ◌++◌, Option, Some, None, ⊤}
use Rattle.lj_session.specs.UserState.{UserState}
use Rattle.lj_access.specs.UserRows.{Ticket}
use Rattle.lj_end.specs.Seen.{Seen}
use Rattle.lj_visit.specs.declared.shut.NoTicket.{NoTicket}
use Rattle.lj_visit.specs.declared.shut.Shut.{Shut}

-- A ticket is granted to a name and a token, or none is; it enters, and its user's state is
-- lent to it, or it does not; the flag says whether bytes of its client were held while it waited. An end is
-- made for a user; later it is taken back, with what it has seen and how often it was asked for others, and what the pool has of
-- the user is dropped. A state comes home from a ticket. All is closed.
pub data Event : Type 0 where
  granted : List ℕ → List ℕ → Ticket → Event
  ungranted : List ℕ → List ℕ → NoTicket → Event
  entered : Ticket → Bool → UserState → Event
  shut_out : Ticket → Bool → Shut → Event
  opened : ℕ → Event
  withdrawn : ℕ → Seen → ℕ → Event
  left : Ticket → UserState → Event
  closed : Event

-- these events are appended to those that have happened, where they are known
abbrev pub Happens : Option (List Event) → Option (List Event) → List Event → Type 0
Happens None after events = ⊤
Happens (Some before) None events = ⊥
Happens (Some before) (Some after) events = after ≡ before ++ events
