-- What holds of every known connection: its user has a row, and its ticket stays.
use Rattle.std.specs.Prelude.{◌≡◌, ◌<◌, List, slice_get, Some}
use Rattle.lj_session.specs.Owner.{Owner}
use Rattle.lj_access.specs.UserRows.{UserRow, HasEntered}
use Rattle.lj_world.specs.Machine.{inside, Connection}

-- the connection owns the state of its user
abbrev pub HasOwner : Connection → Type 0
HasOwner connection = (owner : Owner) × (connection.state ≡ inside owner)

-- the row of a connection's user: the ticket was granted, and has entered if the connection owns the state
pub record IsRowOf (connection : Connection) (row : UserRow) : Type 0 where
  pub granted : connection.number < row.granted
  pub entered : HasOwner connection → HasEntered connection.number row

-- the user of a connection has a row with these facts
abbrev pub HasRow : List UserRow → Connection → Type 0
HasRow rows connection = (row : UserRow) × (slice_get rows connection.user ≡ Some row) × IsRowOf connection row

-- the ticket is the same, and the connection owns the state only if it did
pub record KeepsTicket (old new : Connection) : Type 0 where
  pub user : new.user ≡ old.user
  pub number : new.number ≡ old.number
  pub was_inside : HasOwner new → HasOwner old
