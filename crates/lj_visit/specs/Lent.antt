-- What is lent to a connection, and whether it was lost on purpose.
use Rattle.std.specs.Prelude.{Bool}
use Rattle.lj_session.specs.UserState.{UserState}
use Rattle.lj_access.specs.UserRows.{Ticket}

-- a ticket
pub record LentTicket : Type 0 where
  pub ticket : Ticket
  pub is_lost : Bool

-- the state of the user of a ticket that has entered
pub record LentState : Type 0 where
  pub ticket : Ticket
  pub state : UserState
  pub is_lost : Bool
