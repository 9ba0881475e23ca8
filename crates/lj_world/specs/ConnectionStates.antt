-- The state of a connection in the code, and the ticket that the connection holds in it.
use Rattle.std.specs.Prelude.{◌≡◌, ℕ, Option, Some}
use Rattle.lj_access.specs.UserRows.{Ticket}
use Rattle.lj_world.specs.declared.connection_state.ConnectionState.{ConnectionState as StateInCode}
use Rattle.lj_world.specs.declared.connection_state.ConnectionState.TheVariants.{Waiting, Inside, Gone}
use Rattle.lj_world.specs.Machine.{ConnectionState, waiting, inside, gone}

-- the state that the code represents
abbrev pub state_of : StateInCode → ConnectionState
state_of Waiting = waiting
state_of (Inside owner) = inside owner
state_of Gone = gone

-- until it has left, a connection holds the ticket of its user and its number
abbrev pub HoldsTicket : StateInCode → Option Ticket → ℕ → ℕ → Type 0
HoldsTicket Gone ticket user number = Unit {0}
HoldsTicket _ ticket user number = ticket ≡ Some (record { user = user; number = number })
