-- The effect of a transition on a ticket and on the rows of the users: both stay, or the connection enters or leaves.
use Rattle.std.proofs.Common.{◌≡◌, ℕ, List, slice_get, Option, Some, refl, sym, ◌∙◌, subst}
use Rattle.lj_session.specs.UserState.{with_steps_restarted}
use Rattle.lj_session.specs.Owner.{Owner}
use Rattle.lj_access.specs.UserRows.{UserRow, CanEnter, with_row_changed, without_home, with_home}
use Rattle.lj_book.specs.Book.{Book}
use Rattle.lj_world.specs.declared.event.ConnectionEvent.{ConnectionEvent}
use Rattle.lj_world.specs.declared.event.ConnectionEvent.TheVariants.{Arrive, End, Enter, Next, Post, Fetch, Turn, Leave}
use Rattle.lj_world.specs.Machine.{inside, gone, Connection, with_connection_state}
use Rattle.lj_world.specs.Connections.{ConnectionView, connection_view, ConnectionTransition}
use Rattle.lj_world.specs.KnownConnections.{KeepsTicket}

-- what becomes of the connection and of the rows
pub data TicketChange (connection : Connection) (rows : List UserRow) : Connection → List UserRow → Type 0 where
  stays : (new : Connection) → KeepsTicket connection new → TicketChange connection rows new rows
  enters : (owner : Owner) (row : UserRow) → slice_get rows connection.user ≡ Some row → CanEnter connection.number row
      → TicketChange connection rows (with_connection_state (inside owner) connection) (with_row_changed connection.user without_home rows)
  leaves : (owner : Owner) → connection.state ≡ inside owner
      → TicketChange connection rows (with_connection_state gone connection) (with_row_changed connection.user (with_home (with_steps_restarted owner.state)) rows)

module _ (connection : Connection) (rows : List UserRow) where
  abbrev ChangesTo : ConnectionView → Type 0
  ChangesTo h = TicketChange connection rows h.connection h.rows

  -- it owns the state as much as it did
  as_before : (new : Connection) → new.user ≡ connection.user → new.number ≡ connection.number → new.state ≡ connection.state → TicketChange connection rows new rows
  as_before new user number state = stays new (record { user = user; number = number; was_inside = λ i. (i.0, sym state ∙ i.1) })

  -- it was inside, and may be inside still
  was_inside : (new : Connection) (owner : Owner) → connection.state ≡ inside owner → new.user ≡ connection.user → new.number ≡ connection.number → TicketChange connection rows new rows
  was_inside new owner owns user number = stays new (record { user = user; number = number; was_inside = λ i. (owner, owns) })

  pub ticket_change : (event : ConnectionEvent) (book : Book) (text : Option (List ℕ)) (h : ConnectionView) → ConnectionTransition event (connection_view connection rows book) text h
      → TicketChange connection rows h.connection h.rows
  ticket_change (Arrive item) book text h d = subst ChangesTo (sym d.next) (as_before _ refl refl refl)
  ticket_change End book text h d = subst ChangesTo (sym d.next) (as_before _ refl refl refl)
  ticket_change Enter book text h d = subst ChangesTo (sym d.next) (enters _ d.row d.there d.may_enter)
  ticket_change Next book text h d = subst ChangesTo (sym d.next) (was_inside _ d.owner d.can.owns refl refl)
  ticket_change Post book text h d = subst ChangesTo (sym d.next) (was_inside _ d.owner d.owns refl refl)
  ticket_change (Fetch pick) book text h d = subst ChangesTo (sym d.next) (was_inside _ d.owner d.owns refl refl)
  ticket_change (Turn session) book text h d = subst ChangesTo (sym d.next) (was_inside _ d.owner d.owns refl refl)
  ticket_change Leave book text h d = subst ChangesTo (sym d.next) (leaves d.owner d.owns)
