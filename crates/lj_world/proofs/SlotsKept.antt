-- The steps of a connection keep the invariant of the machine.
use Rattle.std.proofs.Common.{◌≡◌, ◌≢◌, ℕ, ◌<◌, List, length, set, get_or, slice_get, Option, Some, None, refl, ap, ◌∙◌, sym, subst, inl, inr}
use Rattle.lj_session.specs.UserState.{UserState, with_steps_restarted}
use Rattle.lj_session.specs.Owner.{Owner}
use Rattle.lj_access.specs.UserRows.{UserRow, CanEnter, with_row_changed, without_home, with_home}
use Rattle.lj_book.specs.Book.{Book}
use Rattle.lj_world.specs.declared.event.ConnectionEvent.{ConnectionEvent}
use Rattle.lj_world.specs.Machine.{inside, gone, Connection, Worker, with_connection_state}
use Rattle.lj_world.specs.Connections.{ConnectionView, connection_view}
use Rattle.lj_world.specs.Steps.{ConnectionStep}
use Rattle.lj_world.specs.KnownConnections.{HasRow, KeepsTicket}
use Rattle.lj_world.specs.Machines.{IsMachine}
use Rattle.lj_world.proofs.TicketChanges.{TicketChange, stays, enters, leaves, ticket_change}
use Rattle.lj_world.proofs.RowLemmas.{row_changed}
use Rattle.lj_world.proofs.RowsKept.{has_changed, stays_has, put_connection}

module _ (rows : List UserRow) (connections : List (Option Connection)) (workers : List (Option Worker)) (c : ℕ) (connection : Connection)
    (m : IsMachine rows connections workers) (within : c < length connections) (known : get_or connections c None ≡ Some connection) where
  -- no other connection has the ticket of this one
  unlike : (new : Connection) → new.user ≡ connection.user → new.number ≡ connection.number → (d : ℕ) (other : Connection) → d ≢ c
      → get_or connections d None ≡ Some other → other.user ≡ new.user → other.number ≢ new.number
  unlike new user number d other apart e same_user same_number =
      apart (m.apart d c other connection e known (same_user ∙ user) (same_number ∙ number))

  -- the rows stay, and the connection owns the state only if it did
  pub stays_keeps : (new : Connection) → KeepsTicket connection new → IsMachine rows (set connections c (Some new)) workers
  stays_keeps new kept =
      put_connection rows rows connections workers c new m within (stays_has rows connection new kept (m.known c connection known))
      (λ d other apart e. m.known d other e) (unlike new kept.user kept.number)

  -- the connection enters
  pub enters_keeps : (owner : Owner) (row : UserRow) → slice_get rows connection.user ≡ Some row → CanEnter connection.number row
      → IsMachine (with_row_changed connection.user without_home rows) (set connections c (Some (with_connection_state (inside owner) connection))) workers
  enters_keeps owner row there may =
      put_connection rows (with_row_changed connection.user without_home rows) connections workers c (with_connection_state (inside owner) connection) m within (
        without_home row,
        row_changed rows connection.user without_home row there,
        record {
          granted = may.first.granted;
          entered = λ i. record { first = record { granted = may.first.granted; past = may.first.past }; lent = refl };
        },
      )
      (λ d other apart e. has_changed rows connection.user without_home other (m.known d other e) (λ r at same is. record {
        granted = is.granted;
        entered = λ i. let h = is.entered i in record {
          first = record { granted = h.first.granted; past = h.first.past };
          lent = refl;
        };
      }))
      (unlike (with_connection_state (inside owner) connection) refl refl)

  -- the connection leaves
  pub leaves_keeps : (owner : Owner) (state : UserState) → connection.state ≡ inside owner
      → IsMachine (with_row_changed connection.user (with_home state) rows) (set connections c (Some (with_connection_state gone connection))) workers
  leaves_keeps owner state owns =
      put_connection rows (with_row_changed connection.user (with_home state) rows) connections workers c (with_connection_state gone connection) m within (
        with_home state has.0,
        row_changed rows connection.user (with_home state) has.0 has.1,
        record {
          granted = has.2.granted;
          entered = λ i. let e = i.1 in cc;
        },
      )
      (λ d other apart e. has_changed rows connection.user (with_home state) other (m.known d other e) (λ r at same is. record {
        granted = is.granted;
        entered = λ i.
            let h = is.entered i in
            let row : r ≡ has.0 = cc (at, has.1) in
            let number : other.number ≡ connection.number =
            sym h.first.past ∙ ap (λ (x : UserRow). x.past) row ∙ (has.2.entered (owner, owns)).first.past in
            absurd (apart (m.apart d c other connection e known same number));
      }))
      (unlike (with_connection_state gone connection) refl refl)
    where
      has : HasRow rows connection
      has = m.known c connection known

  ticket_change_keeps : (new : Connection) (after : List UserRow) → TicketChange connection rows new after → IsMachine after (set connections c (Some new)) workers
  ticket_change_keeps new after (stays _ kept) = stays_keeps new kept
  ticket_change_keeps new after (enters owner row there may) = enters_keeps owner row there may
  ticket_change_keeps new after (leaves owner owns) = leaves_keeps owner (with_steps_restarted owner.state) owns

  -- any step of the connection
  pub connection_step_keeps : (event : ConnectionEvent) (book : Book) (text : Option (List ℕ)) (h : ConnectionView) → ConnectionStep event (connection_view connection rows book) text h
      → IsMachine h.rows (set connections c (Some h.connection)) workers
  connection_step_keeps event book text h (inl d) = ticket_change_keeps h.connection h.rows (ticket_change connection rows event book text h d)
  connection_step_keeps event book text h (inr n) =
      subst (λ (x : ConnectionView). IsMachine x.rows (set connections c (Some x.connection)) workers) (sym n.2)
      (stays_keeps connection (record { user = refl; number = refl; was_inside = λ i. i }))
