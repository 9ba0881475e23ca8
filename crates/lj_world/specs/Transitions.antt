-- The transitions of the machine: for each event, when it is possible, the reply, and the state after it. All that is
-- not named stays.
use Rattle.std.specs.Prelude.{◌≡◌, ℕ, List, slice_get, Option, Some, None}
use Rattle.std.specs.Option.{option_map}
use Rattle.lj_access.specs.UserRows.{UserRow, user_with, HasTicketLeft, with_row_changed, with_ticket}
use Rattle.lj_world.specs.declared.event.Event.{Event}
use Rattle.lj_world.specs.declared.event.Event.TheVariants.{Hello, At, By}
use Rattle.lj_world.specs.declared.event.ConnectionEvent.{ConnectionEvent}
use Rattle.lj_world.specs.declared.event.WorkerEvent.{WorkerEvent}
use Rattle.lj_world.specs.declared.transcript.Entry.{Entry}
use Rattle.lj_world.specs.Machine.{Connection, Machine, IsConnection, IsWorker, connection_at, worker_at, new_connection, with_connection, with_worker, with_rows, with_book}
use Rattle.lj_world.specs.Connections.{ConnectionView, connection_view, ConnectionTransition}
use Rattle.lj_world.specs.Workers.{WorkerView, worker_view, WorkerTransition}

-- HELLO: the connection is new, and a user with this name and token has a ticket left. The connection has the user's
-- next ticket and an empty inbox.
pub record HelloTransition (old : Machine) (id : ℕ) (name token : List ℕ) (new : Machine) : Type 0 where
  pub within : IsConnection id
  pub is_new : connection_at old id ≡ None
  pub user : ℕ
  pub named : user_with old.rows name token ≡ Some user
  pub row : UserRow
  pub there : slice_get old.rows user ≡ Some row
  pub left : HasTicketLeft row
  pub next : new
      ≡ with_connection id (new_connection user row.granted)
      (with_rows (with_row_changed user with_ticket old.rows) old)

-- a reply to a connection
abbrev pub reply_entry : ℕ → Connection → List ℕ → Entry
reply_entry id connection text = record { user = connection.user; connection = id; text = text }

-- with this view in place of a connection, the rows and the book
abbrev pub with_connection_view : ℕ → ConnectionView → Machine → Machine
with_connection_view id h s = with_connection id h.connection (with_rows h.rows (with_book h.book s))

-- An event at a connection: the connection is known, and the event is possible there. The text is replied, if any.
pub record TransitionAt (old : Machine) (id : ℕ) (event : ConnectionEvent) (reply : Option Entry) (new : Machine)
    : Type 0 where
  pub connection : Connection
  pub known : connection_at old id ≡ Some connection
  pub text : Option (List ℕ)
  pub after : ConnectionView
  pub transition : ConnectionTransition event (connection_view connection old.rows old.book) text after
  pub replies : reply ≡ option_map (reply_entry id connection) text
  pub next : new ≡ with_connection_view id after old

-- with this view in place of what a worker holds, and the book
abbrev pub with_worker_view : ℕ → WorkerView → Machine → Machine
with_worker_view id b s = with_worker id b.worker (with_book b.book s)

-- An event at a worker: it is possible there.
pub record TransitionBy (old : Machine) (id : ℕ) (event : WorkerEvent) (new : Machine) : Type 0 where
  pub within : IsWorker id
  pub after : WorkerView
  pub transition : WorkerTransition event (worker_view (worker_at old id) old.book) after
  pub next : new ≡ with_worker_view id after old

-- The event is possible, this is replied or nothing, and this is the state after it.
unfoldable pub Transition : Machine → Event → Option Entry → Machine → Type 0
Transition old (Hello id name token) reply new = (reply ≡ None) × HelloTransition old id name token new
Transition old (At id event) reply new = TransitionAt old id event reply new
Transition old (By id event) reply new = (reply ≡ None) × TransitionBy old id event new
