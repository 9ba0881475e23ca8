-- The state of the machine: users, connections, workers, and the book of tasks.
use Rattle.std.specs.Prelude.{ℕ, ◌+◌, ◌≤◌, Bool, false, List, [], map, replicate, slice_index_or, slice_set, Option, Some, None}
use Rattle.lj_task.specs.Task.{Task}
use Rattle.lj_session.specs.Owner.{Owner}
use Rattle.lj_wire.specs.declared.item.Item.{Item}
use Rattle.lj_access.specs.declared.user.User.{User}
use Rattle.lj_access.specs.UserRows.{UserRow, first_row}
use Rattle.lj_book.specs.Book.{Book}
use Rattle.lj_world.specs.declared.world_limits.TheConstants.{MAX_CONNECTIONS, MAX_WORKERS}

-- the state of a connection: its ticket waits, it owns the state of its user, or it has left
pub data ConnectionState : Type 0 where
  waiting : ConnectionState
  inside : Owner → ConnectionState
  gone : ConnectionState

-- A connection: the user and the number of its ticket, its state, the items that arrived and are not begun, whether its
-- input has ended, whether it is finished (an item that ends it was answered), and how many tasks are posted and not
-- fetched.
pub record Connection : Type 0 where
  pub user : ℕ
  pub number : ℕ
  pub state : ConnectionState
  pub inbox : List Item
  pub ended : Bool
  pub finished : Bool
  pub posted : ℕ

-- what a worker holds: a task with its key, and whether it is computed
pub record Worker : Type 0 where
  pub key : ℕ
  pub work : Task
  pub computed : Bool

-- The state: a row for each user, a slot for each connection and each worker, numbered from 0, and the book. Slot 0
-- stays empty.
pub record Machine : Type 0 where
  pub rows : List UserRow
  pub connections : List (Option Connection)
  pub workers : List (Option Worker)
  pub book : Book

-- a number of a connection
pub record IsConnection (id : ℕ) : Type 0 where
  pub first : 1 ≤ id
  pub last : id ≤ MAX_CONNECTIONS

-- a number of a worker
pub record IsWorker (id : ℕ) : Type 0 where
  pub first : 1 ≤ id
  pub last : id ≤ MAX_WORKERS

-- the connection of a number, if it is known
abbrev pub connection_at : Machine → ℕ → Option Connection
connection_at s id = slice_index_or s.connections id None

-- what the worker of a number holds
abbrev pub worker_at : Machine → ℕ → Option Worker
worker_at s id = slice_index_or s.workers id None

-- a connection that was granted a ticket just now
abbrev pub new_connection : ℕ → ℕ → Connection
new_connection user number = record {
  user = user;
  number = number;
  state = waiting;
  inbox = [];
  ended = false;
  finished = false;
  posted = 0;
}

-- the connection with another state
abbrev pub with_connection_state : ConnectionState → Connection → Connection
with_connection_state state connection = record connection { state = state }

-- with this connection in the slot of a number
abbrev pub with_connection : ℕ → Connection → Machine → Machine
with_connection id connection s = record s { connections = slice_set s.connections id (Some connection) }

-- with this, or nothing, held by the worker of a number
abbrev pub with_worker : ℕ → Option Worker → Machine → Machine
with_worker id worker s = record s { workers = slice_set s.workers id worker }

abbrev pub with_rows : List UserRow → Machine → Machine
with_rows rows s = record s { rows = rows }

abbrev pub with_book : Book → Machine → Machine
with_book book s = record s { book = book }

-- a book without entries, with all counts 0
abbrev pub empty_book : Book
empty_book = record { slots = []; posted = 0; given = 0; fetched = 0; withdrawn = 0 }

-- the state in which a run begins: these users, no connections, and workers that hold nothing
abbrev pub initial_machine : List User → Machine
initial_machine users = record {
  rows = map first_row users;
  connections = replicate (MAX_CONNECTIONS + 1) None;
  workers = replicate (MAX_WORKERS + 1) None;
  book = empty_book;
}
