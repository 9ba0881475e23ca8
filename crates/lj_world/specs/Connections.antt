-- The transitions of a connection: for each event, when it is possible, the reply, and the view after it. A connection
-- sees itself, the rows of the users and the book. All that is not named stays.
use Rattle.std.specs.Prelude.{◌≡◌, ℕ, ◌+◌, ◌-◌, ◌^◌, ◌<◌, true, false, ◌&&◌, is_some, List, [], ◌∷◌, ◌++◌, slice_get}
use Rattle.std.specs.Prelude.{Option, Some, None, ◌⊎◌}
use Rattle.lj_task.specs.Task.{Task}
use Rattle.lj_session.specs.UserState.{UserState, with_steps_restarted}
use Rattle.lj_session.specs.Owner.{Owner, owner_of_state, is_busy, next_task_of, with_task_posted, IsAwaitedIn, with_task_in}
use Rattle.lj_wire.specs.declared.item.Item.{Item}
use Rattle.lj_wire.specs.Items.{is_ending}
use Rattle.lj_access.specs.UserRows.{UserRow, CanEnter, with_row_changed, without_home, with_home}
use Rattle.lj_book.specs.declared.book_entry.TheConstants.{MAX_ENTRIES}
use Rattle.lj_book.specs.Book.{Book, entry_count, Posts, Fetches, Withdraws}
use Rattle.lj_world.specs.declared.event.ConnectionEvent.{ConnectionEvent}
use Rattle.lj_world.specs.declared.event.ConnectionEvent.TheVariants.{Arrive, End, Enter, Next, Post, Fetch, Turn, Leave}
use Rattle.lj_world.specs.declared.world_limits.TheConstants.{MAX_POSTED}
use Rattle.lj_world.specs.Machine.{waiting, inside, gone, Connection, with_connection_state}
use Rattle.lj_world.specs.OwnerReplies.{Begins, CanTurn, TurnsTo}

-- what a connection sees: itself, the rows and the book
pub record ConnectionView : Type 0 where
  pub connection : Connection
  pub rows : List UserRow
  pub book : Book

abbrev pub connection_view : Connection → List UserRow → Book → ConnectionView
connection_view connection rows book = record { connection = connection; rows = rows; book = book }

-- the view with another connection
abbrev pub view_with_connection : Connection → ConnectionView → ConnectionView
view_with_connection connection h = record h { connection = connection }

-- ARRIVE: the input has not ended. The item is appended to the inbox.
pub record Receives (item : Item) (old : ConnectionView) (text : Option (List ℕ)) (new : ConnectionView)
    : Type 0 where
  pub no_reply : text ≡ None
  pub not_ended : old.connection.ended ≡ false
  pub next : new
      ≡ view_with_connection (record old.connection { inbox = old.connection.inbox ++ item ∷ [] }) old

-- END: always possible. The input has ended, and no more items arrive.
pub record Closes (old : ConnectionView) (text : Option (List ℕ)) (new : ConnectionView) : Type 0 where
  pub no_reply : text ≡ None
  pub next : new ≡ view_with_connection (record old.connection { ended = true }) old

-- ENTER: the connection waits, its ticket is the user's first one that has not left, and the state is at home. The
-- connection owns the state then, and each open step is begun anew.
pub record Enters (old : ConnectionView) (text : Option (List ℕ)) (new : ConnectionView) : Type 0 where
  pub no_reply : text ≡ None
  pub waits : old.connection.state ≡ waiting
  pub row : UserRow
  pub there : slice_get old.rows old.connection.user ≡ Some row
  pub may_enter : CanEnter old.connection.number row
  pub state : UserState
  pub home : row.home ≡ Some state
  pub next : new ≡ record old {
    connection = with_connection_state (inside (owner_of_state state old.connection.user)) old.connection;
    rows = with_row_changed old.connection.user without_home old.rows;
  }

-- The connection owns the state of its user, no command is pending, the connection is not finished, and this item is the
-- first of its inbox.
pub record CanBegin (connection : Connection) (owner : Owner) (item : Item) (items : List Item) : Type 0 where
  pub owns : connection.state ≡ inside owner
  pub idle : owner.waiting ≡ None
  pub not_finished : connection.finished ≡ false
  pub inbox : connection.inbox ≡ item ∷ items

-- NEXT: the first item of the inbox is begun. It is answered at once, or becomes the pending command.
pub record BeginsNext (old : ConnectionView) (text : Option (List ℕ)) (new : ConnectionView) : Type 0 where
  pub owner : Owner
  pub item : Item
  pub items : List Item
  pub can : CanBegin old.connection owner item items
  pub after : Owner
  pub begins : Begins owner item text after
  pub next : new ≡ view_with_connection (record old.connection {
    state = inside after;
    inbox = items;
    finished = is_some text
        && is_ending item;
  }) old

-- POST: some session has a task that is not posted yet, fewer than 64 are posted and not fetched, and the book is not full. The
-- first task of the first of these sessions is posted.
pub record PostsNext (old : ConnectionView) (text : Option (List ℕ)) (new : ConnectionView) : Type 0 where
  pub no_reply : text ≡ None
  pub owner : Owner
  pub owns : old.connection.state ≡ inside owner
  pub work : Task
  pub task : next_task_of owner ≡ Some work
  pub few : old.connection.posted < MAX_POSTED
  pub room : entry_count old.book < MAX_ENTRIES
  pub counted : old.book.posted < 2 ^ 64 - 1
  pub key : ℕ
  pub posts : Posts old.book new.book work key
  pub next : new ≡ record old {
    connection = record old.connection {
      state = inside (with_task_posted owner);
      posted = old.connection.posted + 1;
    };
    book = new.book;
  }

-- the owner receives a result: it accepts one that the step of the session awaits, and drops any other
abbrev pub IsGiven : Owner → Task → Owner → Type 0
IsGiven owner work next =
    IsAwaitedIn owner work × (next ≡ with_task_in work owner) ⊎ (¬ IsAwaitedIn owner work) × (next ≡ owner)

-- FETCH: some session has a pending step, and the book has a result of this user. The result leaves the book, and the
-- owner receives it.
pub record FetchesNext (old : ConnectionView) (text : Option (List ℕ)) (new : ConnectionView) : Type 0 where
  pub no_reply : text ≡ None
  pub owner : Owner
  pub owns : old.connection.state ≡ inside owner
  pub busy : is_busy owner ≡ true
  pub key : ℕ
  pub work : Task
  pub of_user : work.name.label.user ≡ old.connection.user
  pub fetches : Fetches old.book new.book work key
  pub after : Owner
  pub given : IsGiven owner work after
  pub next : new ≡ record old {
    connection = record old.connection { state = inside after; posted = old.connection.posted - 1 };
    book = new.book;
  }

-- TURN: the named session or, if none is named, the first that is ready, has a step to turn. It advances by one step,
-- and the pending command is answered if that was its last turn.
pub record TurnsNext (session : Option (List ℕ)) (old : ConnectionView) (text : Option (List ℕ))
    (new : ConnectionView) : Type 0 where
  pub owner : Owner
  pub owns : old.connection.state ≡ inside owner
  pub name : List ℕ
  pub can : CanTurn session owner name
  pub after : Owner
  pub turns : TurnsTo owner name text after
  pub next : new ≡ view_with_connection (with_connection_state (inside after) old.connection) old

-- nothing is left to answer: the input has ended and the inbox is empty, or the connection is finished
abbrev pub IsDone : Connection → Type 0
IsDone connection = (connection.ended ≡ true) × (connection.inbox ≡ []) ⊎ (connection.finished ≡ true)

-- LEAVE: the connection owns the state, no command is pending, and nothing is left to answer. All entries of the user
-- are withdrawn from the book, and the state returns home with its pending steps, each open step begun anew.
pub record Leaves (old : ConnectionView) (text : Option (List ℕ)) (new : ConnectionView) : Type 0 where
  pub no_reply : text ≡ None
  pub owner : Owner
  pub owns : old.connection.state ≡ inside owner
  pub idle : owner.waiting ≡ None
  pub done : IsDone old.connection
  pub withdraws : Withdraws old.connection.user old.book new.book
  pub next : new ≡ record {
    connection = with_connection_state gone old.connection;
    rows = with_row_changed old.connection.user (with_home (with_steps_restarted owner.state)) old.rows;
    book = new.book;
  }

-- The event is possible, this is replied or nothing, and this is the view after it.
abbrev pub ConnectionTransition : ConnectionEvent → ConnectionView → Option (List ℕ) → ConnectionView → Type 0
ConnectionTransition (Arrive item) old text new = Receives item old text new
ConnectionTransition End old text new = Closes old text new
ConnectionTransition Enter old text new = Enters old text new
ConnectionTransition Next old text new = BeginsNext old text new
ConnectionTransition Post old text new = PostsNext old text new
ConnectionTransition (Fetch pick) old text new = FetchesNext old text new
ConnectionTransition (Turn session) old text new = TurnsNext session old text new
ConnectionTransition Leave old text new = Leaves old text new
