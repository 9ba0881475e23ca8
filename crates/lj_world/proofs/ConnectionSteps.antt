-- The steps of a connection, from the contracts of the calls that it makes.
use Rattle.std.proofs.Common.{◌≡◌, ℕ, ◌-◌, ◌↔◌, true, false, List, Option, Some, None, Result, Ok, Err, IsOk, OnOk, OnErr, IsSomeAnd, is_some, is_ok, slice_get, refl, ap, sym, subst, inl, inr}
use Rattle.lj_task.specs.Task.{Task}
use Rattle.lj_step.specs.declared.simulations.Stray.{Stray}
use Rattle.lj_session.specs.UserState.{with_steps_restarted}
use Rattle.lj_session.specs.Owner.{Owner, is_busy, IsAwaitedIn, with_task_in}
use Rattle.lj_access.specs.UserRows.{UserRow, HasEntered, with_row_changed, with_home}
use Rattle.lj_book.specs.declared.key_states.KeyState.TheVariants.{ToFetch}
use Rattle.lj_book.specs.Book.{Book, entry_at, key_state_of, Fetches, Withdraws}
use Rattle.lj_world.specs.declared.event.ConnectionEvent.TheVariants.{Fetch, Turn, Leave}
use Rattle.lj_world.specs.Machine.{Connection, inside, gone, with_connection_state}
use Rattle.lj_world.specs.Connections.{connection_view, IsGiven, IsDone}
use Rattle.lj_world.specs.Steps.{ConnectionStep}
use Rattle.lj_world.specs.KnownConnections.{HasRow}
use Rattle.lj_world.specs.OwnerReplies.{CanTurn, TurnsTo}

-- nothing is there
pub none_there : {A : Type 0} (o : Option A) → is_some o ≡ false → o ≡ None
none_there None e = refl
none_there (Some x) e = cc

-- a result is accepted exactly if the step awaits it
pub given : (owner after : Owner) (work : Task) (result : Result (Unit {0}) Stray) → (IsOk result ↔ IsAwaitedIn owner work)
    → OnOk result (after ≡ with_task_in work owner) → OnErr result (after ≡ owner) → IsGiven owner work after
given owner after work (Ok u) awaited taken unchanged = inl (awaited.0 refl, taken)
given owner after work (Err stray) awaited taken unchanged = inr (λ h. let e : IsOk {T = Unit {0}} {E = Stray} (Err stray) = awaited.1 h in cc, unchanged)

-- a result of the user leaves the book
pub fetches : (connection : Connection) (rows : List UserRow) (old new : Book) (owner after : Owner) (work : Task) (key pick : ℕ)
    → connection.state ≡ inside owner → is_busy owner ≡ true → Fetches old new work key → key_state_of (entry_at old key) ≡ ToFetch connection.user
    → IsGiven owner work after
    → ConnectionStep (Fetch pick) (connection_view connection rows old) None (connection_view (record connection { state = inside after; posted = connection.posted - 1 }) rows new)
fetches connection rows old new owner after work key pick owns busy f done g = inl (record {
  no_reply = refl;
  owner = owner;
  owns = owns;
  busy = busy;
  key = key;
  work = work;
  of_user = let m = ap key_state_of f.was in cc;
  fetches = f;
  after = after;
  given = g;
  next = refl;
})

-- the state returns home
pub leaves : (connection : Connection) (rows : List UserRow) (old new : Book) (owner : Owner) → connection.state ≡ inside owner
    → owner.waiting ≡ None → IsDone connection → Withdraws connection.user old new
    → ConnectionStep Leave (connection_view connection rows old) None
    (connection_view (with_connection_state gone connection) (with_row_changed connection.user (with_home (with_steps_restarted owner.state)) rows) new)
leaves connection rows old new owner owns idle done w = inl (record {
  no_reply = refl;
  owner = owner;
  owns = owns;
  idle = idle;
  done = done;
  withdraws = w;
  next = refl;
})

-- the ticket of a connection that owns the state has entered
pub has_entered : (connection : Connection) (rows : List UserRow) (owner : Owner) → connection.state ≡ inside owner → HasRow rows connection
    → IsSomeAnd (slice_get rows connection.user) (HasEntered connection.number)
has_entered connection rows owner owns h =
    let P : Option UserRow → Type 0 = λ o. IsSomeAnd o (HasEntered connection.number) in
    subst P (sym h.1) (h.2.entered (owner, owns))

-- what holds at `Ok` holds
pub at_ok : {T E : Type 0} (r : Result T E) (P : Type 0) → IsOk r → OnOk r P → P
at_ok (Ok x) P ok p = p
at_ok {T} {E} (Err e) P ok p = absurd (let k : is_ok {T = T} {E = E} (Err e) ≡ true = ok in cc)

-- a session is turned
pub turn_step : (connection : Connection) (session : Option (List ℕ)) (owner after : Owner) (name : List ℕ) (text : Option (List ℕ))
    → connection.state ≡ inside owner → CanTurn session owner name → TurnsTo owner name text after → (rows : List UserRow) (book : Book)
    → ConnectionStep (Turn session) (connection_view connection rows book) text (connection_view (with_connection_state (inside after) connection) rows book)
turn_step connection session owner after name text owns can turns rows book =
    inl (record { owner = owner; owns = owns; name = name; can = can; after = after; turns = turns; next = refl })
