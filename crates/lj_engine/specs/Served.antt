-- How a stream of commands is served to its end: what is written, and which state is handed back.
use Rattle.std.specs.Prelude.{◌≡◌, ℕ, ◌<◌, ◌≤◌, Bool, true, false, List, [], ◌∷◌, ◌++◌, length, take, Option}
use Rattle.std.specs.Prelude.{None, IsSome, IsSomeAnd, ◌+◌, ◌-◌, ◌⊎◌}
use Rattle.std.specs.List.{list_any, Contains}
use Rattle.std.specs.Io.KnownBytes.{Consumes, Appends, IsAtEnd}
use Rattle.lj_session.specs.declared.command.Command.TheVariants.{Bye as ByeCommand}
use Rattle.lj_task.specs.Task.{Task}
use Rattle.lj_branch.specs.Named.{value_named}
use Rattle.lj_session.specs.Users.{User}
use Rattle.lj_session.specs.Turns.{turns, waits_for}
use Rattle.lj_session.specs.UserState.{UserState, user_of}
use Rattle.lj_wire.specs.declared.item.Fault.{Fault}
use Rattle.lj_wire.specs.declared.item.Item.{Item}
use Rattle.lj_wire.specs.declared.item.Item.TheVariants.{Command, Bad, Last}
use Rattle.lj_wire.specs.Items.{is_ending}
use Rattle.lj_wire.specs.ReplyTexts.{is_memory}
use Rattle.lj_wire.specs.Told.{item_text}
use Rattle.lj_wire.specs.Streams.{IsItem, Dialogue}
use Rattle.lj_wire.specs.Progress.{Progress}
use Rattle.lj_wire.specs.Ends.{Rises}
use Rattle.lj_engine.specs.declared.served.Served.{Served}
use Rattle.lj_engine.specs.declared.served.Served.TheVariants.{End, Bye, Ended, ReadFault, WriteFault, PoolClosed}
use Rattle.lj_engine.specs.declared.served.Served.TheVariants.{TooManyStrays}
use Rattle.lj_end.specs.Seen.{Seen}
use Rattle.lj_end.specs.declared.pool.TheConstants.{MAX_AHEAD, MAX_STRAYS}
use Rattle.lj_engine.specs.Gathering.{NonePending}
use Rattle.lj_engine.specs.Counting.{tiles, tiles_pending, item_tiles, CountsRise, FallsShort, StraysRise}
use Rattle.lj_engine.specs.PendingBounds.{most_pending}

-- no item ends the connection
abbrev pub NoneEnds : List Item → Type 0
NoneEnds items = list_any is_ending items ≡ false

-- the last item is BYE
abbrev pub EndsByBye : List Item → Type 0
EndsByBye items = (earlier : List Item) × (items ≡ earlier ++ Command ByeCommand ∷ [])

-- the last item is a fault that ends the connection: BODY, LONG or ENOUGH
abbrev pub EndsByFault : List Item → Type 0
EndsByFault items = (earlier : List Item) × (fault : Fault) × (items ≡ earlier ++ Last fault ∷ [])

-- the items end as serving does: with BYE, with a fault that ends the connection, or with an item after which more may come
abbrev pub EndsAs : Served → List Item → Type 0
EndsAs Bye items = EndsByBye items
EndsAs Ended items = EndsByFault items
EndsAs served items = NoneEnds items

-- All that was read is answered.
pub record AnswersAll (served : Served) (state : UserState) (read written : List ℕ) (old new : Seen)
    (next : UserState) : Type 0 where
  -- The replies to all items are written, and the user is then the next.
  pub dialogue : Dialogue (user_of state) read written (user_of next)
  -- The last item is one at which serving ends so.
  pub ending : EndsAs served dialogue.items
  -- At least as many results were counted as there are tiles of the steps that the items took and of those pending before,
  -- less those pending now.
  pub counted : CountsRise
      (tiles (user_of state) dialogue.items dialogue.marks + tiles_pending state - tiles_pending next) old new

-- The items read before this one are answered, and this one comes next.
pub record Reaches (user : User) (read written : List ℕ) (between : User) (item : Item) : Type 0 where
  pub count : ℕ
  pub left : List ℕ
  -- The replies to the first `count` items are written, and the user is then `between`.
  pub progress : Progress user read count written left between
  pub front : List ℕ
  pub behind : List ℕ
  -- The bytes left begin with those of the item.
  pub goes_on : left ≡ front ++ behind
  pub is_item : IsItem count front item

-- The items read are answered up to this one, and only the first bytes of its text are written.
pub record BreaksOff (user : User) (read written : List ℕ) (next : User) : Type 0 where
  pub before : List ℕ
  pub between : User
  pub item : Item
  -- The replies to the items before it are `before`.
  pub reaches : Reaches user read before between item
  pub mark : Bool
  -- The mark is set only where the reply says that memory ran out.
  pub only_memory : mark ≡ true → is_memory (item_text between item mark).0 ≡ true
  pub bytes : ℕ
  pub within : bytes ≤ length (item_text between item mark).0
  -- Of its own text so many bytes are written.
  pub written_is : written ≡ before ++ take bytes (item_text between item mark).0
  -- The user is that after the item.
  pub next_is : next ≡ (item_text between item mark).1

-- the item waits for a session of the user: it takes steps of its own, or steps may be pending there after the items before it
abbrev pub MayWait : UserState → List Item → List Bool → User → Item → Type 0
MayWait state before marks user (Command command) = IsSomeAnd (waits_for command)
    (λ name. IsSome (value_named name user.sessions) × ((0 < turns user command) ⊎ (0 < most_pending state before marks name)))
MayWait state before marks user (Bad fault) = ⊥
MayWait state before marks user (Last fault) = ⊥

-- The items before a waiting one are answered.
pub record StopsAt (state : UserState) (read written : List ℕ) (old new : Seen) : Type 0 where
  pub between : User
  pub item : Item
  -- The replies to the items before it are written, and nothing for it.
  pub reaches : Reaches (user_of state) read written between item
  pub waits : MayWait state reaches.progress.items reaches.progress.marks between item
  -- Fewer results that were owed were handed out than there are tiles of the steps pending at first, of those of the answered
  -- items, and of those of the waiting one.
  pub missing : FallsShort
      (tiles (user_of state) reaches.progress.items reaches.progress.marks + tiles_pending state + item_tiles between item) old new

-- The first `count` items read are answered, and too many tasks are owed for the next one.
pub record StopsBetween (state : UserState) (read written : List ℕ) (new : Seen) : Type 0 where
  pub count : ℕ
  pub left : List ℕ
  pub between : User
  -- The replies to the first items are written, and nothing after them.
  pub progress : Progress (user_of state) read count written left between
  -- Each task that is owed is of a session in which steps may be pending then.
  pub pending : (task : Task) → Contains new.owed task
      → 0 < most_pending state progress.items progress.marks task.name.label.session
  -- More tasks are owed than may be before the next item.
  pub many : MAX_AHEAD < length new.owed

-- What is written where the pool is given up.
abbrev pub StopsShort : UserState → List ℕ → List ℕ → Seen → Seen → Type 0
StopsShort state read written old new = StopsAt state read written old new ⊎ StopsBetween state read written new

-- What is written for what was read, how many results came for it, and which state is handed back: all is answered; or a write
-- failed, within the text of the last item; or the pool is given up, and no state is handed back.
abbrev pub IsServed : Served → UserState → List ℕ → List ℕ → Seen → Seen → Option UserState → Type 0
IsServed WriteFault state read written old new next =
    IsSomeAnd next (λ back. BreaksOff (user_of state) read written (user_of back))
IsServed PoolClosed state read written old new next = (next ≡ None) × StopsShort state read written old new
IsServed TooManyStrays state read written old new next = (next ≡ None) × StopsShort state read written old new
IsServed served state read written old new next = IsSomeAnd next (AnswersAll served state read written old new)

-- Bytes of those left were read, and others were appended to the contents in reply.
pub record Serves (served : Served) (state : UserState) (left rest was is : Option (List ℕ)) (old new : Seen)
    (next : Option UserState) : Type 0 where
  pub read : List ℕ
  pub written : List ℕ
  -- The bytes read are the first of those left.
  pub taken : Consumes left rest read
  -- The bytes written are appended to the contents.
  pub appends : Appends was is written
  -- They are the replies that this way of ending has.
  pub is_served : IsServed served state read written old new next

-- Serving ends so only where its cause was seen: at the source, of which these bytes are left, in the counts of errors of source
-- and sink, or at the pool.
pub record HasCause (served : Served) (rest : Option (List ℕ)) (errors more_errors faults more_faults : Option ℕ)
    (old new : Seen) : Type 0 where
  -- All was read.
  pub end : served ≡ End → IsAtEnd rest
  -- A read has failed.
  pub read_fault : served ≡ ReadFault → Rises errors more_errors
  -- A write has failed.
  pub write_fault : served ≡ WriteFault → Rises faults more_faults
  -- The pool is closed.
  pub closed : served ≡ PoolClosed → new.closed ≡ true
  -- At least 4,096 strays came.
  pub strays : served ≡ TooManyStrays → StraysRise MAX_STRAYS old new

-- The state that is handed back, with the pending steps of its sessions.
pub record ReturnsState (state : UserState) (seen : Seen) (back : UserState) : Type 0 where
  -- Where no step of it is pending, no task is owed.
  pub none_owed : NonePending back → seen.owed ≡ []
  -- It has the same quota.
  pub quota : back.quota ≡ state.quota
