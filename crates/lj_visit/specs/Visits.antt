-- A visit: what is read, what is written and what happens, by how it ends.
use Rattle.std.specs.Prelude.{◌≡◌, ℕ, ◌<◌, ◌≤◌, Bool, false, List, [], ◌∷◌, ◌++◌, ◌↔◌, length, take, Option, Some, None, IfSome, codes, ◌⊎◌}
use Rattle.std.specs.Io.KnownBytes.{Appends}
use Rattle.lj_session.specs.declared.refusal.Refusal.TheVariants.{Denied as DeniedRefusal}
use Rattle.lj_session.specs.UserState.{UserState, Reached}
use Rattle.lj_wire.specs.declared.hello.Hello.{Hello}
use Rattle.lj_wire.specs.declared.hello.Hello.TheVariants.{Asked, Other}
use Rattle.lj_wire.specs.Ends.{Rises}
use Rattle.lj_wire.specs.Greetings.{Greets, GreetsNone, HasFailedEarly}
use Rattle.lj_wire.specs.LineReader.{LineReader}
use Rattle.lj_session.specs.Refusals.{refusal_text}
use Rattle.lj_wire.specs.ReplyTexts.{ended_line, ok_line}
use Rattle.lj_access.specs.UserRows.{Ticket}
use Rattle.lj_engine.specs.declared.served.Served.{Served}
use Rattle.lj_engine.specs.declared.served.Served.TheVariants.{ReadFault, TooManyStrays}
use Rattle.lj_end.specs.Seen.{Seen, nothing_seen}
use Rattle.lj_engine.specs.Served.{ReturnsState, HasCause, Serves}
use Rattle.lj_engine.specs.Waiting.{Flushes}
use Rattle.lj_visit.specs.declared.shut.NoTicket.TheVariants.{Denied as DeniedTicket, Crowded as CrowdedTicket}
use Rattle.lj_visit.specs.declared.shut.Shut.{Shut}
use Rattle.lj_visit.specs.declared.visiting.Visited.{Visited}
use Rattle.lj_visit.specs.declared.visiting.Visited.TheVariants.{NoLine, Denied, TurnedAway, ShutOut, NotWelcomed, Attended}
use Rattle.lj_visit.specs.Behind.{AnswersBehind}
use Rattle.lj_visit.specs.Events.{Event, Happens}
use Rattle.lj_visit.specs.Events.Event.{granted, ungranted, entered, shut_out, opened, withdrawn, left, closed}

-- the state of a writer: the bytes written, and its count of faults, where they are known; and whether bytes may be held back
pub record Writer : Type 0 where
  pub contents : Option (List ℕ)
  pub faults : Option ℕ
  pub unflushed : Bool

-- a visit at one moment: its reader of lines, its writer, and the events that have happened, where they are known
pub record VisitState : Type 0 where
  pub lines : LineReader
  pub writer : Writer
  pub events : Option (List Event)

-- ERR 01 DENIED
abbrev pub denied_line : List ℕ
denied_line = ended_line (refusal_text DeniedRefusal)

-- OK HELLO, and the name of the user
abbrev pub welcome_line : List ℕ → List ℕ
welcome_line name = ok_line (codes "HELLO" ∷ name ∷ [])

-- The first bytes of a line are written: all of them, and none is held back, unless a write or a flush fails.
pub record WritesLine (line : List ℕ) (old new : Writer) : Type 0 where
  pub bytes : ℕ
  pub within : bytes ≤ length line
  pub written : Appends old.contents new.contents (take bytes line)
  pub whole : bytes < length line → Rises old.faults new.faults
  pub sent : (new.unflushed ≡ false) ⊎ Rises old.faults new.faults

-- whether bytes were read that are in no item yet
abbrev pub HoldsBytes : LineReader → Bool → Type 0
HoldsBytes lines held = held ≡ false ↔ (lines.held ≡ [])

-- no first line came
abbrev pub IsUnasked : LineReader → LineReader → Type 0
IsUnasked first last = GreetsNone first last ⊎ HasFailedEarly first last

-- the events of a denied first line: none if it is no HELLO
abbrev pub events_denied : Hello → List Event
events_denied Other = []
events_denied (Asked name token) = ungranted name token DeniedTicket ∷ []

-- The first line was read, and DENIED was answered.
pub record IsDenied (before after : VisitState) : Type 0 where
  pub hello : Hello
  pub greets : Greets before.lines after.lines hello
  pub tells : WritesLine denied_line before.writer after.writer
  pub happens : Happens before.events after.events (events_denied hello)

-- The first line was read, and as many connections of the user waited as may. Nothing was written.
pub record IsTurnedAway (before after : VisitState) : Type 0 where
  pub name : List ℕ
  pub token : List ℕ
  pub greets : Greets before.lines after.lines (Asked name token)
  pub unwritten : after.writer ≡ before.writer
  pub happens : Happens before.events after.events (ungranted name token CrowdedTicket ∷ [])

-- The first line was read, and a ticket was granted that did not enter. Nothing was written.
pub record IsShutOut (why : Shut) (before after : VisitState) : Type 0 where
  pub name : List ℕ
  pub token : List ℕ
  pub ticket : Ticket
  pub greets : Greets before.lines after.lines (Asked name token)
  pub unwritten : after.writer ≡ before.writer
  pub held : Bool
  pub holds : HoldsBytes after.lines held
  pub happens : Happens before.events after.events (granted name token ticket ∷ shut_out ticket held why ∷ [])

-- The ticket entered, OK HELLO could not be written, and the state came home as it was lent.
pub record IsNotWelcomed (before after : VisitState) : Type 0 where
  pub name : List ℕ
  pub token : List ℕ
  pub ticket : Ticket
  pub state : UserState
  pub greets : Greets before.lines after.lines (Asked name token)
  pub bytes : ℕ
  pub within : bytes ≤ length (welcome_line name)
  pub written : Appends before.writer.contents after.writer.contents (take bytes (welcome_line name))
  pub fault : Rises before.writer.faults after.writer.faults
  pub held : Bool
  pub holds : HoldsBytes after.lines held
  pub happens : Happens before.events after.events
      (granted name token ticket ∷ entered ticket held state ∷ left ticket state ∷ [])

-- the state that serving has handed back, if any, comes home
abbrev pub events_leaving : Ticket → Option UserState → List Event
events_leaving ticket (Some state) = left ticket state ∷ []
events_leaving ticket None = []

-- all is closed after too many strays
abbrev pub events_closing : Served → List Event
events_closing TooManyStrays = closed ∷ []
events_closing served = []

-- A state that was lent is served over an end that was made for the ticket's user and asked for no other. Then what the pool has
-- of the user is dropped, and after that the state that serving has handed back, if any, comes home.
pub record IsServing (served : Served) (ticket : Ticket) (state : UserState) (before after : VisitState) : Type 0 where
  pub seen : Seen
  pub next : Option UserState
  pub serves : Serves served state before.lines.left after.lines.left before.writer.contents after.writer.contents
      nothing_seen seen next
  pub cause : HasCause served after.lines.left before.lines.errors after.lines.errors before.writer.faults after.writer.faults
      nothing_seen seen
  pub all_read : served ≡ ReadFault → after.lines.held ≡ []
  pub flushed : Flushes served before.writer.unflushed after.writer.unflushed
  pub handed_back : IfSome next (ReturnsState state seen)
  pub happens : Happens before.events after.events (opened ticket.user ∷ withdrawn ticket.user seen 0
      ∷ (events_leaving ticket next ++ events_closing served))

-- what a writer is once OK HELLO is written and flushed, where `contents` are its bytes then
abbrev pub welcomed : Writer → Option (List ℕ) → Writer
welcomed writer contents = record { contents = contents; faults = writer.faults; unflushed = false }

-- The ticket entered, OK HELLO was written and flushed, and the lines that follow were served from the state that was lent.
pub record IsAttended (served : Served) (before after : VisitState) : Type 0 where
  pub name : List ℕ
  pub token : List ℕ
  pub ticket : Ticket
  pub state : UserState
  pub reached : Reached state
  pub lines : LineReader
  pub greets : Greets before.lines lines (Asked name token)
  pub contents : Option (List ℕ)
  pub welcomes : Appends before.writer.contents contents (welcome_line name)
  pub lent : Option (List Event)
  pub held : Bool
  pub holds : HoldsBytes lines held
  pub enters : Happens before.events lent (granted name token ticket ∷ entered ticket held state ∷ [])
  pub serving : IsServing served ticket state
      (record { lines = lines; writer = welcomed before.writer contents; events = lent }) after
  -- What was written then is the replies to the items read, behind items that lead to the state that was lent.
  pub behind : AnswersBehind state served serving.serves.read serving.serves.written

-- what a visit reads, writes and does, by how it ends
abbrev pub IsVisit : Visited → (before after : VisitState) → Type 0
IsVisit NoLine before after =
    IsUnasked before.lines after.lines × (after.writer ≡ before.writer) × (after.events ≡ before.events)
IsVisit Denied before after = IsDenied before after
IsVisit TurnedAway before after = IsTurnedAway before after
IsVisit (ShutOut why) before after = IsShutOut why before after
IsVisit NotWelcomed before after = IsNotWelcomed before after
IsVisit (Attended served) before after = IsAttended served before after

-- What becomes of a ticket that was granted to a user of this name, by how the visit ends.
abbrev pub IsAdmission : Visited → List ℕ → Ticket → (before after : VisitState) → Type 0
IsAdmission NoLine name ticket before after = ⊥
IsAdmission Denied name ticket before after = ⊥
IsAdmission TurnedAway name ticket before after = ⊥
IsAdmission (ShutOut why) name ticket before after =
    (after.lines ≡ before.lines) × (after.writer ≡ before.writer)
    × (held : Bool) × HoldsBytes before.lines held × Happens before.events after.events (shut_out ticket held why ∷ [])
IsAdmission NotWelcomed name ticket before after =
    (after.lines ≡ before.lines) × (bytes : ℕ) × (bytes ≤ length (welcome_line name))
    × Appends before.writer.contents after.writer.contents (take bytes (welcome_line name))
    × Rises before.writer.faults after.writer.faults
    × (state : UserState) × (held : Bool) × HoldsBytes before.lines held
    × Happens before.events after.events (entered ticket held state ∷ left ticket state ∷ [])
IsAdmission (Attended served) name ticket before after =
    (state : UserState) × (lent : Option (List Event)) × Reached state
    × (held : Bool) × HoldsBytes before.lines held × Happens before.events lent (entered ticket held state ∷ [])
    × (contents : Option (List ℕ)) × Appends before.writer.contents contents (welcome_line name)
    × IsServing served ticket state
    (record { lines = before.lines; writer = welcomed before.writer contents; events = lent }) after
