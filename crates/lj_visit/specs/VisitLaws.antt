-- Laws of the visits of one user, one after the other.
use Rattle.std.specs.Prelude.{◌≡◌, ◌≢◌, ℕ, Bool, List, [], ◌∷◌, ◌++◌, map, Option, Some, ◌⊎◌}
use Rattle.std.specs.List.{concat}
use Rattle.lj_quota.specs.declared.Quota.{Quota}
use Rattle.lj_session.specs.UserState.{UserState, Reached, empty_state, user_of}
use Rattle.lj_wire.specs.declared.item.Item.{Item}
use Rattle.lj_wire.specs.Streams.{AreMarks, Dialogue}
use Rattle.lj_wire.specs.Told.{alone}
use Rattle.lj_engine.specs.declared.served.Served.{Served}
use Rattle.lj_engine.specs.declared.served.Served.TheVariants.{WriteFault}
use Rattle.lj_end.specs.Seen.{Seen, nothing_seen}
use Rattle.lj_engine.specs.Served.{BreaksOff, IsServed}
use Rattle.lj_visit.specs.Behind.{AreAnswered, IsSent, AnswersBehind}

-- A visit whose state came home: how it ended, the state that was lent, the bytes read after the first line and written after OK
-- HELLO, what its end of the pool has seen, and the state that came home.
pub record Attendance : Type 0 where
  pub served : Served
  pub state : UserState
  pub read : List ℕ
  pub written : List ℕ
  pub seen : Seen
  pub next : UserState

-- the visit was served as its fields say
abbrev pub IsAttendance : Attendance → Type 0
IsAttendance visit = IsServed visit.served visit.state visit.read visit.written nothing_seen visit.seen (Some visit.next)

-- What was written is the dialogue of what was read, from the state that was lent.
abbrev pub IsVisitDialogue : Attendance → Type 0
IsVisitDialogue visit = Dialogue (user_of visit.state) visit.read visit.written (user_of visit.next)

-- A write failed: what was written ends within the text of the last item that was answered.
abbrev pub IsBroken : Attendance → Type 0
IsBroken visit = BreaksOff (user_of visit.state) visit.read visit.written (user_of visit.next)

-- Each visit is a whole dialogue, or one broken off by a failed write.
abbrev pub AttendedIsAnswered : Type 0
AttendedIsAnswered = (visit : Attendance) → IsAttendance visit
    → (visit.served ≢ WriteFault × IsVisitDialogue visit) ⊎ ((visit.served ≡ WriteFault) × IsBroken visit)

-- the answered items of a visit, with their marks; the last one too if a write failed within its text
abbrev pub AnswersItems : Attendance → List Item → List Bool → Type 0
AnswersItems visit items marks =
    ((whole : IsVisitDialogue visit) × (visit.served ≢ WriteFault) × (items ≡ whole.items) × (marks ≡ whole.marks))
    ⊎ ((broken : IsBroken visit) × (visit.served ≡ WriteFault)
    × (items ≡ broken.reaches.progress.items ++ broken.item ∷ [])
    × (marks ≡ broken.reaches.progress.marks ++ broken.mark ∷ []))

-- the answered items of all visits, with their marks
abbrev pub AnswersVisits : List Attendance → List Item → List Bool → Type 0
AnswersVisits [] items marks = (items ≡ []) × (marks ≡ [])
AnswersVisits (visit ∷ visits) items marks =
    (own : List Item) × (own_marks : List Bool) × (others : List Item) × (other_marks : List Bool)
    × (items ≡ own ++ others) × (marks ≡ own_marks ++ other_marks)
    × AnswersItems visit own own_marks × AnswersVisits visits others other_marks

-- from a state on, each visit is lent the state that came home before it, and `last` comes home last
abbrev pub Follow : UserState → List Attendance → UserState → Type 0
Follow state [] last = state ≡ last
Follow state (visit ∷ visits) last = (visit.state ≡ state) × IsAttendance visit × Follow visit.next visits last

-- no write failed
abbrev pub NoneFails : List Attendance → Type 0
NoneFails [] = Unit {0}
NoneFails (visit ∷ visits) = (visit.served ≢ WriteFault) × NoneFails visits

-- what was written in all visits
abbrev pub all_written : List Attendance → List ℕ
all_written visits = concat (map (λ (visit : Attendance). visit.written) visits)

-- The visits of a user, from the state without sessions on, end with the state that all items answered, folded alone, lead to.
-- Where no write fails, what was written in all of them is the replies to these items alone.
pub record IsOneFold (quota : Quota) (visits : List Attendance) (last : UserState) : Type 0 where
  pub items : List Item
  pub marks : List Bool
  pub answers : AnswersVisits visits items marks
  pub are_marks : AreMarks marks (alone quota items marks).0
  pub last_is : user_of last ≡ (alone quota items marks).1
  pub written_is : NoneFails visits → all_written visits ≡ concat (alone quota items marks).0

abbrev pub VisitsAreOneFold : Type 0
VisitsAreOneFold = (quota : Quota) (visits : List Attendance) (last : UserState) → Follow (empty_state quota) visits last
    → IsOneFold quota visits last

-- What is served from a state that is reached is answered behind items that lead to it.
abbrev pub ReachedIsAnsweredBehind : Type 0
ReachedIsAnsweredBehind = (served : Served) (state : UserState) (read written : List ℕ) (old new : Seen)
    (next : Option UserState) → Reached state → IsServed served state read written old new next
    → AnswersBehind state served read written

-- A user's last visit, which a write or the end of the pool may have broken off: how it ended, the state that was lent, the bytes
-- read after the first line and written after OK HELLO, what its end of the pool has seen, and the state that came home, if any.
pub record LastVisit : Type 0 where
  pub served : Served
  pub state : UserState
  pub read : List ℕ
  pub written : List ℕ
  pub seen : Seen
  pub next : Option UserState

-- the last visit was served as its fields say
abbrev pub IsLastVisit : LastVisit → Type 0
IsLastVisit visit = IsServed visit.served visit.state visit.read visit.written nothing_seen visit.seen visit.next

-- The items answered in the visits of a user, from the state without sessions on, and then in the last one. Where no write fails
-- before the last visit, what was written in all is the replies to these items folded alone, the last reply perhaps cut short.
pub record AreOnePrefix (quota : Quota) (visits : List Attendance) (last : LastVisit) : Type 0 where
  pub earlier : List Item
  pub earlier_marks : List Bool
  pub answers : AnswersVisits visits earlier earlier_marks
  pub items : List Item
  pub marks : List Bool
  pub answered : AreAnswered last.served last.read items
  pub are_marks : AreMarks (earlier_marks ++ marks) (alone quota (earlier ++ items) (earlier_marks ++ marks)).0
  pub sent : NoneFails visits
      → IsSent last.served (alone quota (earlier ++ items) (earlier_marks ++ marks)).0 (all_written visits ++ last.written)
  -- Then it is a prefix of these replies.
  pub prefix : NoneFails visits → (rest : List ℕ)
      × (concat (alone quota (earlier ++ items) (earlier_marks ++ marks)).0 ≡ (all_written visits ++ last.written) ++ rest)

abbrev pub VisitsAreOnePrefix : Type 0
VisitsAreOnePrefix = (quota : Quota) (visits : List Attendance) (last : LastVisit) → Follow (empty_state quota) visits last.state
    → IsLastVisit last → AreOnePrefix quota visits last
