-- Visits one after the other: their items, their marks and their texts, joined.
use Rattle.std.proofs.Common.{◌≡◌, ◌≢◌, ℕ, Bool, true, List, [], ◌∷◌, ◌++◌, Some, None, ◌⊎◌}
use Rattle.std.proofs.Common.{refl, sym, ap, ◌∙◌, subst, inl, inr}
use Rattle.std.specs.List.{concat}
use Rattle.std.proofs.lemmas.List.Folds.{concat-append}
use Rattle.lj_session.specs.Users.{User}
use Rattle.lj_session.specs.UserState.{UserState, user_of}
use Rattle.lj_wire.specs.declared.item.Item.{Item}
use Rattle.lj_wire.specs.Streams.{AreMarks, Dialogue}
use Rattle.lj_wire.specs.ReplyTexts.{is_memory}
use Rattle.lj_wire.specs.Told.{item_text, texts, last_user}
use Rattle.lj_wire.proofs.Progressing.{added, marks-length, texts-length}
use Rattle.lj_engine.specs.declared.served.Served.{Served}
use Rattle.lj_engine.specs.declared.served.Served.TheVariants.{End, Bye, Ended, ReadFault, WriteFault, PoolClosed, TooManyStrays}
use Rattle.lj_end.specs.Seen.{Seen, nothing_seen}
use Rattle.lj_engine.specs.Served.{BreaksOff, IsServed}
use Rattle.lj_visit.proofs.Joining.{texts-join, last_user-join, AreMarks-join}
use Rattle.lj_visit.specs.VisitLaws.{Attendance, IsAttendance, IsVisitDialogue, IsBroken, AnswersItems, AnswersVisits, Follow, NoneFails, all_written}

-- what the items of one visit say
pub record Fold (visit : Attendance) (items : List Item) (marks : List Bool) : Type 0 where
  pub answers : AnswersItems visit items marks
  pub are_marks : AreMarks marks (texts (user_of visit.state) items marks)
  pub next_is : user_of visit.next ≡ last_user (user_of visit.state) items marks
  pub written_is : visit.served ≢ WriteFault → visit.written ≡ concat (texts (user_of visit.state) items marks)

abbrev pub IsFolded : Attendance → Type 0
IsFolded visit = (items : List Item) × (marks : List Bool) × Fold visit items marks

fold-whole : (visit : Attendance) → visit.served ≢ WriteFault → IsVisitDialogue visit → IsFolded visit
fold-whole visit unbroken whole = (
  whole.items,
  whole.marks,
  record {
    answers = inl (whole, unbroken, refl, refl);
    are_marks = whole.are_marks;
    next_is = whole.next_is;
    written_is = λ _. whole.written_is;
  },
)

fold-broken : (visit : Attendance) → visit.served ≡ WriteFault → IsBroken visit → IsFolded visit
fold-broken visit is broken =
    let user = user_of visit.state in
    let items = broken.reaches.progress.items in
    let marks = broken.reaches.progress.marks in
    let between = broken.reaches.progress.next_is in
    let more = added user items marks broken.item broken.mark broken.reaches.progress.are_marks
    (subst (λ (other : User). broken.mark ≡ true → is_memory (item_text other broken.item broken.mark).0 ≡ true) between
    broken.only_memory) in (
      items ++ broken.item ∷ [],
      marks ++ broken.mark ∷ [],
      record {
        answers = inr (broken, is, refl, refl);
        are_marks = more.are_marks;
        next_is =
            broken.next_is ∙ ap (λ (other : User). (item_text other broken.item broken.mark).1) between ∙ more.next_is;
        written_is = λ unbroken. absurd (unbroken is);
      },
    )

answered_by : (served : Served) (state : UserState) (read written : List ℕ) (seen : Seen) (next : UserState)
    → IsServed served state read written nothing_seen seen (Some next)
    → (served ≢ WriteFault × Dialogue (user_of state) read written (user_of next))
    ⊎ ((served ≡ WriteFault) × BreaksOff (user_of state) read written (user_of next))
answered_by End state read written seen next is = inl ((λ e. cc), is.dialogue)
answered_by Bye state read written seen next is = inl ((λ e. cc), is.dialogue)
answered_by Ended state read written seen next is = inl ((λ e. cc), is.dialogue)
answered_by ReadFault state read written seen next is = inl ((λ e. cc), is.dialogue)
answered_by WriteFault state read written seen next is = inr (refl, is)
answered_by PoolClosed state read written seen next is = absurd (let given : Some next ≡ None = is.0 in cc)
answered_by TooManyStrays state read written seen next is = absurd (let given : Some next ≡ None = is.0 in cc)

-- each visit is a whole dialogue, or one that is broken off
pub answered : (visit : Attendance) → IsAttendance visit
    → (visit.served ≢ WriteFault × IsVisitDialogue visit) ⊎ ((visit.served ≡ WriteFault) × IsBroken visit)
answered visit is = answered_by visit.served visit.state visit.read visit.written visit.seen visit.next is

folded_by : (visit : Attendance)
    → (visit.served ≢ WriteFault × IsVisitDialogue visit) ⊎ ((visit.served ≡ WriteFault) × IsBroken visit) → IsFolded visit
folded_by visit (inl whole) = fold-whole visit whole.0 whole.1
folded_by visit (inr broken) = fold-broken visit broken.0 broken.1

-- the visits from a state on are one fold
pub record Folds (state : UserState) (visits : List Attendance) (last : UserState) : Type 0 where
  pub items : List Item
  pub marks : List Bool
  pub answers : AnswersVisits visits items marks
  pub are_marks : AreMarks marks (texts (user_of state) items marks)
  pub last_is : user_of last ≡ last_user (user_of state) items marks
  pub written_is : NoneFails visits → all_written visits ≡ concat (texts (user_of state) items marks)

join : (state : UserState) (visit : Attendance) (visits : List Attendance) (last : UserState) → visit.state ≡ state
    → IsFolded visit → Folds visit.next visits last → Folds state (visit ∷ visits) last
join state visit visits last begins own others =
    let user = user_of state in
    let items = own.0 in
    let marks = own.1 in
    let more = others.items in
    let other_marks = others.marks in
    let fold = own.2 in
    let are : AreMarks marks (texts user items marks) =
    subst (λ (s : UserState). AreMarks marks (texts (user_of s) items marks)) begins fold.are_marks in
    let next : user_of visit.next ≡ last_user user items marks =
    subst (λ (s : UserState). user_of visit.next ≡ last_user (user_of s) items marks) begins fold.next_is in
    let same = marks-length marks (texts user items marks) are ∙ texts-length user items marks in
    let split = texts-join user items more marks other_marks same
    ∙ ap (λ (u : User). texts user items marks ++ texts u more other_marks) (sym next) in
    record {
      items = items ++ more;
      marks = marks ++ other_marks;
      answers = (items, marks, more, other_marks, refl, refl, fold.answers, others.answers);
      are_marks =
          subst (AreMarks (marks ++ other_marks)) (sym split)
          (AreMarks-join marks other_marks (texts user items marks) (texts (user_of visit.next) more other_marks) are
          others.are_marks);
      last_is =
          others.last_is ∙ ap (λ (u : User). last_user u more other_marks) next
          ∙ sym (last_user-join user items more marks other_marks same);
      written_is = λ none.
          let first : visit.written ≡ concat (texts user items marks) =
          subst (λ (s : UserState). visit.written ≡ concat (texts (user_of s) items marks)) begins (fold.written_is none.0) in
          ap (λ xs. xs ++ all_written visits) first
          ∙ ap (λ xs. concat (texts user items marks) ++ xs) (others.written_is none.1)
          ∙ sym (concat-append (texts user items marks) (texts (user_of visit.next) more other_marks)) ∙ ap concat (sym split);
    }

pub fold_all : (state : UserState) (visits : List Attendance) (last : UserState) → Follow state visits last
    → Folds state visits last
fold_all state [] last h = record {
  items = [];
  marks = [];
  answers = (refl, refl);
  are_marks = tt;
  last_is = ap user_of (sym h);
  written_is = λ _. refl;
}
fold_all state (visit ∷ visits) last h =
    join state visit visits last h.0 (folded_by visit (answered visit h.1)) (fold_all visit.next visits last h.2)
