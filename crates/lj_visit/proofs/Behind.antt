-- What serving answers, in items of its own, and behind the items that a state has answered.
use Rattle.std.proofs.Common.{◌≡◌, ℕ, suc, ◌+◌, ◌≤◌, Bool, true, false, List, [], ◌∷◌, ◌++◌, length, map, take, drop, Option}
use Rattle.std.proofs.Common.{Some, None}
use Rattle.std.proofs.Common.{refl, sym, ap, ◌∙◌, subst, arith, inl, inr}
use Rattle.std.specs.List.{concat}
use Rattle.lj_session.specs.Users.{User, fresh_user}
use Rattle.lj_session.specs.UserState.{UserState, Reached, user_of}
use Rattle.lj_wire.specs.declared.item.Item.{Item}
use Rattle.lj_wire.specs.declared.item.Item.TheVariants.{Command}
use Rattle.lj_wire.specs.Items.{is_ending}
use Rattle.lj_wire.specs.Progress.{Progress, TakesItems}
use Rattle.lj_wire.specs.ReplyTexts.{is_memory}
use Rattle.lj_wire.specs.StreamLaws.{CommandsAreItems}
use Rattle.lj_wire.specs.Streams.{IsItem, Splits, AreMarks, Dialogue}
use Rattle.lj_wire.specs.Told.{first_mark, other_marks, item_text, texts, last_user}
use Rattle.lj_wire.proofs.Progressing.{added, marks-length, texts-length}
use Rattle.lj_engine.specs.declared.served.Served.{Served}
use Rattle.lj_engine.specs.declared.served.Served.TheVariants.{End, Bye, Ended, ReadFault, WriteFault, PoolClosed, TooManyStrays}
use Rattle.lj_end.specs.Seen.{Seen}
use Rattle.lj_engine.specs.Served.{BreaksOff, IsServed, StopsShort}
use Rattle.lj_visit.specs.Behind.{BeginsWith, IsSent, AreAnswered, AnswersBehind}
use Rattle.lj_visit.specs.VisitLaws.{ReachedIsAnsweredBehind}
use Rattle.lj_visit.proofs.Joining.{texts-join}

begin-splits : (n : ℕ) (bytes : List ℕ) (items : List Item) (rest : List ℕ) → Splits n bytes items rest
    → BeginsWith n bytes items
begin-splits n bytes [] rest h = tt
begin-splits n bytes (item ∷ items) rest h =
    (h.0, h.1, h.2, h.3, (λ e. (h.4 e).0), by (is_ending item) refl (λ e. begin-splits (n + 1) h.1 items rest (h.5 e)))
  where
    by : (ends : Bool) → is_ending item ≡ ends → (is_ending item ≡ false → BeginsWith (n + 1) h.1 items)
        → BeginsWith (n + 1) h.1 items
    by true e others = subst (BeginsWith (n + 1) h.1) (sym (h.4 e).0) tt
    by false e others = others e

begin-taken : (n : ℕ) (bytes : List ℕ) (items : List Item) (left : List ℕ) → TakesItems n bytes items left
    → BeginsWith n bytes items
begin-taken n bytes [] left t = tt
begin-taken n bytes (item ∷ items) left t = (
  t.0,
  t.1,
  t.2,
  t.3,
  (λ h. absurd (let differ : true ≡ false = sym h ∙ t.4 in cc)),
  begin-taken (n + 1) t.1 items left t.5,
)

begin-taken-more : (n : ℕ) (bytes : List ℕ) (items : List Item) (left front behind : List ℕ) (item : Item)
    → TakesItems n bytes items left → left ≡ front ++ behind → IsItem (n + length items) front item
    → BeginsWith n bytes (items ++ item ∷ [])
begin-taken-more n bytes [] left front behind item t e i = (
  front,
  behind,
  t ∙ e,
  subst (λ m. IsItem m front item) (let s : n + 0 ≡ n = omega arith in s) i,
  (λ h. refl),
  tt,
)
begin-taken-more n bytes (first ∷ items) left front behind item t e i =
    let s : n + suc (length items) ≡ n + 1 + length items = omega arith in (
      t.0,
      t.1,
      t.2,
      t.3,
      (λ h. absurd (let differ : true ≡ false = sym h ∙ t.4 in cc)),
      begin-taken-more (n + 1) t.1 items left front behind item t.5 e (subst (λ m. IsItem m front item) s i),
    )

-- what serving from a user on answers, in items of its own
pub record Own (served : Served) (user : User) (read written : List ℕ) : Type 0 where
  pub items : List Item
  pub marks : List Bool
  pub answered : AreAnswered served read items
  pub are_marks : AreMarks marks (texts user items marks)
  pub sent : IsSent served (texts user items marks) written

own-broken : (user : User) (read written : List ℕ) (next : User) → BreaksOff user read written next
    → Own WriteFault user read written
own-broken user read written next b =
    let p = b.reaches.progress in
    let item = b.item in
    let mark = b.mark in
    let same = marks-length p.marks (texts user p.items p.marks) p.are_marks ∙ texts-length user p.items p.marks in
    let number : b.reaches.count ≡ 0 + length p.items = omega (arith, p.counted) in
    let more = added user p.items p.marks item mark p.are_marks
    (subst (λ (u : User). mark ≡ true → is_memory (item_text u item mark).0 ≡ true) p.next_is b.only_memory) in
    record {
      items = p.items ++ item ∷ [];
      marks = p.marks ++ mark ∷ [];
      answered =
          begin-taken-more 0 read p.items b.reaches.left b.reaches.front b.reaches.behind item p.takes b.reaches.goes_on
          (subst (λ m. IsItem m b.reaches.front item) number b.reaches.is_item);
      are_marks = more.are_marks;
      sent = record {
        others = texts user p.items p.marks;
        last = (item_text (last_user user p.items p.marks) item mark).0;
        bytes = b.bytes;
        texts = texts-join user p.items (item ∷ []) p.marks (mark ∷ []) same;
        within = subst (λ (u : User). b.bytes ≤ length (item_text u item mark).0) p.next_is b.within;
        written_is = b.written_is
            ∙ ap (λ xs. xs ++ take b.bytes (item_text b.between item mark).0) p.written_is
            ∙ ap (λ (u : User). concat (texts user p.items p.marks) ++ take b.bytes (item_text u item mark).0) p.next_is;
      };
    }

own-whole : (user : User) (read written : List ℕ) (next : User) (served : Served)
    → ((items : List Item) (rest : List ℕ) → Splits 0 read items rest → AreAnswered served read items)
    → ((replies : List (List ℕ)) → written ≡ concat replies → IsSent served replies written)
    → Dialogue user read written next → Own served user read written
own-whole user read written next served answered sent d = record {
  items = d.items;
  marks = d.marks;
  answered = answered d.items d.rest d.splits;
  are_marks = d.are_marks;
  sent = sent (texts user d.items d.marks) d.written_is;
}

own-begun : (user : User) (read : List ℕ) (count : ℕ) (written left : List ℕ) (next : User) (served : Served)
    → ((items : List Item) → BeginsWith 0 read items → AreAnswered served read items)
    → ((replies : List (List ℕ)) → written ≡ concat replies → IsSent served replies written)
    → Progress user read count written left next → Own served user read written
own-begun user read count written left next served answered sent p = record {
  items = p.items;
  marks = p.marks;
  answered = answered p.items (begin-taken 0 read p.items left p.takes);
  are_marks = p.are_marks;
  sent = sent (texts user p.items p.marks) p.written_is;
}

own-short : (state : UserState) (read written : List ℕ) (old new : Seen) (served : Served)
    → ((items : List Item) → BeginsWith 0 read items → AreAnswered served read items)
    → ((replies : List (List ℕ)) → written ≡ concat replies → IsSent served replies written)
    → StopsShort state read written old new → Own served (user_of state) read written
own-short state read written old new served answered sent (inl at) =
    own-begun (user_of state) read at.reaches.count written at.reaches.left at.between served answered sent at.reaches.progress
own-short state read written old new served answered sent (inr between) =
    own-begun (user_of state) read between.count written between.left between.between served answered sent between.progress

-- each way in which serving ends
pub own_of : (served : Served) (state : UserState) (read written : List ℕ) (old new : Seen) (next : Option UserState)
    → IsServed served state read written old new next → Own served (user_of state) read written
own_of End state read written old new None is = absurd is
own_of End state read written old new (Some next) is =
    own-whole (user_of state) read written (user_of next) End (λ items rest h. (rest, h)) (λ replies h. h) is.dialogue
own_of Bye state read written old new None is = absurd is
own_of Bye state read written old new (Some next) is =
    own-whole (user_of state) read written (user_of next) Bye (λ items rest h. (rest, h)) (λ replies h. h) is.dialogue
own_of Ended state read written old new None is = absurd is
own_of Ended state read written old new (Some next) is =
    own-whole (user_of state) read written (user_of next) Ended (λ items rest h. (rest, h)) (λ replies h. h) is.dialogue
own_of ReadFault state read written old new None is = absurd is
own_of ReadFault state read written old new (Some next) is =
    own-whole (user_of state) read written (user_of next) ReadFault (λ items rest h. (rest, h)) (λ replies h. h) is.dialogue
own_of WriteFault state read written old new None is = absurd is
own_of WriteFault state read written old new (Some next) is = own-broken (user_of state) read written (user_of next) is
own_of PoolClosed state read written old new next is =
    own-short state read written old new PoolClosed (λ items h. h) (λ replies h. h) is.1
own_of TooManyStrays state read written old new next is =
    own-short state read written old new TooManyStrays (λ items h. h) (λ replies h. h) is.1

-- a mark for each item, where a missing one is not set
abbrev one_each : List Item → List Bool → List Bool
one_each [] marks = []
one_each (item ∷ items) marks = first_mark marks ∷ one_each items (other_marks marks)

one_each-length : (items : List Item) (marks : List Bool) → length (one_each items marks) ≡ length items
one_each-length [] marks = refl
one_each-length (item ∷ items) marks = ap suc (one_each-length items (other_marks marks))

one_each-last : (user : User) (items : List Item) (marks : List Bool)
    → last_user user items (one_each items marks) ≡ last_user user items marks
one_each-last user [] marks = refl
one_each-last user (item ∷ items) marks =
    one_each-last (item_text user item (first_mark marks)).1 items (other_marks marks)

drop-front : (front behind : List (List ℕ)) → drop (length front) (front ++ behind) ≡ behind
drop-front [] behind = refl
drop-front (text ∷ front) behind = drop-front front behind

behind_alone : CommandsAreItems → (state : UserState) (served : Served) (read written : List ℕ) → Reached state
    → Own served (user_of state) read written → AnswersBehind state served read written
behind_alone are_items state served read written reached own =
    let fresh = fresh_user state.quota in
    let earlier = map (λ command. Command command) reached.commands in
    let marks = one_each earlier reached.marks in
    let same = one_each-length earlier reached.marks in
    let user : user_of state ≡ last_user fresh earlier marks =
    reached.leads ∙ sym (are_items fresh reached.commands reached.marks)
    ∙ sym (one_each-last fresh earlier reached.marks) in
    let front = texts fresh earlier marks in
    let own_texts = texts (user_of state) own.items own.marks in
    let joined : texts fresh (earlier ++ own.items) (marks ++ own.marks) ≡ front ++ own_texts =
    texts-join fresh earlier own.items marks own.marks same
    ∙ ap (λ (u : User). front ++ texts u own.items own.marks) (sym user) in
    let behind : drop (length earlier) (texts fresh (earlier ++ own.items) (marks ++ own.marks)) ≡ own_texts =
    ap (drop (length earlier)) joined
    ∙ ap (λ n. drop n (front ++ own_texts)) (sym (texts-length fresh earlier marks))
    ∙ drop-front front own_texts in
    record {
      earlier = earlier;
      earlier_marks = marks;
      one_each = same;
      leads = user;
      items = own.items;
      marks = own.marks;
      answered = own.answered;
      are_marks = subst (AreMarks own.marks) (sym behind) own.are_marks;
      sent = subst (λ replies. IsSent served replies written) (sym behind) own.sent;
    }

-- a state that is reached is served behind the items that have led to it
pub behind_reached : CommandsAreItems → ReachedIsAnsweredBehind
behind_reached are_items served state read written old new next reached is =
    behind_alone are_items state served read written reached (own_of served state read written old new next is)
