-- From item to item of a stream that is served, and to each of its ends.
use Rattle.std.proofs.Common.{◌≡◌, ℕ, ◌+◌, ◌-◌, ◌<◌, ◌≤◌, Bool, true, false, List, [], ◌∷◌, ◌++◌, ◌⊎◌, length, take, cond, Option}
use Rattle.std.proofs.Common.{Some, None, inl, inr, refl, sym, ap, ◌∙◌, subst, arith}
use Rattle.std.specs.Prelude.{IsSome, IsSomeAnd, is_some, nat_lt}
use Rattle.std.specs.Option.{option_map_or}
use Rattle.std.specs.List.{concat, Contains}
use Rattle.std.proofs.lemmas.Bool.{ltb-true, ltb-false}
use Rattle.std.specs.Io.KnownBytes.{Consumes, Appends}
use Rattle.std.proofs.KnownBytes.{Consumes-nil, Consumes-trans, Appends-nil, Appends-trans}
use Rattle.std.proofs.lemmas.List.{append_assoc, append-nil, length-append}
use Rattle.lj_session.specs.declared.command.Command.TheVariants.{Bye as ByeCommand}
use Rattle.lj_session.specs.declared.reply.Reply.{Reply}
use Rattle.lj_session.specs.declared.command.Command.{Command as Order}
use Rattle.lj_session.specs.declared.command.Command.TheVariants.{Advance, Measure}
use Rattle.lj_task.specs.Task.{Task}
use Rattle.lj_branch.specs.Named.{value_named}
use Rattle.lj_session.specs.Turns.{turns, waits_for, advance_turns, measure_turns}
use Rattle.lj_session.specs.Users.{Session, User}
use Rattle.lj_session.specs.UserState.{LiveSession, UserState, user_of, with_steps_restarted, live_session, pending_in, steps_before, turns_before}
use Rattle.lj_session.specs.Owner.{is_waited_for}
use Rattle.lj_session.proofs.Entries.{by_test}
use Rattle.lj_session.proofs.Holding.{named-held}
use Rattle.lj_session.proofs.Waiting.{rested_user}
use Rattle.lj_wire.specs.declared.item.Item.{Item}
use Rattle.lj_wire.specs.declared.item.Item.TheVariants.{Command, Bad, Last}
use Rattle.lj_wire.specs.declared.reader.phase.Phase.TheVariants.{Open, Over, Failed}
use Rattle.lj_wire.specs.Items.{is_ending}
use Rattle.lj_wire.specs.ReplyTexts.{text, is_memory}
use Rattle.lj_wire.specs.Told.{item_reply, item_text, texts, last_user}
use Rattle.lj_wire.specs.PendingItems.{item_before}
use Rattle.lj_wire.specs.Streams.{IsItem, IsPart}
use Rattle.lj_wire.specs.Progress.{TakesItems}
use Rattle.lj_wire.specs.LineReader.{LineReader, IsLost, IsHandedItem, HandsOutItem, Ceases, Fails, HandsNone, HasFailed}
use Rattle.lj_wire.proofs.Marks.{marked}
use Rattle.lj_wire.proofs.Handed.{lost_answered, ends_alike}
use Rattle.lj_wire.proofs.Progressing.{TakesItems-more, Splits-part, Splits-end, Added, added, marks-length, texts-length}
use Rattle.lj_engine.specs.declared.served.Served.{Served}
use Rattle.lj_engine.specs.declared.served.Served.TheVariants as served
use Rattle.lj_engine.specs.declared.running.Halt.{Halt}
use Rattle.lj_engine.specs.declared.running.Halt.TheVariants as halts
use Rattle.lj_end.specs.Seen.{Seen}
use Rattle.lj_end.specs.declared.pool.TheConstants.{MAX_AHEAD}
use Rattle.lj_engine.specs.Counting.{command_tiles, item_tiles, tiles, tiles_pending, CountsRise, FallsShort, HandedWithin}
use Rattle.lj_engine.specs.PendingBounds.{most_after, most_after_all, most_pending, steps_started, HasPendingAfter, HasPendingAfterAll}
use Rattle.lj_engine.specs.Coming.{state_tiles_coming}
use Rattle.lj_engine.specs.Endings.{served_of, ending_of}
use Rattle.lj_engine.specs.Served.{NoneEnds, EndsAs, AnswersAll, IsServed, Reaches, MayWait, StopsShort, Serves}
use Rattle.lj_engine.specs.Serving.{AnswersItem, Serving}
use Rattle.lj_engine.proofs.Going.{rises_more, rises_none}
use Rattle.lj_engine.proofs.Rested.{rested-tiles, rested-pending}

-- bytes that begin with items do so too where more bytes come after
pub TakesItems-on : (n : ℕ) (bytes : List ℕ) (items : List Item) (left more : List ℕ) → TakesItems n bytes items left
    → TakesItems n (bytes ++ more) items (left ++ more)
TakesItems-on n bytes [] left more t = ap (λ b. b ++ more) t
TakesItems-on n bytes (item ∷ items) left more t = (
  t.0,
  t.1 ++ more,
  ap (λ b. b ++ more) t.2 ∙ append_assoc t.0 t.1 more,
  t.3,
  t.4,
  TakesItems-on (n + 1) t.1 items left more t.5,
)

-- no item that was taken ends the connection
TakesItems-none_ends : (n : ℕ) (bytes : List ℕ) (items : List Item) (left : List ℕ)
    → TakesItems n bytes items left → NoneEnds items
TakesItems-none_ends n bytes [] left t = refl
TakesItems-none_ends n bytes (item ∷ items) left t = rw t.4 (TakesItems-none_ends (n + 1) t.1 items left t.5)

-- the tiles of one item more
tiles-more : (user : User) (items : List Item) (marks : List Bool) (item : Item) (mark : Bool)
    → length marks ≡ length items
    → tiles user (items ++ item ∷ []) (marks ++ mark ∷ [])
    ≡ tiles user items marks + item_tiles (last_user user items marks) item
tiles-more user [] [] item mark h = omega arith
tiles-more user [] (next ∷ marks) item mark h = absurd (omega (arith, h))
tiles-more user (first ∷ items) [] item mark h = absurd (omega (arith, h))
tiles-more user (first ∷ items) (next ∷ marks) item mark h =
    let rest = tiles-more (item_text user first next).1 items marks item mark (omega (arith, h)) in
    omega (arith, rest)

-- one that takes steps of its own has its session
advances : (n : ℕ) (o : Option Session) → 0 < advance_turns o n → IsSome o
advances n None h = absurd (omega (arith, h))
advances n (Some session) h = refl

measures : (o : Option Session) → 0 < measure_turns o → IsSome o
measures None h = absurd (omega (arith, h))
measures (Some session) h = refl

-- A command waits for a session of the user, and takes turns of its own or may wait for others.
abbrev Waits : UserState → (List ℕ → Type 0) → Order → Type 0
Waits present Others command = IsSomeAnd (waits_for command)
    (λ name. IsSome (value_named name (user_of present).sessions) × ((0 < turns (user_of present) command) ⊎ Others name))

own_there : (present : UserState) (Others : List ℕ → Type 0) (command : Order) → 0 < turns (user_of present) command → Waits present Others command
unfolding turns waits_for
own_there present Others (Advance name n) more = (advances n (value_named name (user_of present).sessions) more, inl more)
own_there present Others (Measure name) more = (measures (value_named name (user_of present).sessions) more, inl more)
own_there present Others command more = absurd (omega (arith, more))

-- so does one before which turns come
waits_there : (present : UserState) (Others : List ℕ → Type 0) → ((name : List ℕ) → 0 < pending_in present name → Others name)
    → (command : Order) → 0 < turns_before present command → Waits present Others command
waits_there present Others may command some = by_test (nat_lt 0 (steps_before present command))
    (λ t. for_steps (waits_for command) refl (ltb-true 0 (steps_before present command) t))
    (λ t. let none = ltb-false 0 (steps_before present command) t in own_there present Others command (omega (arith, some, none)))
  where
    there : (name : List ℕ) → 0 < pending_in present name → (o : Option LiveSession) → live_session present name ≡ o
        → IsSome (value_named name (user_of present).sessions)
    there name more None e = absurd (let none = rw e at more in omega (arith, none))
    there name more (Some session) e = ap is_some (named-held present name session e)

    for_steps : (o : Option (List ℕ)) → waits_for command ≡ o → 0 < steps_before present command → Waits present Others command
    for_steps None e more = absurd (let none = ap (λ o. option_map_or (pending_in present) o 0) e in omega (arith, none, more))
    for_steps (Some name) e more =
        let pending : 0 < pending_in present name = subst (λ o. 0 < option_map_or (pending_in present) o 0) e more in
        subst (λ o. IsSomeAnd o (λ name. IsSome (value_named name (user_of present).sessions)
        × ((0 < turns (user_of present) command) ⊎ Others name))) (sym e)
        (there name pending (live_session present name) refl, inr (may name pending))

-- a load takes no turns, and none come before it
lost_before : (present : UserState) (found item : Item) → IsLost found item → item_before present item ≡ 0
unfolding turns waits_for
lost_before present found item l = ap (item_before present) l.item_is

may_wait : (start : UserState) (before : List Item) (marks : List Bool) (present : UserState) (found item : Item)
    → HasPendingAfterAll start before marks present → IsHandedItem found item → 0 < item_before present item
    → MayWait start before marks (user_of present) found
may_wait start before marks present found item pending (inl same) some = of found (subst (λ i. 0 < item_before present i) same some)
  where
    of : (item : Item) → 0 < item_before present item → MayWait start before marks (user_of present) item
    of (Command command) more = waits_there present (λ name. 0 < most_pending start before marks name)
        (λ name some. let few = pending name in omega (arith, few, some)) command more
    of (Bad fault) more = absurd (omega (arith, more))
    of (Last fault) more = absurd (omega (arith, more))
may_wait start before marks present found item pending (inr l) some =
    let none = lost_before present found item l in absurd (omega (arith, none, some))

-- the most steps that may be pending after one item more
most-more : (user : User) (items : List Item) (marks : List Bool) (item : Item) (mark : Bool) (name : List ℕ) (n : ℕ)
    → length marks ≡ length items
    → most_after_all user (items ++ item ∷ []) (marks ++ mark ∷ []) name n
    ≡ most_after (last_user user items marks) item name (most_after_all user items marks name n)
most-more user [] [] item mark name n h = refl
most-more user [] (next ∷ marks) item mark name n h = absurd (omega (arith, h))
most-more user (first ∷ items) [] item mark name n h = absurd (omega (arith, h))
most-more user (first ∷ items) (next ∷ marks) item mark name n h =
    most-more (item_text user first next).1 items marks item mark name (most_after user first name n) (omega (arith, h))

-- as many may be pending, or more, if more may be before
most-monotone : (user : User) (item : Item) (name : List ℕ) (n m : ℕ) → n ≤ m
    → most_after user item name n ≤ most_after user item name m
most-monotone user (Command command) name n m few = by_test (is_waited_for (Some command) name)
    (λ t. rw t (omega arith))
    (λ t. rw t (omega (arith, few)))
most-monotone user (Bad fault) name n m few = few
most-monotone user (Last fault) name n m few = few

-- as many may be pending after what is handed out for an item
most_lost : (user : User) (found item : Item) (name : List ℕ) (n : ℕ) → IsLost found item
    → (most_after user item name n ≡ n) × (most_after user found name n ≡ n)
unfolding waits_for steps_started
most_lost user found item name n l = (
  ap (λ i. most_after user i name n) l.item_is ∙ omega arith,
  ap (λ i. most_after user i name n) l.found_is ∙ omega arith,
)

most_alike : (user : User) (found item : Item) (name : List ℕ) (n : ℕ) → IsHandedItem found item
    → most_after user item name n ≡ most_after user found name n
most_alike user found item name n (inl same) = ap (λ i. most_after user i name n) same
most_alike user found item name n (inr l) = let both = most_lost user found item name n l in both.0 ∙ sym both.1

-- no more steps are pending than may be, after one item more
pending-within : (start : UserState) (items : List Item) (marks : List Bool) (present : UserState) (found item : Item) (mark : Bool)
    (last : UserState) → HasPendingAfterAll start items marks present → user_of present ≡ last_user (user_of start) items marks
    → length marks ≡ length items → IsHandedItem found item → HasPendingAfter present item last
    → HasPendingAfterAll start (items ++ found ∷ []) (marks ++ mark ∷ []) last
pending-within start items marks present found item mark last before same many handed after name =
    subst (λ n. pending_in last name ≤ n)
    (sym (most-more (user_of start) items marks found mark name (pending_in start name) many)) (subst
    (λ u. pending_in last name ≤ most_after u found name (most_pending start items marks name)) same
    (let few = after name in
    let alike = most_alike (user_of present) found item name (pending_in present name) handed in
    let more = most-monotone (user_of present) found name (pending_in present name) (most_pending start items marks name) (before name) in
    omega (arith, few, alike, more)))

-- what is handed out for an item takes the same tiles
lost_tiles : (user : User) (found item : Item) → IsLost found item → (item_tiles user item ≡ 0)
    × (item_tiles user found ≡ 0)
unfolding command_tiles
lost_tiles user found item l = (ap (item_tiles user) l.item_is, ap (item_tiles user) l.found_is)

tiles_alike : (user : User) (found item : Item) → IsHandedItem found item → item_tiles user item ≡ item_tiles user found
tiles_alike user found item (inl same) = ap (item_tiles user) same
tiles_alike user found item (inr l) = let none = lost_tiles user found item l in none.0 ∙ sym none.1

endings_alike : (found item : Item) → IsHandedItem found item → ending_of item ≡ ending_of found
endings_alike found item (inl same) = ap ending_of same
endings_alike found item (inr l) = ap ending_of l.item_is ∙ sym (ap ending_of l.found_is)

-- how serving ends with an item
goes_on : (item : Item) → ending_of item ≡ None → is_ending item ≡ false
goes_on (Command ByeCommand) e = absurd (cc)
goes_on (Command command) e = refl
goes_on (Bad fault) e = refl
goes_on (Last fault) e = absurd (cc)

-- what an item is told, under the mark that it tells
record Told (between next : User) (found : Item) (words : List ℕ) : Type 0 where
  mark : Bool
  tells : item_text between found mark ≡ (words, next)
  only : mark ≡ true → is_memory (item_text between found mark).0 ≡ true

told_of : (between next : User) (found item : Item) (reply : Reply) → IsHandedItem found item
    → AnswersItem between item reply next → Told between next found (text next reply)
told_of between next found item reply handed answers = by_found handed
  where
    with_mark : (mark : Bool) → item_reply between found mark ≡ (reply, next) → Told between next found (text next reply)
    with_mark mark is =
        let first : item_text between found mark ≡ (text next reply, next) = ap (λ a. (text a.1 a.0, a.1)) is in
        let same : item_text between found (is_memory (item_text between found mark).0) ≡ item_text between found mark =
        sym (marked between found mark) in
        record {
          mark = is_memory (item_text between found mark).0;
          tells = same ∙ first;
          only = λ marks. ap (λ t. is_memory t.0) same ∙ marks;
        }

    by_found : IsHandedItem found item → Told between next found (text next reply)
    by_found (inl same) = with_mark answers.0 (ap (λ i. item_reply between i answers.0) (sym same) ∙ answers.1)
    by_found (inr l) = with_mark true (sym (lost_answered between found item answers.0 l) ∙ answers.1)

-- what is so where the pool is given up
gives_up : (halt : Halt) {state : UserState} {read written : List ℕ} {old new : Seen} → StopsShort state read written old new
    → IsServed (served_of halt) state read written old new None
gives_up halts.PoolClosed short = (refl, short)
gives_up halts.TooManyStrays short = (refl, short)

-- serving begins with nothing read
pub serving-start : (start : UserState) (first : LineReader) (was : Option (List ℕ)) (old : Seen)
    → first.items ≡ 0 → first.phase ≡ Open
    → Serving start first first was was old old (with_steps_restarted start)
serving-start start first was old none is_open = record {
  read = [];
  written = [];
  items = [];
  marks = [];
  taken = Consumes-nil first.left;
  appends = Appends-nil was;
  takes = refl;
  items_are = sym none;
  are_marks = tt;
  written_is = refl;
  next_is = rested_user start;
  counted = rises_none old old (0 + tiles_pending start - state_tiles_coming (with_steps_restarted start)) refl refl
      (let all = rested-tiles start in omega (arith, all));
  handed = let all = rested-tiles start in omega (arith, all);
  pending = λ name. let same = rested-pending start name in omega (arith, same);
  phase = is_open;
  errors = refl;
}

module _ (start : UserState) (first now : LineReader) (was is : Option (List ℕ)) (old new : Seen) (present : UserState)
    (s : Serving start first now was is old new present) where
  abbrev user : User
  user = user_of start

  -- the work goes on
  pub serving-goes : (next : UserState) (newer : Seen) → user_of next ≡ user_of present
      → CountsRise (state_tiles_coming present - state_tiles_coming next) new newer
      → HandedWithin (state_tiles_coming present) (state_tiles_coming next) new newer
      → ((name : List ℕ) → pending_in next name ≤ pending_in present name)
      → Serving start first now was is old newer next
  serving-goes next newer same risen handed fewer = record {
    read = s.read;
    written = s.written;
    items = s.items;
    marks = s.marks;
    taken = s.taken;
    appends = s.appends;
    takes = s.takes;
    items_are = s.items_are;
    are_marks = s.are_marks;
    written_is = s.written_is;
    next_is = same ∙ s.next_is;
    counted = rises_more (tiles user s.items s.marks + tiles_pending start - state_tiles_coming present)
        (state_tiles_coming present - state_tiles_coming next)
        (tiles user s.items s.marks + tiles_pending start - state_tiles_coming next) s.counted risen (omega arith);
    handed = let before = s.handed in omega (arith, before, handed);
    pending = λ name. let before = s.pending name in let few = fewer name in omega (arith, before, few);
    phase = s.phase;
    errors = s.errors;
  }

  number_is : now.items ≡ 0 + length s.items
  number_is = omega (arith, s.items_are)

  -- bytes more are read, and what is written is as it was
  serves-on : (ending : Served) (last : LineReader) (part : List ℕ) (newer : Seen) (state : Option UserState)
      → Consumes now.left last.left part
      → IsServed ending start (s.read ++ part) s.written old newer state
      → Serves ending start first.left last.left was is old newer state
  serves-on ending last part newer state taken served = record {
    read = s.read ++ part;
    written = s.written;
    taken = Consumes-trans first.left now.left last.left s.read part s.taken taken;
    appends = s.appends;
    is_served = served;
  }

  -- before the next item the pool is given up
  pub serving-stops : (halt : Halt) (newer : Seen) → MAX_AHEAD < length newer.owed
      → ((task : Task) → Contains newer.owed task → 0 < pending_in present task.name.label.session)
      → Serves (served_of halt) start first.left now.left was is old newer None
  serving-stops halt newer many pending =
      record { read = s.read; written = s.written; taken = s.taken; appends = s.appends; is_served = gives_up halt short }
    where
      short : StopsShort start s.read s.written old newer
      short = inr (record {
        count = now.items;
        left = [];
        between = user_of present;
        progress = record {
          items = s.items;
          marks = s.marks;
          takes = s.takes;
          counted = s.items_are;
          are_marks = s.are_marks;
          written_is = s.written_is;
          next_is = s.next_is;
        };
        pending = λ task there.
            let some = pending task there in
            let few = s.pending task.name.label.session in
            omega (arith, some, few);
        many = many;
      })

  -- the state is handed back
  module _ (back : UserState) (same : user_of back ≡ user_of present) (few : state_tiles_coming present ≤ tiles_pending back) where
    serving-part : (ending : Served) → ((items : List Item) → NoneEnds items → EndsAs ending items) → (part : List ℕ)
        → IsPart now.items part → AnswersAll ending start (s.read ++ part) s.written old new back
    serving-part ending none part p = record {
      dialogue = record {
        items = s.items;
        rest = part;
        marks = s.marks;
        splits = Splits-part 0 (s.read ++ part) s.items part (TakesItems-on 0 s.read s.items [] part s.takes)
            (subst (λ n. IsPart n part) number_is p);
        are_marks = s.are_marks;
        written_is = s.written_is;
        next_is = same ∙ s.next_is;
      };
      ending = none s.items (TakesItems-none_ends 0 s.read s.items [] s.takes);
      counted = rises_more (tiles user s.items s.marks + tiles_pending start - state_tiles_coming present) 0
          (tiles user s.items s.marks + tiles_pending start - tiles_pending back) s.counted (rises_none new new 0 refl refl (omega arith))
          (omega (arith, few));
    }

    -- the input has ended
    pub serving-ceases : (last : LineReader) → Ceases now last
        → Serves served.End start first.left last.left was is old new (Some back)
    serving-ceases last c = serves-on served.End last c.part new (Some back) c.taken
        (serving-part served.End (λ _ ends. ends) c.part c.is_part)

    -- a read has failed
    pub serving-fails : (last : LineReader) → Fails now last
        → Serves served.ReadFault start first.left last.left was is old new (Some back)
    serving-fails last f = serves-on served.ReadFault last f.part new (Some back) f.taken
        (serving-part served.ReadFault (λ _ ends. ends) f.part f.is_part)

  -- an item comes
  module _ (after : LineReader) (item : Item) (h : HandsOutItem now after item) where
    taken_more : Consumes first.left after.left (s.read ++ h.front)
    taken_more = Consumes-trans first.left now.left after.left s.read h.front s.taken h.taken

    takes_more : TakesItems 0 (s.read ++ h.front) s.items h.front
    takes_more = TakesItems-on 0 s.read s.items [] h.front s.takes

    is_next : IsItem (0 + length s.items) h.front h.found
    is_next = subst (λ n. IsItem n h.front h.found) number_is h.is_item

    reaches : Reaches user (s.read ++ h.front) s.written (user_of present) h.found
    reaches = record {
      count = now.items;
      left = h.front;
      progress = record {
        items = s.items;
        marks = s.marks;
        takes = takes_more;
        counted = s.items_are;
        are_marks = s.are_marks;
        written_is = s.written_is;
        next_is = s.next_is;
      };
      front = h.front;
      behind = [];
      goes_on = sym (append-nil h.front);
      is_item = h.is_item;
    }

    -- it waits, and the pool is given up
    stops : (newer : Seen) → 0 < item_before present item
        → FallsShort (state_tiles_coming present + item_tiles (user_of present) item) new newer
        → StopsShort start (s.read ++ h.front) s.written old newer
    unfolding reaches
    stops newer waits missing = inl (record {
      between = user_of present;
      item = h.found;
      reaches = reaches;
      waits = may_wait start s.items s.marks present h.found item s.pending h.is_found waits;
      missing =
          let handed = s.handed in
          let same = tiles_alike (user_of present) h.found item h.is_found in
          omega (arith, missing, handed, same);
    })

    pub serving-halts : (halt : Halt) (newer : Seen) → 0 < item_before present item
        → FallsShort (state_tiles_coming present + item_tiles (user_of present) item) new newer
        → Serves (served_of halt) start first.left after.left was is old newer None
    serving-halts halt newer waits missing =
        serves-on (served_of halt) after h.front newer None h.taken (gives_up halt (stops newer waits missing))

    -- something is written for it
    serves-more : (ending : Served) (more : List ℕ) (now_is : Option (List ℕ)) (newer : Seen) (state : Option UserState)
        → Appends is now_is more
        → IsServed ending start (s.read ++ h.front) (s.written ++ more) old newer state
        → Serves ending start first.left after.left was now_is old newer state
    serves-more ending more now_is newer state appends served = record {
      read = s.read ++ h.front;
      written = s.written ++ more;
      taken = taken_more;
      appends = Appends-trans was is now_is s.written more s.appends appends;
      is_served = served;
    }

    -- it is answered
    module _ (reply : Reply) (last : UserState) (answers : AnswersItem (user_of present) item reply (user_of last)) where
      abbrev words : List ℕ
      words = text (user_of last) reply

      abbrev t : Told (user_of present) (user_of last) h.found words
      t = told_of (user_of present) (user_of last) h.found item reply h.is_found answers

      -- and the text is not written to its end
      pub serving-breaks : (n : ℕ) (now_is : Option (List ℕ)) (newer : Seen) (back : UserState) → user_of back ≡ user_of last
          → n ≤ length words → Appends is now_is (take n words)
          → Serves served.WriteFault start first.left after.left was now_is old newer (Some back)
      serving-breaks n now_is newer back same within appends =
          serves-more served.WriteFault (take n words) now_is newer (Some back) appends (record {
            before = s.written;
            between = user_of present;
            item = h.found;
            reaches = reaches;
            mark = t.mark;
            only_memory = t.only;
            bytes = n;
            within = subst (λ item_text. n ≤ length item_text.0) (sym t.tells) within;
            written_is = ap (λ item_text. s.written ++ take n item_text.0) (sym t.tells);
            next_is = same ∙ ap (λ item_text. item_text.1) (sym t.tells);
          })

      -- and the text is written
      module _ (now_is : Option (List ℕ)) (appends : Appends is now_is words) (newer : Seen)
          (risen : CountsRise (state_tiles_coming present + item_tiles (user_of present) item - state_tiles_coming last) new newer)
          (handed : HandedWithin (state_tiles_coming present + item_tiles (user_of present) item) (state_tiles_coming last) new newer) where
        abbrev items_more : List Item
        items_more = s.items ++ h.found ∷ []

        abbrev marks_more : List Bool
        marks_more = s.marks ++ t.mark ∷ []

        marks_many : length s.marks ≡ length s.items
        marks_many = marks-length s.marks (texts user s.items s.marks) s.are_marks ∙ texts-length user s.items s.marks

        more : Added user s.items s.marks h.found t.mark
        more = added user s.items s.marks h.found t.mark s.are_marks
            (subst (λ u. t.mark ≡ true → is_memory (item_text u h.found t.mark).0 ≡ true) s.next_is t.only)

        tells_last : item_text (last_user user s.items s.marks) h.found t.mark ≡ (words, user_of last)
        tells_last = ap (λ u. item_text u h.found t.mark) (sym s.next_is) ∙ t.tells

        written_more : s.written ++ words ≡ concat (texts user items_more marks_more)
        written_more =
            ap (λ w. w ++ words) s.written_is
            ∙ ap (λ item_text. concat (texts user s.items s.marks) ++ item_text.0) (sym tells_last)
            ∙ more.written_is

        next_more : user_of last ≡ last_user user items_more marks_more
        next_more = ap (λ item_text. item_text.1) (sym tells_last) ∙ more.next_is

        tiles_sum : tiles user items_more marks_more ≡ tiles user s.items s.marks + item_tiles (user_of present) item
        tiles_sum =
            let sum = tiles-more user s.items s.marks h.found t.mark marks_many in
            let same = tiles_alike (user_of present) h.found item h.is_found in
            let from : item_tiles (user_of present) h.found ≡ item_tiles (last_user user s.items s.marks) h.found =
            ap (λ u. item_tiles u h.found) s.next_is in
            omega (arith, sum, same, from)

        handed_more : HandedWithin (tiles user items_more marks_more + tiles_pending start) (state_tiles_coming last) old newer
        handed_more =
            let sum = tiles_sum in
            let before = s.handed in
            omega (arith, sum, before, handed)

        counted_more : CountsRise (tiles user items_more marks_more + tiles_pending start - state_tiles_coming last) old newer
        counted_more =
            let sum = tiles_sum in
            rises_more (tiles user s.items s.marks + tiles_pending start - state_tiles_coming present)
            (state_tiles_coming present + item_tiles (user_of present) item - state_tiles_coming last)
            (tiles user items_more marks_more + tiles_pending start - state_tiles_coming last)
            s.counted risen (omega (arith, sum))

        pub serving-more : ending_of item ≡ None → HasPendingAfter present item last → Serving start first after was now_is old newer last
        serving-more none pending =
            let goes : is_ending item ≡ false = goes_on item none in
            record {
              read = s.read ++ h.front;
              written = s.written ++ words;
              items = items_more;
              marks = marks_more;
              taken = taken_more;
              appends = Appends-trans was is now_is s.written words s.appends appends;
              takes = TakesItems-more 0 (s.read ++ h.front) s.items h.front h.front [] h.found takes_more
                  (sym (append-nil h.front)) is_next (sym (ends_alike h.found item h.is_found) ∙ goes);
              items_are = length-append s.items (h.found ∷ []) ∙ ap (λ n. n + 1) s.items_are ∙ sym h.items_is;
              are_marks = more.are_marks;
              written_is = written_more;
              next_is = next_more;
              counted = counted_more;
              handed = handed_more;
              pending = pending-within start s.items s.marks present h.found item t.mark last s.pending s.next_is marks_many h.is_found pending;
              phase = h.phase_is ∙ ap (λ end. cond end Over Open) goes;
              errors = h.errors_is ∙ s.errors;
            }

        -- and the connection ends with it
        module _ (back : UserState) (same_back : user_of back ≡ user_of last) (few : state_tiles_coming last ≤ tiles_pending back) where
          ended : (kind : Served) → EndsAs kind items_more → is_ending item ≡ true
              → AnswersAll kind start (s.read ++ h.front) (s.written ++ words) old newer back
          ended kind ending over = record {
            dialogue = record {
              items = items_more;
              rest = [];
              marks = marks_more;
              splits = Splits-end 0 (s.read ++ h.front) s.items h.front h.front [] h.found takes_more
                  (sym (append-nil h.front)) is_next (sym (ends_alike h.found item h.is_found) ∙ over);
              are_marks = more.are_marks;
              written_is = written_more;
              next_is = same_back ∙ next_more;
            };
            ending = ending;
            counted = rises_more (tiles user items_more marks_more + tiles_pending start - state_tiles_coming last) 0
                (tiles user items_more marks_more + tiles_pending start - tiles_pending back) counted_more
                (rises_none newer newer 0 refl refl (omega arith)) (omega (arith, few));
          }

          serving-ends_by : (found : Item) (kind : Served) → h.found ≡ found → ending_of found ≡ Some kind
              → Serves kind start first.left after.left was now_is old newer (Some back)
          serving-ends_by (Command ByeCommand) served.Bye is e =
              serves-more served.Bye words now_is newer (Some back) appends
              (ended served.Bye (s.items, ap (λ i. s.items ++ i ∷ []) is)
              (ends_alike h.found item h.is_found ∙ ap is_ending is))
          serving-ends_by (Last fault) served.Ended is e =
              serves-more served.Ended words now_is newer (Some back) appends
              (ended served.Ended (s.items, fault, ap (λ i. s.items ++ i ∷ []) is)
              (ends_alike h.found item h.is_found ∙ ap is_ending is))
          serving-ends_by found kind is e = absurd (cc)

          pub serving-ends : (kind : Served) → ending_of item ≡ Some kind
              → Serves kind start first.left after.left was now_is old newer (Some back)
          serving-ends kind e = serving-ends_by h.found kind refl (sym (endings_alike h.found item h.is_found) ∙ e)

-- a reader that goes on hands out none only where the input has ended, and fails only where a read does
pub ceases_open : (old new : LineReader) → old.phase ≡ Open → HandsNone old new → Ceases old new
ceases_open old new is_open (inl over) = absurd (let differ : Open ≡ Over = sym is_open ∙ over.0 in cc)
ceases_open old new is_open (inr ceases) = ceases

pub fails_open : (old new : LineReader) → old.phase ≡ Open → HasFailed old new → Fails old new
fails_open old new is_open (inl failed) = absurd (let differ : Open ≡ Failed = sym is_open ∙ failed.0 in cc)
fails_open old new is_open (inr fails) = fails
