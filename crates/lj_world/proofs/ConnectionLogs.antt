-- A connection with the items that arrived at it, and how it changes while the row of its user stays.
use Rattle.std.proofs.Common.{◌≡◌, ℕ, ◌<◌, Bool, true, false, ◌||◌, cond, List, [], ◌∷◌, ◌++◌, Option, Some, None, inl, inr, refl, sym, ◌∙◌, ap, subst, subst₂, append_assoc, append-nil, arith, true≢false}
use Rattle.std.specs.List.{list_any}
use Rattle.lj_branch.specs.Named.{value_named}
use Rattle.lj_session.specs.declared.command.Command.{Command as Order}
use Rattle.lj_session.specs.declared.command.Command.TheVariants.{Advance}
use Rattle.lj_session.specs.Users.{Session, User}
use Rattle.lj_session.specs.Answers.{can_advance}
use Rattle.lj_session.specs.Turns.{turns, advance_turns}
use Rattle.lj_session.specs.Owner.{Owner, user_in, rest_of}
use Rattle.lj_session.specs.OwnerLaws.{user_taking}
use Rattle.lj_wire.specs.declared.item.Item.{Item}
use Rattle.lj_wire.specs.declared.item.Item.TheVariants.{Command}
use Rattle.lj_wire.specs.Items.{is_ending}
use Rattle.lj_wire.specs.Told.{item_text}
use Rattle.lj_world.specs.Machine.{ConnectionState, waiting, inside, gone, Connection, with_connection_state}
use Rattle.lj_world.specs.Connections.{IsDone}
use Rattle.lj_world.specs.Scripts.{ConnectionHistory, is_closed, items_to_end}
use Rattle.lj_world.specs.RunLaws.{WaitsOn}
use Rattle.lj_world.proofs.Answering.{Texts, AnsweredAll, AnsweredAll-push}
use Rattle.lj_world.proofs.Cuts.{NoneEnds, OneEnds, cut-none, cut-one, cut-last, none-append, none-single, one-append, one-after}

-- a connection, its number, and all items that arrived at it
pub record ConnectionLog : Type 0 where
  pub id : ℕ
  pub items : List Item
  pub connection : Connection

-- its history
abbrev pub history_of : ConnectionLog → ConnectionHistory
history_of log = record { id = log.id; user = log.connection.user; items = log.items; ended = log.connection.ended }

abbrev pub log_with : Connection → ConnectionLog → ConnectionLog
log_with connection log = record log { connection = connection }

abbrev pub log_inside : Owner → ConnectionLog → ConnectionLog
log_inside owner log = log_with (with_connection_state (inside owner) log.connection) log

-- the pending command is answered as the command before it would have been
pub record GoesOn (user : User) (command : Order) (next : User) (left : Order) : Type 0 where
  pub alike : (mark : Bool) → item_text next (Command left) mark ≡ item_text user (Command command) mark
  pub waits : WaitsOn user command next left

rests_once : (user : User) (command : Order) → 0 < turns user (rest_of command)
    → (user_taking user (rest_of command) ≡ user) × (rest_of (rest_of command) ≡ rest_of command)
unfolding rest_of turns
rests_once user (Advance name n) some = absurd (by (value_named name user.sessions) some)
  where
    by : (o : Option Session) → 0 < advance_turns o 0 → ⊥
    by None h = omega (arith, h)
    by (Some session) h = at (can_advance session 0) h
      where
        at : (b : Bool) → 0 < cond b 0 0 → ⊥
        at true k = omega (arith, k)
        at false k = omega (arith, k)
rests_once user command some = (refl, refl)

-- and so is the one after that
waits_still : (value : User) (item : Order) (user : User) (command : Order) (next : User) (left : Order)
    → WaitsOn value item user command → WaitsOn user command next left → WaitsOn value item next left
waits_still value item user command next left (inl (u, c)) h =
    subst₂ (λ v k. WaitsOn v k next left) u c h
waits_still value item user command next left (inr t) (inl (u, c)) =
    inr (record { some = t.some; counts = u ∙ t.counts; rest = c ∙ t.rest })
waits_still value item user command next left (inr t) (inr h) =
    let once = rests_once user item (subst (λ k. 0 < turns user k) t.rest h.some) in
    inr (record {
      some = t.some;
      counts = h.counts ∙ ap (user_taking user) t.rest ∙ once.0 ∙ t.counts;
      rest = h.rest ∙ ap rest_of t.rest ∙ once.1;
    })

goes_on_still : (value : User) (item : Order) (user : User) (command : Order) (next : User) (left : Order)
    → GoesOn value item user command → GoesOn user command next left → GoesOn value item next left
goes_on_still value item user command next left g h = record {
  alike = λ mark. h.alike mark ∙ g.alike mark;
  waits = waits_still value item user command next left g.waits h.waits;
}

-- The changes of a connection that leave the row of its user, each with its reply.
pub data ConnectionChange (old : ConnectionLog) : Option (List ℕ) → ConnectionLog → Type 0 where
  arrives : (item : Item) → old.connection.ended ≡ false
      → ConnectionChange old None (record { id = old.id; items = old.items ++ item ∷ []; connection = record old.connection { inbox = old.connection.inbox ++ item ∷ [] } })
  ends_now : ConnectionChange old None (log_with (record old.connection { ended = true }) old)
  works : (owner after : Owner) (posted : ℕ) → old.connection.state ≡ inside owner → after.waiting ≡ owner.waiting → user_in after ≡ user_in owner
      → ConnectionChange old None (log_with (record old.connection { state = inside after; posted = posted }) old)
  begins : (owner after : Owner) (command left : Order) (items : List Item) → old.connection.state ≡ inside owner → owner.waiting ≡ None
      → old.connection.finished ≡ false → old.connection.inbox ≡ Command command ∷ items → is_ending (Command command) ≡ false
      → after.waiting ≡ Some left → GoesOn (user_in owner) command (user_in after) left
      → ConnectionChange old None (log_with (record old.connection { state = inside after; inbox = items; finished = false }) old)
  answers : (owner after : Owner) (item : Item) (items : List Item) (mark : Bool) (text : List ℕ) → old.connection.state ≡ inside owner
      → owner.waiting ≡ None → old.connection.finished ≡ false → old.connection.inbox ≡ item ∷ items
      → (text, user_in after) ≡ item_text (user_in owner) item mark → after.waiting ≡ None
      → ConnectionChange old (Some text) (log_with (record old.connection { state = inside after; inbox = items; finished = is_ending item }) old)
  turns_on : (owner after : Owner) (command left : Order) → old.connection.state ≡ inside owner → owner.waiting ≡ Some command
      → after.waiting ≡ Some left → GoesOn (user_in owner) command (user_in after) left
      → ConnectionChange old None (log_inside after old)
  turns_last : (owner after : Owner) (command : Order) (mark : Bool) (text : List ℕ) → old.connection.state ≡ inside owner
      → owner.waiting ≡ Some command → (text, user_in after) ≡ item_text (user_in owner) (Command command) mark → after.waiting ≡ None
      → ConnectionChange old (Some text) (log_inside after old)

-- texts, and the reply if there is one
abbrev pub grown : Texts → Option (List ℕ) → Texts
grown texts None = texts
grown texts (Some text) = texts ++ text ∷ []

-- the three states differ
IsInside : ConnectionState → Type 0
IsInside waiting = ⊥
IsInside (inside owner) = Unit {0}
IsInside gone = ⊥

IsGone : ConnectionState → Type 0
IsGone waiting = ⊥
IsGone (inside owner) = ⊥
IsGone gone = Unit {0}

pub not_waiting : (state : ConnectionState) (owner : Owner) → state ≡ waiting → state ≡ inside owner → ⊥
unfolding IsInside
not_waiting state owner e h = subst IsInside (sym h ∙ e) tt

pub not_gone : (state : ConnectionState) (owner : Owner) → state ≡ gone → state ≡ inside owner → ⊥
unfolding IsInside
not_gone state owner e h = subst IsInside (sym h ∙ e) tt

pub gone_waiting : (state : ConnectionState) → state ≡ gone → state ≡ waiting → ⊥
unfolding IsGone
gone_waiting state e h = subst IsGone (sym e ∙ h) tt

owner_or : Owner → ConnectionState → Owner
owner_or other waiting = other
owner_or other (inside owner) = owner
owner_or other gone = other

pub one_owner : (state : ConnectionState) (a b : Owner) → state ≡ inside a → state ≡ inside b → a ≡ b
unfolding owner_or
one_owner state a b e h = ap (owner_or a) (sym e ∙ h)

-- a connection whose ticket waits: nothing is begun
pub record Waits (log : ConnectionLog) : Type 0 where
  pub waits : log.connection.state ≡ waiting
  pub inbox : log.connection.inbox ≡ log.items
  pub not_finished : log.connection.finished ≡ false

-- a connection that has left: it is closed, and its items up to the first that ends it were answered with these texts
pub record HasLeft (from : User) (log : ConnectionLog) (texts : Texts) (last : User) : Type 0 where
  pub is_gone : log.connection.state ≡ gone
  pub closed : is_closed (history_of log) ≡ true
  pub is_answer : AnsweredAll from (items_to_end log.items) texts last

-- the progress of the owner: no command is pending and no item has ended the connection, or one has, or the rest of the
-- first item that is not answered is pending
pub data OwnerProgress (from : User) (texts : Texts) (log : ConnectionLog) (owner : Owner) : Type 0 where
  ready : owner.waiting ≡ None → log.connection.finished ≡ false → (answered : List Item) → log.items ≡ answered ++ log.connection.inbox
      → NoneEnds answered → AnsweredAll from answered texts (user_in owner) → OwnerProgress from texts log owner
  finished : owner.waiting ≡ None → log.connection.finished ≡ true → OneEnds log.items → AnsweredAll from (items_to_end log.items) texts (user_in owner)
      → OwnerProgress from texts log owner
  waits_on : (left : Order) → owner.waiting ≡ Some left → log.connection.finished ≡ false → (answered : List Item) (command : Order)
      → log.items ≡ answered ++ Command command ∷ log.connection.inbox → NoneEnds answered → is_ending (Command command) ≡ false
      → (value : User) → AnsweredAll from answered texts value → GoesOn value command (user_in owner) left → OwnerProgress from texts log owner

-- the connection owns the state
pub record OwnsState (from : User) (texts : Texts) (log : ConnectionLog) : Type 0 where
  pub owner : Owner
  pub owns : log.connection.state ≡ inside owner
  pub now : OwnerProgress from texts log owner

pub progress_of : (from : User) (texts : Texts) (log : ConnectionLog) (owner : Owner) → OwnsState from texts log → log.connection.state ≡ inside owner
    → OwnerProgress from texts log owner
progress_of from texts log owner o e = subst (OwnerProgress from texts log) (one_owner log.connection.state o.owner owner o.owns e) o.now

none_some : {A : Type 0} (o : Option A) (x : A) → o ≡ None → o ≡ Some x → ⊥
none_some o x e h = cc

same_some : {A : Type 0} (o : Option A) (x y : A) → o ≡ Some x → o ≡ Some y → x ≡ y
same_some o x y e h = cc

-- a connection whose ticket waits goes on waiting, and gets no reply
pub waiting_change : (log : ConnectionLog) (reply : Option (List ℕ)) (x : ConnectionLog) → Waits log → ConnectionChange log reply x → (reply ≡ None) × Waits x
waiting_change log reply x w (arrives item still) = (refl, record { waits = w.waits; inbox = ap (λ items. items ++ item ∷ []) w.inbox; not_finished = w.not_finished })
waiting_change log reply x w ends_now = (refl, record { waits = w.waits; inbox = w.inbox; not_finished = w.not_finished })
waiting_change log reply x w (works owner after posted e r u) = absurd (not_waiting log.connection.state owner w.waits e)
waiting_change log reply x w (begins owner after command left items e r o i t a u) = absurd (not_waiting log.connection.state owner w.waits e)
waiting_change log reply x w (answers owner after item items mark text e r o i t a) = absurd (not_waiting log.connection.state owner w.waits e)
waiting_change log reply x w (turns_on owner after command left e r a u) = absurd (not_waiting log.connection.state owner w.waits e)
waiting_change log reply x w (turns_last owner after command mark text e r t a) = absurd (not_waiting log.connection.state owner w.waits e)

-- a connection that has left stays so, and gets no reply
pub left_change : (from : User) (log : ConnectionLog) (reply : Option (List ℕ)) (x : ConnectionLog) (texts : Texts) (last : User) → HasLeft from log texts last → ConnectionChange log reply x
    → (reply ≡ None) × HasLeft from x texts last
left_change from log reply x texts last l (arrives item still) =
    let one : OneEnds log.items = sym (ap (λ (b : Bool). b || list_any is_ending log.items) still) ∙ l.closed in (
      refl,
      record {
        is_gone = l.is_gone;
        closed = ap (λ (b : Bool). b || list_any is_ending (log.items ++ item ∷ [])) still ∙ one-append log.items (item ∷ []) one;
        is_answer = subst (λ (items : List Item). AnsweredAll from items texts last) (sym (cut-one log.items (item ∷ []) one)) l.is_answer;
      },
    )
left_change from log reply x texts last l ends_now = (refl, record { is_gone = l.is_gone; closed = refl; is_answer = l.is_answer })
left_change from log reply x texts last l (works owner after posted e r u) = absurd (not_gone log.connection.state owner l.is_gone e)
left_change from log reply x texts last l (begins owner after command left items e r o i t a u) = absurd (not_gone log.connection.state owner l.is_gone e)
left_change from log reply x texts last l (answers owner after item items mark text e r o i t a) = absurd (not_gone log.connection.state owner l.is_gone e)
left_change from log reply x texts last l (turns_on owner after command left e r a u) = absurd (not_gone log.connection.state owner l.is_gone e)
left_change from log reply x texts last l (turns_last owner after command mark text e r t a) = absurd (not_gone log.connection.state owner l.is_gone e)

-- the log after one more item has arrived
abbrev with_arrived : Item → ConnectionLog → ConnectionLog
with_arrived item log =
    record { id = log.id; items = log.items ++ item ∷ []; connection = record log.connection { inbox = log.connection.inbox ++ item ∷ [] } }

progress_arrives : (from : User) (texts : Texts) (log : ConnectionLog) (owner : Owner) (item : Item) → OwnerProgress from texts log owner → OwnerProgress from texts (with_arrived item log) owner
progress_arrives from texts log owner item (ready idle not_finished answered split none is_answer) =
    ready idle not_finished answered (ap (λ items. items ++ item ∷ []) split ∙ append_assoc answered log.connection.inbox (item ∷ [])) none is_answer
progress_arrives from texts log owner item (finished idle is_finished one is_answer) =
    finished idle is_finished (one-append log.items (item ∷ []) one)
    (subst (λ (items : List Item). AnsweredAll from items texts (user_in owner)) (sym (cut-one log.items (item ∷ []) one)) is_answer)
progress_arrives from texts log owner item (waits_on left is not_finished answered first split none goes value is_answer on) =
    waits_on left is not_finished answered first
    (ap (λ items. items ++ item ∷ []) split ∙ append_assoc answered (Command first ∷ log.connection.inbox) (item ∷ [])) none goes value is_answer on

progress_ends : (from : User) (texts : Texts) (log : ConnectionLog) (owner : Owner) → OwnerProgress from texts log owner → OwnerProgress from texts (log_with (record log.connection { ended = true }) log) owner
progress_ends from texts log owner (ready idle not_finished answered split none is_answer) = ready idle not_finished answered split none is_answer
progress_ends from texts log owner (finished idle is_finished one is_answer) = finished idle is_finished one is_answer
progress_ends from texts log owner (waits_on left is not_finished answered first split none goes value is_answer on) =
    waits_on left is not_finished answered first split none goes value is_answer on

progress_works : (from : User) (texts : Texts) (log : ConnectionLog) (owner after : Owner) (posted : ℕ) → after.waiting ≡ owner.waiting → user_in after ≡ user_in owner
    → OwnerProgress from texts log owner → OwnerProgress from texts (log_with (record log.connection { state = inside after; posted = posted }) log) after
progress_works from texts log owner after posted r u (ready idle not_finished answered split none is_answer) =
    ready (r ∙ idle) not_finished answered split none (subst (AnsweredAll from answered texts) (sym u) is_answer)
progress_works from texts log owner after posted r u (finished idle is_finished one is_answer) =
    finished (r ∙ idle) is_finished one (subst (AnsweredAll from (items_to_end log.items) texts) (sym u) is_answer)
progress_works from texts log owner after posted r u (waits_on left is not_finished answered first split none goes value is_answer on) =
    waits_on left (r ∙ is) not_finished answered first split none goes value is_answer (subst (λ v. GoesOn value first v left) (sym u) on)

-- the log after its first item is begun
abbrev with_begun : Owner → List Item → ConnectionLog → ConnectionLog
with_begun after items log = log_with (record log.connection { state = inside after; inbox = items; finished = false }) log

-- the log after its first item is answered
abbrev with_answered : Owner → Item → List Item → ConnectionLog → ConnectionLog
with_answered after item items log = log_with (record log.connection { state = inside after; inbox = items; finished = is_ending item }) log

progress_begins : (from : User) (texts : Texts) (log : ConnectionLog) (owner after : Owner) (command left : Order) (items : List Item) → owner.waiting ≡ None
    → log.connection.finished ≡ false → log.connection.inbox ≡ Command command ∷ items → is_ending (Command command) ≡ false → after.waiting ≡ Some left
    → GoesOn (user_in owner) command (user_in after) left → OwnerProgress from texts log owner → OwnerProgress from texts (with_begun after items log) after
progress_begins from texts log owner after command left items idle not_finished inbox goes is on (ready _ _ answered split none is_answer) =
    waits_on left is refl answered command (split ∙ ap (λ xs. answered ++ xs) inbox) none goes (user_in owner) is_answer on
progress_begins from texts log owner after command left items idle not_finished inbox goes is on (finished _ is_finished one is_answer) =
    absurd (true≢false (sym is_finished ∙ not_finished))
progress_begins from texts log owner after command left items idle not_finished inbox goes is on (waits_on other still _ answered first split none _ value is_answer _) =
    absurd (none_some owner.waiting other idle still)

progress_answers : (from : User) (texts : Texts) (log : ConnectionLog) (owner after : Owner) (item : Item) (items : List Item) (mark : Bool) (text : List ℕ) → owner.waiting ≡ None
    → log.connection.finished ≡ false → log.connection.inbox ≡ item ∷ items → (text, user_in after) ≡ item_text (user_in owner) item mark → after.waiting ≡ None
    → OwnerProgress from texts log owner → OwnerProgress from (texts ++ text ∷ []) (with_answered after item items log) after
progress_answers from texts log owner after item items mark text idle not_finished inbox is rest (ready _ _ answered split none is_answer) = by (is_ending item) refl
  where
    whole : log.items ≡ answered ++ item ∷ items
    whole = split ∙ ap (λ xs. answered ++ xs) inbox

    pushed : AnsweredAll from (answered ++ item ∷ []) (texts ++ text ∷ []) (user_in after)
    pushed = AnsweredAll-push from answered texts (user_in owner) item mark text (user_in after) is_answer is

    by : (b : Bool) → is_ending item ≡ b → OwnerProgress from (texts ++ text ∷ []) (with_answered after item items log) after
    by true e =
        let cut_is : items_to_end log.items ≡ answered ++ item ∷ [] =
        ap items_to_end whole ∙ cut-none answered (item ∷ items) none ∙ ap (λ xs. answered ++ xs) (cut-last item items e) in
        finished rest e (subst OneEnds (sym whole) (one-after answered item items e))
        (subst (λ (xs : List Item). AnsweredAll from xs (texts ++ text ∷ []) (user_in after)) (sym cut_is) pushed)
    by false e =
        ready rest e (answered ++ item ∷ []) (whole ∙ sym (append_assoc answered (item ∷ []) items))
        (none-append answered (item ∷ []) none (none-single item e)) pushed
progress_answers from texts log owner after item items mark text idle not_finished inbox is rest (finished _ is_finished one is_answer) =
    absurd (true≢false (sym is_finished ∙ not_finished))
progress_answers from texts log owner after item items mark text idle not_finished inbox is rest (waits_on other still _ answered first split none goes value is_answer on) =
    absurd (none_some owner.waiting other idle still)

progress_turns_on : (from : User) (texts : Texts) (log : ConnectionLog) (owner after : Owner) (command left : Order) → owner.waiting ≡ Some command
    → after.waiting ≡ Some left → GoesOn (user_in owner) command (user_in after) left
    → OwnerProgress from texts log owner → OwnerProgress from texts (log_inside after log) after
progress_turns_on from texts log owner after command left still is on (ready idle _ answered split none is_answer) = absurd (none_some owner.waiting command idle still)
progress_turns_on from texts log owner after command left still is on (finished idle is_finished one is_answer) = absurd (none_some owner.waiting command idle still)
progress_turns_on from texts log owner after command left still is on (waits_on other was not_finished answered first split none goes value is_answer so_far) =
    let same : other ≡ command = same_some owner.waiting other command was still in
    waits_on left is not_finished answered first split none goes value is_answer
    (goes_on_still value first (user_in owner) command (user_in after) left (subst (GoesOn value first (user_in owner)) same so_far) on)

progress_turns_last : (from : User) (texts : Texts) (log : ConnectionLog) (owner after : Owner) (command : Order) (mark : Bool) (text : List ℕ) → owner.waiting ≡ Some command
    → (text, user_in after) ≡ item_text (user_in owner) (Command command) mark → after.waiting ≡ None
    → OwnerProgress from texts log owner → OwnerProgress from (texts ++ text ∷ []) (log_inside after log) after
progress_turns_last from texts log owner after command mark text still is rest (ready idle _ answered split none is_answer) = absurd (none_some owner.waiting command idle still)
progress_turns_last from texts log owner after command mark text still is rest (finished idle is_finished one is_answer) = absurd (none_some owner.waiting command idle still)
progress_turns_last from texts log owner after command mark text still is rest (waits_on other was not_finished answered first split none goes value is_answer so_far) =
    let same : other ≡ command = same_some owner.waiting other command was still in
    let user = user_in owner in
    ready rest not_finished (answered ++ Command first ∷ []) (split ∙ sym (append_assoc answered (Command first ∷ []) log.connection.inbox))
    (none-append answered (Command first ∷ []) none (none-single (Command first) goes))
    (AnsweredAll-push from answered texts value (Command first) mark text (user_in after) is_answer
    (is ∙ ap (λ c. item_text user (Command c) mark) (sym same) ∙ so_far.alike mark))

-- the owner changes, and the reply is one more text
pub owner_change : (from : User) (texts : Texts) (log : ConnectionLog) (reply : Option (List ℕ)) (x : ConnectionLog) → OwnsState from texts log → ConnectionChange log reply x
    → OwnsState from (grown texts reply) x
owner_change from texts log reply x o (arrives item still) = record { owner = o.owner; owns = o.owns; now = progress_arrives from texts log o.owner item o.now }
owner_change from texts log reply x o ends_now = record { owner = o.owner; owns = o.owns; now = progress_ends from texts log o.owner o.now }
owner_change from texts log reply x o (works owner after posted e r u) =
    record { owner = after; owns = refl; now = progress_works from texts log owner after posted r u (progress_of from texts log owner o e) }
owner_change from texts log reply x o (begins owner after command left items e idle not_finished inbox goes is on) =
    record { owner = after; owns = refl; now = progress_begins from texts log owner after command left items idle not_finished inbox goes is on (progress_of from texts log owner o e) }
owner_change from texts log reply x o (answers owner after item items mark text e idle not_finished inbox is r) =
    record { owner = after; owns = refl; now = progress_answers from texts log owner after item items mark text idle not_finished inbox is r (progress_of from texts log owner o e) }
owner_change from texts log reply x o (turns_on owner after command left e still is on) =
    record { owner = after; owns = refl; now = progress_turns_on from texts log owner after command left still is on (progress_of from texts log owner o e) }
owner_change from texts log reply x o (turns_last owner after command mark text e still is r) =
    record { owner = after; owns = refl; now = progress_turns_last from texts log owner after command mark text still is r (progress_of from texts log owner o e) }

-- the log after the connection has left
abbrev pub log_gone : ConnectionLog → ConnectionLog
log_gone log = log_with (with_connection_state gone log.connection) log

closed_by : (a b : Bool) → b ≡ true → (a || b) ≡ true
closed_by true b h = refl
closed_by false b h = h

-- an owner that is done leaves
pub own_leaves : (from : User) (texts : Texts) (log : ConnectionLog) (owner : Owner) → OwnsState from texts log → log.connection.state ≡ inside owner → owner.waiting ≡ None
    → IsDone log.connection → HasLeft from (log_gone log) texts (user_in owner)
own_leaves from texts log owner o e idle done = by (progress_of from texts log owner o e) done
  where
    by : OwnerProgress from texts log owner → IsDone log.connection → HasLeft from (log_gone log) texts (user_in owner)
    by (ready _ not_finished answered split none is_answer) (inl (ended, empty)) =
        let cut_is : items_to_end log.items ≡ answered = ap items_to_end (split ∙ ap (λ xs. answered ++ xs) empty) ∙ cut-none answered [] none ∙ append-nil answered in
        record {
          is_gone = refl;
          closed = ap (λ (b : Bool). b || list_any is_ending log.items) ended;
          is_answer = subst (λ (xs : List Item). AnsweredAll from xs texts (user_in owner)) (sym cut_is) is_answer;
        }
    by (ready _ not_finished answered split none is_answer) (inr is_finished) = absurd (true≢false (sym is_finished ∙ not_finished))
    by (finished _ is_finished one is_answer) _ = record { is_gone = refl; closed = closed_by log.connection.ended (list_any is_ending log.items) one; is_answer = is_answer }
    by (waits_on left still _ answered first split none goes value is_answer on) _ = absurd (none_some owner.waiting left idle still)

-- a ticket that waits enters
pub wait_enters : (from : User) (texts : Texts) (log : ConnectionLog) (owner : Owner) → Waits log → texts ≡ [] → owner.waiting ≡ None → user_in owner ≡ from
    → OwnsState from texts (log_inside owner log)
wait_enters from texts log owner w none idle u =
    record { owner = owner; owns = refl; now = ready idle w.not_finished [] (sym w.inbox) refl (none, u) }
