-- Each step keeps the invariant of a run.
use Rattle.std.proofs.Common.{◌≡◌, ℕ, ◌+◌, ◌-◌, Bool, true, false, not, ◌&&◌, cond, nat_eq, nat_lt, nat_le, List, [], ◌∷◌, ◌++◌, length, slice_get, slice_set, slice_index_or, Option, Some, None, option_map, is_some, inl, inr, refl, sym, ◌∙◌, ap, ap₂, subst, subst₂, arith, add-one, le-leb, lt-ltb, leb-true, ltb-true, true≢false}
use Rattle.std.proofs.lemmas.List.{length-map}
use Rattle.std.proofs.lemmas.List.Quantifiers.{position-Some}
use Rattle.std.proofs.lemmas.Option.{slice_get-get_or}
use Rattle.std.specs.List.{list_any}
use Rattle.lj_task.specs.Task.{Task}
use Rattle.lj_session.specs.Users.{User}
use Rattle.lj_session.specs.UserState.{with_steps_restarted}
use Rattle.lj_session.specs.Owner.{Owner, user_in, owner_of_state, command_left, with_task_posted}
use Rattle.lj_session.specs.OwnerLaws.{AcceptKeepsUser}
use Rattle.lj_wire.specs.declared.item.Item.{Item}
use Rattle.lj_wire.specs.declared.item.Item.TheVariants.{Command}
use Rattle.lj_access.specs.UserRows.{UserRow, has_credentials, user_with, without_home, with_home}
use Rattle.lj_world.specs.declared.event.Event.{Event}
use Rattle.lj_world.specs.declared.event.Event.TheVariants.{Hello, At, By}
use Rattle.lj_world.specs.declared.event.ConnectionEvent.{ConnectionEvent}
use Rattle.lj_world.specs.declared.event.ConnectionEvent.TheVariants.{Arrive, End, Enter, Next, Post, Fetch, Turn, Leave}
use Rattle.lj_world.specs.declared.transcript.Entry.{Entry}
use Rattle.lj_world.specs.Machine.{Machine, Connection, inside, gone, connection_at, with_connection_state}
use Rattle.lj_world.specs.Connections.{ConnectionView, connection_view, view_with_connection, Receives, Closes, Enters, IsGiven, Leaves, ConnectionTransition}
use Rattle.lj_world.specs.Transitions.{Transition, HelloTransition, reply_entry, with_connection_view}
use Rattle.lj_world.specs.Runs.{Step, IsPossible}
use Rattle.lj_world.specs.RunLaws.{PendingCommandLaws}
use Rattle.lj_world.specs.Scripts.{ConnectionHistory, histories_after, with_history, with_item, with_input_ended, with_hello, is_granted, histories_of}
use Rattle.lj_world.proofs.MachineSteps.{transition_at}
use Rattle.lj_world.proofs.Answering.{Texts}
use Rattle.lj_world.proofs.ConnectionLogs.{ConnectionLog, history_of, log_with, log_inside, GoesOn, ConnectionChange, arrives, ends_now, works, begins, answers, turns_on, turns_last, grown}
use Rattle.lj_world.proofs.PendingCommands.{Turned, stays, again, begun_goes_on, turn_goes_on}
use Rattle.lj_world.proofs.Queues.{QueueInvariant, queue_invariant_enter, queue_invariant_leave, progress_of_owner}
use Rattle.lj_world.proofs.LogLookup.{found, queue_in, found_changes, history_changes, history_stays, history_nowhere, queue_histories, any_found}
use Rattle.lj_world.proofs.RunInvariant.{RunInvariant, own_stays, log_at, reply_if, change_keeps}
use Rattle.lj_world.proofs.RowChanges.{row_change_keeps, lent_leaves, home_leaves, nowhere, new_log, hello_adds_log}

-- the reply to a user, if the entry is for it
unfoldable pub reply_to : ℕ → Option Entry → Option (List ℕ)
reply_to user None = None
reply_to user (Some e) = reply_if (nat_eq e.user user) (Some e.text)

-- the invariant after an event
abbrev pub RunInvariantAfter : List UserRow → ℕ → User → Machine → List ConnectionHistory → Texts → Option Entry → Type 0
RunInvariantAfter rows user from t hs texts reply = RunInvariant rows user from t hs (grown texts (reply_to user reply))

no_reply : (rows : List UserRow) (user : ℕ) (from : User) (t : Machine) (hs : List ConnectionHistory) (texts : Texts) (reply : Option Entry) → reply ≡ None → RunInvariant rows user from t hs texts
    → RunInvariantAfter rows user from t hs texts reply
unfolding reply_to
no_reply rows user from t hs texts reply r k = subst (RunInvariantAfter rows user from t hs texts) (sym r) k

reply_none : (b : Bool) → reply_if b None ≡ None
reply_none true = refl
reply_none false = refl

-- rows and connections stay
front_stays : (rows : List UserRow) (user : ℕ) (from : User) (s t : Machine) (hs : List ConnectionHistory) (texts : Texts) → RunInvariant rows user from s hs texts
    → t.rows ≡ s.rows → t.connections ≡ s.connections → RunInvariant rows user from t hs texts
front_stays rows user from s t hs texts k rows_stay connections_stay = record {
  logs = k.logs;
  histories_are = k.histories_are;
  connection_slots = ap length connections_stay ∙ k.connection_slots;
  logged = λ c. ap (λ ts. slice_index_or ts c None) connections_stay ∙ k.logged c;
  distinct = k.distinct;
  names = λ name token. ap (λ r. user_with r name token) rows_stay ∙ k.names name token;
  granted = λ v row e. k.granted v row (sym (ap (λ r. slice_get r v) rows_stay) ∙ e);
  own = own_stays k.own (ap (λ r. slice_get r user) rows_stay) refl;
}

-- the reply to a connection is one to its user
reply_own : (user c : ℕ) (connection : Connection) (text : Option (List ℕ)) → reply_to user (option_map (reply_entry c connection) text) ≡ reply_if (nat_eq connection.user user) text
unfolding reply_to
reply_own user c connection None = sym (reply_none (nat_eq connection.user user))
reply_own user c connection (Some text) = refl

same_row : (o : Option UserRow) (a b : UserRow) → o ≡ Some a → o ≡ Some b → a ≡ b
same_row o a b e h = cc

-- an owner that receives a result keeps the pending command and the user
given_keeps : AcceptKeepsUser → (owner after : Owner) (work : Task) → IsGiven owner work after
    → (after.waiting ≡ owner.waiting) × (user_in after ≡ user_in owner)
given_keeps accept owner after work (inl h) = (ap (λ (o : Owner). o.waiting) h.1, ap user_in h.1 ∙ accept work owner)
given_keeps accept owner after work (inr h) = (ap (λ (o : Owner). o.waiting) h.1, ap user_in h.1)

-- an event at a known connection
module _ (laws : PendingCommandLaws) (rows : List UserRow) (user : ℕ) (from : User) (s : Machine) (hs : List ConnectionHistory) (texts : Texts)
    (k : RunInvariant rows user from s hs texts) (c : ℕ) (connection : Connection) (is_known : connection_at s c ≡ Some connection) where
  abbrev old : ConnectionView
  old = connection_view connection s.rows s.book

  -- the invariant after a transition to this view, with these histories and this reply
  abbrev After : ConnectionView → List ConnectionHistory → Option (List ℕ) → Type 0
  After h histories text = RunInvariant rows user from (with_connection_view c h s) histories (grown texts (reply_if (nat_eq connection.user user) text))

  its_log : (log : ConnectionLog) × (found c k.logs ≡ Some (log_with connection log))
  its_log = log_at c k.logs connection (sym (k.logged c) ∙ is_known)

  -- without a reply
  without_reply : (h : ConnectionView) (histories : List ConnectionHistory) (text : Option (List ℕ)) → text ≡ None → RunInvariant rows user from (with_connection_view c h s) histories texts → After h histories text
  without_reply h histories text e kept =
      subst (λ o. RunInvariant rows user from (with_connection_view c h s) histories (grown texts o)) (sym (ap (reply_if (nat_eq connection.user user)) e ∙ reply_none (nat_eq connection.user user))) kept

  -- the connection goes on, and its history stays
  change_one : (h x : ConnectionView) (text : Option (List ℕ)) → h ≡ x → x.rows ≡ s.rows → ((log : ConnectionLog) → ConnectionChange (log_with connection log) text (log_with x.connection log))
      → ((log : ConnectionLog) → history_of (log_with x.connection log) ≡ history_of (log_with connection log)) → After h hs text
  change_one h x text next rows_stay g unrecorded =
      let log = log_with connection its_log.0 in
      change_keeps rows user from s (with_connection_view c h s) hs hs texts k c log (log_with x.connection its_log.0) text its_log.1 (g its_log.0)
      (ap (λ (z : ConnectionView). z.rows) next ∙ rows_stay) (ap (λ (z : ConnectionView). slice_set s.connections c (Some z.connection)) next)
      (λ queue ch. k.histories_are ∙ sym (history_stays c log (log_with x.connection its_log.0) k.logs queue ch (unrecorded its_log.0)))

  arrive_keeps : (item : Item) (text : Option (List ℕ)) (h : ConnectionView) → Receives item old text h → After h (with_history c (with_item item) hs) None
  arrive_keeps item text h d =
      let log = log_with connection its_log.0 in
      let x : ConnectionLog = record { id = log.id; items = log.items ++ item ∷ []; connection = record connection { inbox = connection.inbox ++ item ∷ [] } } in
      let histories_are : history_of x ≡ with_item item (history_of log) = sym (ap (λ b. cond b (history_of log) (history_of x)) d.not_ended) in
      change_keeps rows user from s (with_connection_view c h s) hs (with_history c (with_item item) hs) texts k c log x None its_log.1 (arrives item d.not_ended)
      (ap (λ (z : ConnectionView). z.rows) d.next) (ap (λ (z : ConnectionView). slice_set s.connections c (Some z.connection)) d.next)
      (λ queue ch. ap (with_history c (with_item item)) k.histories_are ∙ history_changes c (with_item item) log x k.logs queue ch histories_are)

  end_keeps : (text : Option (List ℕ)) (h : ConnectionView) → Closes old text h → After h (with_history c with_input_ended hs) None
  end_keeps text h d =
      let log = log_with connection its_log.0 in
      let x : ConnectionLog = log_with (record connection { ended = true }) its_log.0 in
      change_keeps rows user from s (with_connection_view c h s) hs (with_history c with_input_ended hs) texts k c log x None its_log.1 ends_now
      (ap (λ (z : ConnectionView). z.rows) d.next) (ap (λ (z : ConnectionView). slice_set s.connections c (Some z.connection)) d.next)
      (λ queue ch. ap (with_history c with_input_ended) k.histories_are ∙ history_changes c with_input_ended log x k.logs queue ch refl)

  enter_keeps : (text : Option (List ℕ)) (h : ConnectionView) → Enters old text h → RunInvariant rows user from (with_connection_view c h s) hs texts
  enter_keeps text h d =
      let owner : Owner = owner_of_state d.state connection.user in
      let log = log_with connection its_log.0 in
      row_change_keeps rows user from s (with_connection_view c h s) hs texts k c log (log_inside owner log) without_home its_log.1
      (record { id = refl; user = refl; number = refl }) refl lent_leaves
      (ap (λ (z : ConnectionView). z.rows) d.next) (ap (λ (z : ConnectionView). slice_set s.connections c (Some z.connection)) d.next)
      (λ mine queue ch.
      let row : d.row ≡ k.own.row = same_row (slice_get s.rows user) d.row k.own.row (ap (slice_get s.rows) (sym mine) ∙ d.there) k.own.there_is in
      let home : k.own.row.home ≡ Some d.state = ap (λ (r : UserRow). r.home) (sym row) ∙ d.home in
      let number : connection.number ≡ k.own.row.past = sym d.may_enter.first.past ∙ ap (λ (r : UserRow). r.past) row in
      queue_invariant_enter from k.own.row.past 0 d.state c log owner (queue_in user k.logs) queue texts ch d.waits k.own.numbered (omega (arith, number)) refl (laws.restart d.state)
      (subst (λ o. QueueInvariant from k.own.row.past o (queue_in user k.logs) texts) home k.own.queue_is_valid))

  leave_keeps : (text : Option (List ℕ)) (h : ConnectionView) → Leaves old text h → RunInvariant rows user from (with_connection_view c h s) hs texts
  leave_keeps text h d =
      let log = log_with connection its_log.0 in
      let x = log_with (with_connection_state gone connection) its_log.0 in
      row_change_keeps rows user from s (with_connection_view c h s) hs texts k c log x (with_home (with_steps_restarted d.owner.state)) its_log.1
      (record { id = refl; user = refl; number = refl }) refl (home_leaves (with_steps_restarted d.owner.state))
      (ap (λ (z : ConnectionView). z.rows) d.next) (ap (λ (z : ConnectionView). slice_set s.connections c (Some z.connection)) d.next)
      (λ mine queue ch.
      let away = (progress_of_owner from k.own.row.past k.own.row.home c log x (queue_in user k.logs) queue d.owner texts ch d.owns k.own.queue_is_valid).0 in
      subst (λ n. QueueInvariant from n (Some (with_steps_restarted d.owner.state)) queue texts) (sym (add-one k.own.row.past))
      (queue_invariant_leave from k.own.row.past c log d.owner (with_steps_restarted d.owner.state) (queue_in user k.logs) queue texts ch d.owns d.idle d.done
      (laws.restart d.owner.state)
      (subst (λ o. QueueInvariant from k.own.row.past o (queue_in user k.logs) texts) away k.own.queue_is_valid)))

  -- a turn without a reply
  turn_keeps : (owner after : Owner) (h : ConnectionView) → connection.state ≡ inside owner → h ≡ view_with_connection (with_connection_state (inside after) connection) old
      → Turned owner after → After h hs None
  turn_keeps owner after h owns next (stays w u) =
      change_one h _ None next refl (λ log. works owner after connection.posted owns w u) (λ log. refl)
  turn_keeps owner after h owns next (again command left is now on) =
      change_one h _ None next refl (λ log. turns_on owner after command left owns is now on) (λ log. refl)

  -- each transition of the connection keeps the invariant
  connection_transition_keeps : (event : ConnectionEvent) (text : Option (List ℕ)) (h : ConnectionView) → ConnectionTransition event old text h → After h (histories_after rows hs (At c event)) text
  connection_transition_keeps (Arrive item) text h d = subst (After h (with_history c (with_item item) hs)) (sym d.no_reply) (arrive_keeps item text h d)
  connection_transition_keeps End text h d = subst (After h (with_history c with_input_ended hs)) (sym d.no_reply) (end_keeps text h d)
  connection_transition_keeps Enter text h d = without_reply h hs text d.no_reply (enter_keeps text h d)
  connection_transition_keeps Next None h d =
      let command = d.begins.command in
      let on = begun_goes_on laws.alike laws.begun command d.owner d.begins.takes_turns in
      change_one h _ None d.next refl
      (λ log. begins d.owner d.after command (command_left command d.owner.state) d.items d.can.owns d.can.idle d.can.not_finished
      (d.can.inbox ∙ ap (λ i. i ∷ d.items) d.begins.is)
      (laws.goes_on.whole d.owner.state (Command command) d.begins.takes_turns)
      (ap (λ (o : Owner). o.waiting) d.begins.next)
      (subst (λ (o : Owner). GoesOn (user_in d.owner) command (user_in o) (command_left command d.owner.state)) (sym d.begins.next) on))
      (λ log. refl)
  connection_transition_keeps Next (Some reply_text) h d =
      change_one h _ (Some reply_text) d.next refl
      (λ log. answers d.owner d.after d.item d.items d.begins.answers.mark reply_text d.can.owns d.can.idle d.can.not_finished d.can.inbox
      d.begins.answers.is_answer d.begins.answers.idle)
      (λ log. refl)
  connection_transition_keeps Post text h d =
      subst (After h hs) (sym d.no_reply) (change_one h _ None d.next refl
      (λ log. works d.owner (with_task_posted d.owner) (connection.posted + 1) d.owns refl (laws.posted d.owner))
      (λ log. refl))
  connection_transition_keeps (Fetch pick) text h d =
      let same = given_keeps laws.accept d.owner d.after d.work d.given in
      subst (After h hs) (sym d.no_reply) (change_one h _ None d.next refl
      (λ log. works d.owner d.after (connection.posted - 1) d.owns same.0 same.1)
      (λ log. refl))
  connection_transition_keeps (Turn session) None h d =
      turn_keeps d.owner d.after h d.owns d.next
      (subst (Turned d.owner) (sym d.turns.next) (turn_goes_on laws.alike laws.begun session d.owner d.name d.can d.turns.more))
  connection_transition_keeps (Turn session) (Some reply_text) h d =
      change_one h _ (Some reply_text) d.next refl
      (λ log. turns_last d.owner d.after d.turns.command d.turns.answers.mark reply_text d.owns d.turns.waits d.turns.answers.is_answer d.turns.answers.idle)
      (λ log. refl)
  connection_transition_keeps Leave text h d = without_reply h hs text d.no_reply (leave_keeps text h d)

-- a known connection has a history
has_history : (rows : List UserRow) (user : ℕ) (from : User) (s : Machine) (hs : List ConnectionHistory) (texts : Texts) (k : RunInvariant rows user from s hs texts) (c : ℕ)
    → list_any (λ h. nat_eq h.id c) hs ≡ is_some (found c k.logs)
has_history rows user from s hs texts k c = ap (list_any (λ h. nat_eq h.id c)) k.histories_are ∙ any_found c k.logs

-- the number of a user's tickets is the length of its queue
queue_length : (rows : List UserRow) (user : ℕ) (from : User) (s : Machine) (hs : List ConnectionHistory) (texts : Texts) (k : RunInvariant rows user from s hs texts) (v : ℕ) (row : UserRow)
    → slice_get s.rows v ≡ Some row → length (histories_of v hs) ≡ row.granted
queue_length rows user from s hs texts k v row e =
    ap (λ l. length (histories_of v l)) k.histories_are ∙ ap length (queue_histories v k.logs) ∙ length-map (queue_in v k.logs) history_of ∙ sym (k.granted v row e)

-- a HELLO that the machine grants is granted in the histories
hello_granted : (rows : List UserRow) (user : ℕ) (from : User) (s t : Machine) (hs : List ConnectionHistory) (texts : Texts) (k : RunInvariant rows user from s hs texts)
    (c : ℕ) (name token : List ℕ) (p : HelloTransition s c name token t) → is_granted c p.user hs ≡ true
hello_granted rows user from s t hs texts k c name token p =
    let none = nowhere c k.logs (sym (k.logged c) ∙ p.is_new) in
    let first : nat_le 1 c ≡ true = le-leb 1 c p.within.first in
    let last : nat_le c 64 ≡ true = le-leb c 64 p.within.last in
    let new : not (list_any (λ h. nat_eq h.id c) hs) ≡ true = ap not (has_history rows user from s hs texts k c ∙ ap is_some none) in
    let left : nat_lt (length (histories_of p.user hs)) 4294967296 ≡ true =
    ap (λ n. nat_lt n 4294967296) (queue_length rows user from s hs texts k p.user p.row p.there) ∙ lt-ltb p.row.granted 4294967296 p.left in
    ap₂ (λ a b. a && b) (ap₂ (λ a b. a && b) first last) (ap₂ (λ a b. a && b) new left)

and_left : (a b : Bool) → (a && b) ≡ true → a ≡ true
and_left true b e = refl
and_left false b e = e

and_right : (a b : Bool) → (a && b) ≡ true → b ≡ true
and_right true b e = e
and_right false b e = absurd (true≢false (sym e))

not_true : (a : Bool) → not a ≡ true → a ≡ false
not_true true e = absurd (true≢false (sym e))
not_true false e = refl

no_log : (o : Option ConnectionLog) → is_some o ≡ false → o ≡ None
no_log None e = refl
no_log (Some log) e = absurd (true≢false e)

-- and one that is granted there is possible in the machine
hello_possible : (rows : List UserRow) (user : ℕ) (from : User) (s : Machine) (hs : List ConnectionHistory) (texts : Texts) (k : RunInvariant rows user from s hs texts)
    (c : ℕ) (name token : List ℕ) (v : ℕ) → user_with rows name token ≡ Some v → is_granted c v hs ≡ true
    → (t : Machine) × HelloTransition s c name token t
hello_possible rows user from s hs texts k c name token v is_named granted =
    let number = and_left (nat_le 1 c && nat_le c 64) _ granted in
    let others = and_right (nat_le 1 c && nat_le c 64) _ granted in
    let fresh = not_true (list_any (λ h. nat_eq h.id c) hs) (and_left _ _ others) in
    let none = no_log (found c k.logs) (sym (has_history rows user from s hs texts k c) ∙ fresh) in
    let connection_view : user_with s.rows name token ≡ Some v = k.names name token ∙ is_named in
    let within = (position-Some (has_credentials name token) s.rows v k.own.row connection_view).0 in
    let row = slice_index_or s.rows v k.own.row in
    let there : slice_get s.rows v ≡ Some row = slice_get-get_or s.rows v k.own.row within in
    let left = ltb-true (length (histories_of v hs)) 4294967296 (and_right (not (list_any (λ h. nat_eq h.id c) hs)) _ others) in (
      _,
      record {
        within = record { first = leb-true 1 c (and_left (nat_le 1 c) (nat_le c 64) number); last = leb-true c 64 (and_right (nat_le 1 c) (nat_le c 64) number) };
        is_new = k.logged c ∙ ap (option_map (λ log. log.connection)) none;
        user = v;
        named = connection_view;
        row = row;
        there = there;
        left = omega (arith, left, queue_length rows user from s hs texts k v row there);
        next = refl;
      },
    )

module _ (laws : PendingCommandLaws) (rows : List UserRow) (user : ℕ) (from : User) where
  hello_keeps : (s t : Machine) (hs : List ConnectionHistory) (texts : Texts) (k : RunInvariant rows user from s hs texts) (c : ℕ) (name token : List ℕ)
      → HelloTransition s c name token t → RunInvariant rows user from t (with_hello c (user_with rows name token) hs) texts
  hello_keeps s t hs texts k c name token p =
      let is_named : user_with rows name token ≡ Some p.user = sym (k.names name token) ∙ p.named in
      let granted = hello_granted rows user from s t hs texts k c name token p in
      let histories_are : with_hello c (user_with rows name token) hs ≡ hs ++ history_of (new_log c p.user p.row.granted) ∷ [] =
      ap (λ o. with_hello c o hs) is_named ∙ ap (λ b. cond b (hs ++ history_of (new_log c p.user p.row.granted) ∷ []) hs) granted in
      subst (λ h. RunInvariant rows user from t h texts) (sym histories_are) (hello_adds_log rows user from s t hs texts k c name token p)

  -- each transition keeps the invariant
  transition_keeps : (s t : Machine) (hs : List ConnectionHistory) (texts : Texts) (event : Event) (reply : Option Entry) (k : RunInvariant rows user from s hs texts)
      → Transition s event reply t → RunInvariantAfter rows user from t (histories_after rows hs event) texts reply
  unfolding Transition reply_to
  transition_keeps s t hs texts (Hello c name token) reply k (r, p) =
      no_reply rows user from t _ texts reply r (hello_keeps s t hs texts k c name token p)
  transition_keeps s t hs texts (At c event) reply k p =
      let reply_text : reply_if (nat_eq p.connection.user user) p.text ≡ reply_to user reply = sym (ap (reply_to user) p.replies ∙ reply_own user c p.connection p.text) in
      subst₂ (λ z o. RunInvariant rows user from z (histories_after rows hs (At c event)) (grown texts o)) (sym p.next) reply_text
      (connection_transition_keeps laws rows user from s hs texts k c p.connection p.known event p.text p.after p.transition)
  transition_keeps s t hs texts (By id event) reply k (r, p) =
      no_reply rows user from t hs texts reply r (front_stays rows user from s t hs texts k (ap (λ z. z.rows) p.next) (ap (λ z. z.connections) p.next))

-- an event that is not possible leaves the histories
module _ (rows : List UserRow) (user : ℕ) (from : User) (s : Machine) (hs : List ConnectionHistory) (texts : Texts) (k : RunInvariant rows user from s hs texts) where
  hello_unrecorded : (c : ℕ) (name token : List ℕ) → ¬ IsPossible s (Hello c name token) → with_hello c (user_with rows name token) hs ≡ hs
  unfolding Transition
  hello_unrecorded c name token impossible = by (user_with rows name token) refl
    where
      at : (v : ℕ) → user_with rows name token ≡ Some v → (b : Bool) → is_granted c v hs ≡ b → with_hello c (Some v) hs ≡ hs
      at v e true g =
          let p = hello_possible rows user from s hs texts k c name token v e g in absurd (impossible (None, p.0, (refl, p.1)))
      at v e false g = ap (λ b. cond b (hs ++ record { id = c; user = v; items = []; ended = false } ∷ []) hs) g

      by : (o : Option ℕ) → user_with rows name token ≡ o → with_hello c o hs ≡ hs
      by None e = refl
      by (Some v) e = at v e (is_granted c v hs) refl

  -- a change of a connection that is not known, or that leaves its history
  change_unrecorded : (c : ℕ) (change : ConnectionHistory → ConnectionHistory) → ((log : ConnectionLog) → connection_at s c ≡ Some log.connection → change (history_of log) ≡ history_of log)
      → with_history c change hs ≡ hs
  change_unrecorded c change same = by (found c k.logs) refl
    where
      by : (o : Option ConnectionLog) → found c k.logs ≡ o → with_history c change hs ≡ hs
      by None e = ap (with_history c change) k.histories_are ∙ history_nowhere c change k.logs e ∙ sym k.histories_are
      by (Some log) e =
          let is_known : connection_at s c ≡ Some log.connection = k.logged c ∙ ap (option_map (λ x. x.connection)) e in
          let new = found_changes c k.logs log log e in
          ap (with_history c change) k.histories_are ∙ history_changes c change log log k.logs new.0 new.1 (sym (same log is_known))
          ∙ history_stays c log log k.logs new.0 new.1 refl ∙ sym k.histories_are

  arrive_unrecorded : (c : ℕ) (item : Item) → ¬ IsPossible s (At c (Arrive item)) → with_history c (with_item item) hs ≡ hs
  arrive_unrecorded c item impossible = change_unrecorded c (with_item item) (λ log e. by log e log.connection.ended refl)
    where
      by : (log : ConnectionLog) → connection_at s c ≡ Some log.connection → (b : Bool) → log.connection.ended ≡ b → with_item item (history_of log) ≡ history_of log
      by log e true is_ended = ap (λ b. cond b (history_of log) (record (history_of log) { items = log.items ++ item ∷ [] })) is_ended
      by log e false still =
          absurd (impossible (_, _, transition_at (Arrive item) s c log.connection None _ e (record { no_reply = refl; not_ended = still; next = refl })))

  end_unrecorded : (c : ℕ) → ¬ IsPossible s (At c End) → with_history c with_input_ended hs ≡ hs
  end_unrecorded c impossible =
      change_unrecorded c with_input_ended (λ log e. absurd (impossible (_, _, transition_at End s c log.connection None _ e (record { no_reply = refl; next = refl }))))

  unrecorded : (event : Event) → ¬ IsPossible s event → histories_after rows hs event ≡ hs
  unrecorded (Hello c name token) impossible = hello_unrecorded c name token impossible
  unrecorded (At c (Arrive item)) impossible = arrive_unrecorded c item impossible
  unrecorded (At c End) impossible = end_unrecorded c impossible
  unrecorded _ impossible = refl

module _ (laws : PendingCommandLaws) (rows : List UserRow) (user : ℕ) (from : User) where
  -- each step keeps the invariant
  pub step_keeps : (s t : Machine) (hs : List ConnectionHistory) (texts : Texts) (event : Event) (reply : Option Entry) (k : RunInvariant rows user from s hs texts)
      → Step s event reply t → RunInvariantAfter rows user from t (histories_after rows hs event) texts reply
  step_keeps s t hs texts event reply k (inl h) = transition_keeps laws rows user from s t hs texts event reply k h
  step_keeps s t hs texts event reply k (inr (impossible, r, same)) =
      no_reply rows user from t (histories_after rows hs event) texts reply r
      (front_stays rows user from s t (histories_after rows hs event) texts
      (subst (λ h. RunInvariant rows user from s h texts) (sym (unrecorded rows user from s hs texts k event impossible)) k)
      (ap (λ z. z.rows) same) (ap (λ z. z.connections) same))
