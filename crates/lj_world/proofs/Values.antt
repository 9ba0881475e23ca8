-- The value of a user in a run, and the tickets of its connections.
use Rattle.std.proofs.Common.{◌≡◌, ℕ, zero, suc, Bool, true, false, cond, nat_eq, List, [], ◌∷◌, ◌++◌, map, length, take, slice_get, ◌+◌, arith, Option, Some, None, option_map, inl, inr, refl, sym, ◌∙◌, ap, subst, eq-eqb, eqb-true}
use Rattle.std.proofs.lemmas.List.{length-map}
use Rattle.std.proofs.lemmas.Option.{slice_get-map}
use Rattle.lj_quota.specs.declared.Quota.{Quota}
use Rattle.lj_session.specs.declared.command.Command.{Command as Order}
use Rattle.lj_session.specs.Users.{User as Value, fresh_user}
use Rattle.lj_session.specs.UserState.{UserState, user_of}
use Rattle.lj_session.specs.Owner.{Owner, user_in}
use Rattle.lj_wire.specs.declared.item.Item.{Item}
use Rattle.lj_wire.specs.declared.item.Item.TheVariants.{Command}
use Rattle.lj_wire.specs.ReplyTexts.{is_memory}
use Rattle.lj_wire.specs.Told.{last_user}
use Rattle.lj_wire.specs.StreamLaws.{MarkIsTold}
use Rattle.lj_access.specs.UserRows.{UserRow, first_row}
use Rattle.lj_world.specs.Machine.{Machine, inside}
use Rattle.lj_world.specs.Scripts.{ConnectionHistory, connection_histories, histories_of, items_joined, replies}
use Rattle.lj_world.specs.RunLaws.{PendingCommandLaws, HasUserValue, IsAtHome, IsOwned, IsScriptValue, HasTicket, ValueIsThatOfScript, TicketsAreInOrder, WaitsOn}
use Rattle.lj_world.proofs.Answering.{Texts, AnsweredAll-length, last_user-AnsweredAll}
use Rattle.lj_world.proofs.ConnectionLogs.{ConnectionLog, history_of, log_with}
use Rattle.lj_world.proofs.Queues.{QueueInvariant, Numbered, ScriptProgress, At, items_in, progress_at_home, progress_of_owner}
use Rattle.lj_world.proofs.LogLookup.{found, queue_in, found_changes, queue_changes, queue_histories}
use Rattle.lj_world.proofs.RunInvariant.{RunInvariant, Distinct, log_at}
use Rattle.lj_world.proofs.RunReplies.{script_items, run_kept}

-- a log of a queue
data In (log : ConnectionLog) : List ConnectionLog → Type 0 where
  first : {queue : List ConnectionLog} → In log (log ∷ queue)
  later : {other : ConnectionLog} {queue : List ConnectionLog} → In log queue → In log (other ∷ queue)

-- a log of a queue that has one more log, or not
in_cond : (user : ℕ) (log other : ConnectionLog) (queue logs : List ConnectionLog) (b : Bool) → nat_eq other.connection.user user ≡ b → In log (cond b (other ∷ queue) queue)
    → (In log queue → In log logs × (log.connection.user ≡ user)) → In log (other ∷ logs) × (log.connection.user ≡ user)
in_cond user log other queue logs true e first ih = (first, eqb-true other.connection.user user e)
in_cond user log other queue logs true e (later more) ih = let r = ih more in (later r.0, r.1)
in_cond user log other queue logs false e i ih = let r = ih i in (later r.0, r.1)

-- a log of a user's queue is one of all logs, and of this user
in_queue : (user : ℕ) (log : ConnectionLog) (logs : List ConnectionLog) → In log (queue_in user logs) → In log logs × (log.connection.user ≡ user)
in_queue user log [] h = elim h [ ]
in_queue user log (other ∷ logs) h = in_cond user log other (queue_in user logs) logs (nat_eq other.connection.user user) refl h (in_queue user log logs)

some_none : {A : Type 0} (o : Option A) (x : A) → o ≡ Some x → o ≡ None → ⊥
some_none o x e h = cc

same_some : {A : Type 0} (o : Option A) (x y : A) → o ≡ Some x → o ≡ Some y → x ≡ y
same_some o x y e h = cc

-- each log is found by its number
found_in : (log : ConnectionLog) (logs : List ConnectionLog) → In log logs → Distinct logs → found log.id logs ≡ Some log
unfolding found Distinct
found_in log logs (first {queue = rest}) d = ap (λ b. cond b (Some log) (found log.id rest)) (eq-eqb log.id log.id refl)
found_in log logs (later {other} {queue = rest} more) (none, d) = by (nat_eq other.id log.id) refl (found_in log rest more d)
  where
    by : (b : Bool) → nat_eq other.id log.id ≡ b → found log.id rest ≡ Some log
        → cond (nat_eq other.id log.id) (Some other) (found log.id rest) ≡ Some log
    by true e ih =
        let same = eqb-true other.id log.id e in
        absurd (some_none (found log.id rest) log ih (ap (λ n. found n rest) (sym same) ∙ none))
    by false e ih = ap (λ b. cond b (Some other) (found log.id rest)) e ∙ ih

-- the holder of the state of a valid queue: it is at home, or with an owner
data Holder (home : Option UserState) (queue : List ConnectionLog) : Type 0 where
  at_home : (state : UserState) → home ≡ Some state → Holder home queue
  with_owner : (log : ConnectionLog) (owner : Owner) → In log queue → log.connection.state ≡ inside owner → Holder home queue

holder_later : (home : Option UserState) (log : ConnectionLog) (queue : List ConnectionLog) → Holder home queue → Holder home (log ∷ queue)
holder_later home log queue (at_home state e) = at_home state e
holder_later home log queue (with_owner other owner i e) = with_owner other owner (later i) e

holder : (from : Value) (past : ℕ) (home : Option UserState) (queue : List ConnectionLog) (texts : Texts) → QueueInvariant from past home queue texts → Holder home queue
unfolding QueueInvariant
holder from zero (Some state) queue texts s = at_home state refl
holder from zero None [] texts s = absurd s
holder from zero None (log ∷ queue) texts (o, ws) = with_owner log o.owner first o.owns
holder from (suc past) home [] texts s = absurd s
holder from (suc past) home (log ∷ queue) texts (between, early, late, left, s, whole) = holder_later home log queue (holder between past home queue late s)

-- each user has a value
has_value : (rows : List UserRow) (user : ℕ) (from : Value) (t : Machine) (hs : List ConnectionHistory) (texts : Texts) → RunInvariant rows user from t hs texts
    → (value : Value) × (waits : Option Order) × HasUserValue t user value waits
has_value rows user from t hs texts k = by (holder from k.own.row.past k.own.row.home (queue_in user k.logs) texts k.own.queue_is_valid)
  where
    by : Holder k.own.row.home (queue_in user k.logs) → (value : Value) × (waits : Option Order) × HasUserValue t user value waits
    by (at_home state e) =
        let home : IsAtHome t user (user_of state) = record { row = k.own.row; there = k.own.there_is; state = state; home = e; is = refl } in
        (user_of state, None, inl (home, refl))
    by (with_owner log owner i e) =
        let slot = in_queue user log k.logs i in
        let is_found = found_in log k.logs slot.0 k.distinct in
        let own : IsOwned t user (user_in owner) owner.waiting = record {
          id = log.id;
          connection = log.connection;
          known = k.logged log.id ∙ ap (option_map (λ s. s.connection)) is_found;
          of_user = slot.1;
          owner = owner;
          owns = e;
          is = refl;
          left = refl;
        } in (user_in owner, owner.waiting, inr own)

-- the invariant accounts for the value of a user
progress_of_value : (rows : List UserRow) (user : ℕ) (from : Value) (t : Machine) (hs : List ConnectionHistory) (texts : Texts) (k : RunInvariant rows user from t hs texts)
    (value : Value) (waits : Option Order) → HasUserValue t user value waits → ScriptProgress from (items_in (queue_in user k.logs)) texts value waits
progress_of_value rows user from t hs texts k value waits (inl (h, none)) =
    let row : h.row ≡ k.own.row = same_some (slice_get t.rows user) h.row k.own.row h.there k.own.there_is in
    let home : k.own.row.home ≡ Some h.state = ap (λ r. r.home) (sym row) ∙ h.home in
    let a = progress_at_home from k.own.row.past k.own.row.home h.state (queue_in user k.logs) texts home k.own.queue_is_valid in
    subst (λ v. ScriptProgress from (items_in (queue_in user k.logs)) texts v waits) (sym h.is)
    (subst (ScriptProgress from (items_in (queue_in user k.logs)) texts (user_of h.state)) (sym none) a)
progress_of_value rows user from t hs texts k value waits (inr h) =
    let log0 = log_at h.id k.logs h.connection (sym (k.logged h.id) ∙ h.known) in
    let log = log_with h.connection log0.0 in
    let ch = found_changes h.id k.logs log log log0.1 in
    let queue_ch = queue_changes user h.id log log k.logs ch.0 ch.1 (eq-eqb h.connection.user user h.of_user) refl in
    let a = (progress_of_owner from k.own.row.past k.own.row.home h.id log log (queue_in user k.logs) (queue_in user ch.0) h.owner texts queue_ch h.owns k.own.queue_is_valid).1 in
    subst (λ v. ScriptProgress from (items_in (queue_in user k.logs)) texts v waits) (sym h.is)
    (subst (ScriptProgress from (items_in (queue_in user k.logs)) texts (user_in h.owner)) (sym h.left) a)

take_front : {A : Type 0} (xs ys : List A) → take (length xs) (xs ++ ys) ≡ xs
take_front [] ys = refl
take_front (x ∷ xs) ys = ap (λ l. x ∷ l) (take_front xs ys)

get_after : {A : Type 0} (xs : List A) (y : A) (ys : List A) → slice_get (xs ++ y ∷ ys) (length xs) ≡ Some y
get_after [] y ys = refl
get_after (x ∷ xs) y ys = get_after xs y ys

-- and that is the value of its script
script_value : MarkIsTold → (quota : Quota) (items : List Item) (reply_texts : Texts) (value : Value) (waits : Option Order)
    → ScriptProgress (fresh_user quota) items reply_texts value waits → IsScriptValue quota (record { items = items; marks = map is_memory reply_texts }) value waits
unfolding At
script_value marked quota items reply_texts value waits a = by waits a.at
  where
    marks : List Bool
    marks = map is_memory reply_texts

    counted : length marks ≡ length a.answered
    counted = length-map reply_texts is_memory ∙ sym (AnsweredAll-length (fresh_user quota) a.answered reply_texts a.last a.is_answer)

    so_far : last_user (fresh_user quota) (take (length marks) items) marks ≡ a.last
    so_far =
        ap (λ xs. last_user (fresh_user quota) xs marks) (ap (λ n. take n items) counted ∙ ap (take (length a.answered)) a.split ∙ take_front a.answered a.others)
        ∙ last_user-AnsweredAll marked (fresh_user quota) a.answered reply_texts a.last a.is_answer

    by : (o : Option Order) → At a.last value o a.others → IsScriptValue quota (record { items = items; marks = marks }) value o
    by None at = at ∙ sym so_far
    by (Some left) (command, more, others, on) = (
      command,
      ap (slice_get items) counted ∙ ap (λ xs. slice_get xs (length a.answered)) (a.split ∙ ap (λ ys. a.answered ++ ys) others)
          ∙ get_after a.answered (Command command) more,
      subst (λ v. WaitsOn v command value left) (sym so_far) on,
    )

-- in every run the value of a user is that of its script so far
pub value_is_of_script : MarkIsTold → PendingCommandLaws → ValueIsThatOfScript
value_is_of_script marked laws users events entries last user quota run has_quota =
    let k = run_kept laws users events entries last user quota run has_quota in
    let rows = map first_row users in
    let hs = connection_histories users events in
    let reply_texts = replies user entries in (
      has_value rows user (fresh_user quota) last hs reply_texts k,
      λ value waits h. script_value marked quota (items_joined (histories_of user hs)) reply_texts value waits
          (subst (λ xs. ScriptProgress (fresh_user quota) xs reply_texts value waits) (sym (script_items rows user (fresh_user quota) last hs reply_texts k))
          (progress_of_value rows user (fresh_user quota) last hs reply_texts k value waits h)),
    )

-- the log at an index of a queue
numbered_at : (n i : ℕ) (queue : List ConnectionLog) (log : ConnectionLog) → Numbered n queue → slice_get queue i ≡ Some log → In log queue × (log.connection.number ≡ n + i)
unfolding Numbered
numbered_at n i [] log numbered e = absurd (some_none None log e refl)
numbered_at n zero (other ∷ queue) log (is, more) e =
    let same : other ≡ log = same_some (Some other) other log refl e in
    (subst (λ s. In log (s ∷ queue)) (sym same) first, omega (arith, ap (λ s. s.connection.number) same, is))
numbered_at n (suc i) (other ∷ queue) log (is, more) e =
    let r = numbered_at (suc n) i queue log more e in (later r.0, omega (arith, r.1))

mapped : (o : Option ConnectionLog) (h : ConnectionHistory) → option_map history_of o ≡ Some h → (log : ConnectionLog) × (o ≡ Some log) × (history_of log ≡ h)
mapped None h e = absurd (some_none None h e refl)
mapped (Some log) h e = (log, refl, same_some (Some (history_of log)) (history_of log) h refl e)

-- tickets are granted in the order of HELLO
pub tickets_in_order : PendingCommandLaws → TicketsAreInOrder
tickets_in_order laws users events entries last user quota run has_quota n h e =
    let k = run_kept laws users events entries last user quota run has_quota in
    let queue = queue_in user k.logs in
    let histories_queue : histories_of user (connection_histories users events) ≡ map history_of queue = ap (histories_of user) k.histories_are ∙ queue_histories user k.logs in
    let read : option_map history_of (slice_get queue n) ≡ Some h =
    sym (slice_get-map history_of queue n) ∙ ap (λ l. slice_get l n) (sym histories_queue) ∙ e in
    let m = mapped (slice_get queue n) h read in
    let log = m.0 in
    let at = numbered_at 0 n queue log k.own.numbered m.1 in
    let slot = in_queue user log k.logs at.0 in
    let ticket : HasTicket last log.id user n = record {
      connection = log.connection;
      known = k.logged log.id ∙ ap (option_map (λ s. s.connection)) (found_in log k.logs slot.0 k.distinct);
      of_user = slot.1;
      numbered = omega (arith, at.1);
    } in subst (λ x. HasTicket last x.id user n) m.2 ticket
