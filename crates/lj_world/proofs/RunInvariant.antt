-- The invariant of a run for one of its users: its connections are those of the histories, in the order of their
-- tickets, and its queue is valid.
use Rattle.std.proofs.Common.{◌≡◌, ◌≢◌, ℕ, zero, suc, ◌<◌, Bool, true, false, cond, nat_eq, List, [], ◌∷◌, map, length, slice_get, slice_set, slice_index_or, Option, Some, None, option_map, ◌⊎◌, inl, inr, refl, sym, ◌∙◌, ap, subst, arith, get_or-set_same, get_or-set_other, length-set}
use Rattle.std.proofs.lemmas.Bool.{eqb-false}
use Rattle.std.proofs.lemmas.Bool.Decides.{eqb_tells}
use Rattle.lj_session.specs.Users.{User}
use Rattle.lj_access.specs.UserRows.{UserRow, user_with}
use Rattle.lj_world.specs.Machine.{Machine, Connection, connection_at}
use Rattle.lj_world.specs.Scripts.{ConnectionHistory}
use Rattle.lj_world.proofs.Answering.{Texts}
use Rattle.lj_world.proofs.ConnectionLogs.{ConnectionLog, history_of, log_with, ConnectionChange, arrives, ends_now, works, begins, answers, turns_on, turns_last, grown}
use Rattle.lj_world.proofs.Queues.{Changes, here, there, QueueInvariant, Numbered, numbered_changed, queue_invariant_change}
use Rattle.lj_world.proofs.LogLookup.{found, queue_in, found_changes, found_changed, found_other, queue_changes, queue_stays}

-- no two logs are of one connection
unfoldable pub Distinct : List ConnectionLog → Type 0
Distinct [] = Unit {0}
Distinct (log ∷ logs) = (found log.id logs ≡ None) × Distinct logs

pub distinct_changed : (c : ℕ) (log x : ConnectionLog) (logs new : List ConnectionLog) → Changes c log x logs new → x.id ≡ log.id → Distinct logs → Distinct new
unfolding Distinct
distinct_changed c log x logs new (here {queue = rest} e) same (none, more) = (ap (λ n. found n rest) same ∙ none, more)
distinct_changed c log x logs new (there {other} {queue = rest} {new = changed} e ch) same (none, more) = (
  found_other c other.id log x rest changed ch same (λ h. eqb-false other.id c e h) ∙ none,
  distinct_changed c log x rest changed ch same more,
)

-- the row of a user, and the logs of its connections: in the order of their tickets, and a valid queue
pub record OwnQueue (rows : List UserRow) (user : ℕ) (from : User) (queue : List ConnectionLog) (texts : Texts) : Type 0 where
  pub row : UserRow
  pub there_is : slice_get rows user ≡ Some row
  pub queue_is_valid : QueueInvariant from row.past row.home queue texts
  pub numbered : Numbered 0 queue

-- which stay where other rows and logs change
pub own_stays : {rows new : List UserRow} {user : ℕ} {from : User} {queue next : List ConnectionLog} {texts : Texts}
    → OwnQueue rows user from queue texts → slice_get new user ≡ slice_get rows user → next ≡ queue → OwnQueue new user from next texts
own_stays {from = from} {texts = texts} own same stays = record {
  row = own.row;
  there_is = same ∙ own.there_is;
  queue_is_valid = subst (λ l. QueueInvariant from own.row.past own.row.home l texts) (sym stays) own.queue_is_valid;
  numbered = subst (Numbered 0) (sym stays) own.numbered;
}

-- The invariant for a user that begins from a value: a state, the histories and the replies so far. The rows are those in
-- which the run began.
pub record RunInvariant (rows : List UserRow) (user : ℕ) (from : User) (s : Machine) (hs : List ConnectionHistory) (texts : Texts) : Type 0 where
  pub logs : List ConnectionLog
  pub histories_are : hs ≡ map history_of logs
  pub connection_slots : length s.connections ≡ 65
  pub logged : (c : ℕ) → connection_at s c ≡ option_map (λ log. log.connection) (found c logs)
  pub distinct : Distinct logs
  pub names : (name token : List ℕ) → user_with s.rows name token ≡ user_with rows name token
  pub granted : (v : ℕ) (row : UserRow) → slice_get s.rows v ≡ Some row → row.granted ≡ length (queue_in v logs)
  pub own : OwnQueue s.rows user from (queue_in user logs) texts

-- a connection that is known has a log
pub log_at : (c : ℕ) (logs : List ConnectionLog) (connection : Connection) → option_map (λ log. log.connection) (found c logs) ≡ Some connection
    → (log : ConnectionLog) × (found c logs ≡ Some (log_with connection log))
log_at c logs connection e = by (found c logs) e
  where
    by : (o : Option ConnectionLog) → option_map (λ log. log.connection) o ≡ Some connection → (log : ConnectionLog) × (o ≡ Some (log_with connection log))
    by None h = absurd (no_connection connection h)
      where
        no_connection : (t : Connection) → None ≡ Some t → ⊥
        no_connection t k = cc
    by (Some log) h = (log, ap (λ t. Some (log_with t log)) (same log.connection connection h))
      where
        same : (a b : Connection) → Some a ≡ Some b → a ≡ b
        same a b k = cc

-- what stays of a connection that goes on
pub record Same (log x : ConnectionLog) : Type 0 where
  pub id : x.id ≡ log.id
  pub user : x.connection.user ≡ log.connection.user
  pub number : x.connection.number ≡ log.connection.number

pub change_same : (log : ConnectionLog) (reply : Option (List ℕ)) (x : ConnectionLog) → ConnectionChange log reply x → Same log x
change_same log reply x (arrives item still) = record { id = refl; user = refl; number = refl }
change_same log reply x ends_now = record { id = refl; user = refl; number = refl }
change_same log reply x (works owner after posted e r u) = record { id = refl; user = refl; number = refl }
change_same log reply x (begins owner after command left items e r o i t a u) = record { id = refl; user = refl; number = refl }
change_same log reply x (answers owner after item items mark text e r o i t a) = record { id = refl; user = refl; number = refl }
change_same log reply x (turns_on owner after command left e r a u) = record { id = refl; user = refl; number = refl }
change_same log reply x (turns_last owner after command mark text e r t a) = record { id = refl; user = refl; number = refl }

-- the reply to a user, if the reply is to one of its connections
abbrev pub reply_if : Bool → Option (List ℕ) → Option (List ℕ)
reply_if mine reply = cond mine reply None

-- the slots after one connection is changed
pub logged_changed : (s t : Machine) (c : ℕ) (log x : ConnectionLog) (logs new : List ConnectionLog) → Changes c log x logs new → x.id ≡ log.id
    → length s.connections ≡ 65 → c < 65 → t.connections ≡ slice_set s.connections c (Some x.connection)
    → ((d : ℕ) → connection_at s d ≡ option_map (λ log. log.connection) (found d logs)) → (d : ℕ) → connection_at t d ≡ option_map (λ log. log.connection) (found d new)
logged_changed s t c log x logs new ch same slots within connections logged d = by (eqb_tells d c)
  where
    read : connection_at t d ≡ slice_index_or (slice_set s.connections c (Some x.connection)) d None
    read = ap (λ ts. slice_index_or ts d None) connections

    by : (nat_eq d c ≡ true) × (d ≡ c) ⊎ (nat_eq d c ≡ false) × (d ≢ c) → connection_at t d ≡ option_map (λ log. log.connection) (found d new)
    by (inl (_, is)) =
        read ∙ ap (λ k. slice_index_or (slice_set s.connections c (Some x.connection)) k None) is
        ∙ get_or-set_same s.connections c (Some x.connection) None (omega (arith, slots, within))
        ∙ sym (ap (option_map (λ log. log.connection)) (ap (λ k. found k new) is ∙ found_changed c log x logs new ch same))
    by (inr (_, differs)) =
        read ∙ get_or-set_other s.connections c d (Some x.connection) None differs ∙ logged d
        ∙ sym (ap (option_map (λ log. log.connection)) (found_other c d log x logs new ch same differs))

-- a slot that is not empty is one of them
pub within_slots : (connections : List (Option Connection)) (c : ℕ) (connection : Connection) → slice_index_or connections c None ≡ Some connection → c < length connections
within_slots [] c connection e = absurd (no_connection connection e)
  where
    no_connection : (t : Connection) → None ≡ Some t → ⊥
    no_connection t k = cc
within_slots (first ∷ connections) zero connection e = omega arith
within_slots (first ∷ connections) (suc c) connection e = let ih = within_slots connections c connection e in omega (arith, ih)

pub changes_length : (c : ℕ) (log x : ConnectionLog) (logs new : List ConnectionLog) → Changes c log x logs new → length new ≡ length logs
changes_length c log x logs new (here e) = refl
changes_length c log x logs new (there {other} {queue = rest} {new = changed} e ch) = ap suc (changes_length c log x rest changed ch)

-- the logs after that of one connection is changed, and what stays of them
pub record Renewed (logs : List ConnectionLog) (c : ℕ) (log x : ConnectionLog) : Type 0 where
  pub new : List ConnectionLog
  pub changes : Changes c log x logs new
  pub within : c < 65
  pub lengths : (v : ℕ) → length (queue_in v new) ≡ length (queue_in v logs)

pub renewed : {rows : List UserRow} {user : ℕ} {from : User} {s : Machine} {hs : List ConnectionHistory} {texts : Texts} (k : RunInvariant rows user from s hs texts)
    (c : ℕ) (log x : ConnectionLog) → found c k.logs ≡ Some log → Same log x → Renewed k.logs c log x
renewed {s} k c log x is_found same = record { new = changed.0; changes = changed.1; within = slot; lengths = lengths_stay }
  where
    changed : (new : List ConnectionLog) × Changes c log x k.logs new
    changed = found_changes c k.logs log x is_found

    slot : c < 65
    slot = let w = within_slots s.connections c log.connection (k.logged c ∙ ap (option_map (λ log. log.connection)) is_found) in omega (arith, w, k.connection_slots)

    lengths_stay : (v : ℕ) → length (queue_in v changed.0) ≡ length (queue_in v k.logs)
    lengths_stay v = by (nat_eq log.connection.user v) refl
      where
        by : (b : Bool) → nat_eq log.connection.user v ≡ b → length (queue_in v changed.0) ≡ length (queue_in v k.logs)
        by true e = changes_length c log x (queue_in v k.logs) (queue_in v changed.0) (queue_changes v c log x k.logs changed.0 changed.1 e same.user)
        by false e = ap length (queue_stays v c log x k.logs changed.0 changed.1 e same.user)

-- a connection goes on, and all rows stay
pub change_keeps : (rows : List UserRow) (user : ℕ) (from : User) (s t : Machine) (hs new_hs : List ConnectionHistory) (texts : Texts) (k : RunInvariant rows user from s hs texts)
    (c : ℕ) (log x : ConnectionLog) (reply : Option (List ℕ)) → found c k.logs ≡ Some log → ConnectionChange log reply x → t.rows ≡ s.rows
    → t.connections ≡ slice_set s.connections c (Some x.connection) → ((new : List ConnectionLog) → Changes c log x k.logs new → new_hs ≡ map history_of new)
    → RunInvariant rows user from t new_hs (grown texts (reply_if (nat_eq log.connection.user user) reply))
change_keeps rows user from s t hs new_hs texts k c log x reply is_found g rows_stay connections histories_new = record {
  logs = r.new;
  histories_are = histories_new r.new r.changes;
  connection_slots = ap length connections ∙ length-set {A = Option Connection} s.connections c (Some x.connection) ∙ k.connection_slots;
  logged = logged_changed s t c log x k.logs r.new r.changes same.id k.connection_slots r.within connections k.logged;
  distinct = distinct_changed c log x k.logs r.new r.changes same.id k.distinct;
  names = λ name token. ap (λ r. user_with r name token) rows_stay ∙ k.names name token;
  granted = λ v row e. k.granted v row (sym (ap (λ r. slice_get r v) rows_stay) ∙ e) ∙ sym (r.lengths v);
  own = own_after (nat_eq log.connection.user user) refl;
}
  where
    same : Same log x
    same = change_same log reply x g

    r : Renewed k.logs c log x
    r = renewed k c log x is_found same

    rows_same : slice_get t.rows user ≡ slice_get s.rows user
    rows_same = ap (λ r. slice_get r user) rows_stay

    own_after : (b : Bool) → nat_eq log.connection.user user ≡ b
        → OwnQueue t.rows user from (queue_in user r.new) (grown texts (reply_if b reply))
    own_after true e =
        let queue_ch = queue_changes user c log x k.logs r.new r.changes e same.user in record {
          row = k.own.row;
          there_is = rows_same ∙ k.own.there_is;
          queue_is_valid = queue_invariant_change from k.own.row.past k.own.row.home c log x (queue_in user k.logs) (queue_in user r.new) texts reply queue_ch g k.own.queue_is_valid;
          numbered = numbered_changed c log x 0 (queue_in user k.logs) (queue_in user r.new) queue_ch same.number k.own.numbered;
        }
    own_after false e = own_stays k.own rows_same (queue_stays user c log x k.logs r.new r.changes e same.user)
