-- What is kept where the row of a user changes: a connection enters or leaves, or a new one is granted a ticket.
use Rattle.std.proofs.Common.{◌≡◌, ◌≢◌, ℕ, suc, ◌+◌, Bool, true, false, cond, nat_eq, List, [], ◌∷◌, ◌++◌, length, slice_get, slice_set, slice_index_or, Option, Some, None, option_map, ◌⊎◌, inl, inr, refl, sym, ◌∙◌, ap, subst, arith, append-nil, get_or-set_same, get_or-set_other, length-set, length-append, eq-eqb, ne_eqb}
use Rattle.std.proofs.lemmas.Bool.{eqb-false}
use Rattle.std.proofs.lemmas.Bool.Decides.{eqb_tells}
use Rattle.std.proofs.lemmas.List.{map-append}
use Rattle.std.proofs.lemmas.List.Elements.{filter-append}
use Rattle.lj_session.specs.Users.{User}
use Rattle.lj_session.specs.UserState.{UserState}
use Rattle.lj_access.specs.UserRows.{UserRow, has_credentials, user_with, with_row_changed, with_ticket, without_home, with_home}
use Rattle.lj_world.specs.Machine.{Machine, Connection, connection_at, new_connection}
use Rattle.lj_world.specs.Transitions.{HelloTransition}
use Rattle.lj_world.specs.Scripts.{ConnectionHistory}
use Rattle.lj_world.proofs.Answering.{Texts}
use Rattle.lj_world.proofs.ConnectionLogs.{ConnectionLog, history_of, Waits}
use Rattle.lj_world.proofs.Queues.{Changes, QueueInvariant, Numbered, numbered_changed, queue_invariant_hello}
use Rattle.lj_world.proofs.LogLookup.{found, queue_in, found_pushed, queue_changes, queue_stays, history_stays}
use Rattle.lj_world.proofs.RowLemmas.{row_changed, row_other, users_stay, WasRead, read_changed}
use Rattle.lj_world.proofs.RunInvariant.{RunInvariant, OwnQueue, own_stays, Distinct, Same, Renewed, renewed, distinct_changed, logged_changed}

-- a change of a row that leaves its name, its token and its tickets that were granted
pub record LeavesTickets (change : UserRow → UserRow) : Type 0 where
  pub known : (name token : List ℕ) (row : UserRow) → has_credentials name token (change row) ≡ has_credentials name token row
  pub granted : (row : UserRow) → (change row).granted ≡ row.granted

pub lent_leaves : LeavesTickets without_home
lent_leaves = record { known = λ name token row. refl; granted = λ row. refl }

pub home_leaves : (state : UserState) → LeavesTickets (with_home state)
home_leaves state = record { known = λ name token row. refl; granted = λ row. refl }

-- a connection and the row of its user change
pub row_change_keeps : (rows : List UserRow) (user : ℕ) (from : User) (s t : Machine) (hs : List ConnectionHistory) (texts : Texts) (k : RunInvariant rows user from s hs texts)
    (c : ℕ) (log x : ConnectionLog) (change : UserRow → UserRow) → found c k.logs ≡ Some log → Same log x → history_of x ≡ history_of log → LeavesTickets change
    → t.rows ≡ with_row_changed log.connection.user change s.rows → t.connections ≡ slice_set s.connections c (Some x.connection)
    → (log.connection.user ≡ user → (queue : List ConnectionLog) → Changes c log x (queue_in user k.logs) queue
    → QueueInvariant from (change k.own.row).past (change k.own.row).home queue texts)
    → RunInvariant rows user from t hs texts
row_change_keeps rows user from s t hs texts k c log x change is_found same unrecorded leaves rows_are connections queue_is_valid_after = record {
  logs = r.new;
  histories_are = k.histories_are ∙ sym (history_stays c log x k.logs r.new r.changes unrecorded);
  connection_slots = ap length connections ∙ length-set {A = Option Connection} s.connections c (Some x.connection) ∙ k.connection_slots;
  logged = logged_changed s t c log x k.logs r.new r.changes same.id k.connection_slots r.within connections k.logged;
  distinct = distinct_changed c log x k.logs r.new r.changes same.id k.distinct;
  names = λ name token. ap (λ r. user_with r name token) rows_are ∙ users_stay s.rows log.connection.user change name token (leaves.known name token) ∙ k.names name token;
  granted = granted_is;
  own = subst (λ rs. OwnQueue rs user from (queue_in user r.new) texts) (sym rows_are) mine;
}
  where
    r : Renewed k.logs c log x
    r = renewed k c log x is_found same

    granted_is : (v : ℕ) (row : UserRow) → slice_get t.rows v ≡ Some row → row.granted ≡ length (queue_in v r.new)
    granted_is v row e = by (read_changed s.rows log.connection.user change v row (sym (ap (λ r. slice_get r v) rows_are) ∙ e))
      where
        as_was : (was : UserRow) → slice_get s.rows v ≡ Some was → row.granted ≡ was.granted → row.granted ≡ length (queue_in v r.new)
        as_was was is g = g ∙ k.granted v was is ∙ sym (r.lengths v)

        by : WasRead s.rows log.connection.user change v row → row.granted ≡ length (queue_in v r.new)
        by (was, is, inl (_, e)) = as_was was is (ap (λ z. z.granted) e ∙ leaves.granted was)
        by (was, is, inr (inl (_, e))) = as_was was is (ap (λ z. z.granted) e)
        by (was, is, inr (inr (_, e))) = as_was was is (ap (λ z. z.granted) e)

    mine : OwnQueue (with_row_changed log.connection.user change s.rows) user from (queue_in user r.new) texts
    mine = by (eqb_tells log.connection.user user)
      where
        by : ((nat_eq log.connection.user user ≡ true) × (log.connection.user ≡ user)) ⊎ ((nat_eq log.connection.user user ≡ false) × (log.connection.user ≢ user))
            → OwnQueue (with_row_changed log.connection.user change s.rows) user from (queue_in user r.new) texts
        by (inl (e, is)) =
            let queue_ch = queue_changes user c log x k.logs r.new r.changes e same.user in record {
              row = change k.own.row;
              there_is = ap (λ v. slice_get (with_row_changed v change s.rows) user) is ∙ row_changed s.rows user change k.own.row k.own.there_is;
              queue_is_valid = queue_is_valid_after is (queue_in user r.new) queue_ch;
              numbered = numbered_changed c log x 0 (queue_in user k.logs) (queue_in user r.new) queue_ch same.number k.own.numbered;
            }
        by (inr (e, differs)) =
            own_stays k.own (row_other s.rows log.connection.user change user differs) (queue_stays user c log x k.logs r.new r.changes e same.user)

numbered_pushed : (n : ℕ) (queue : List ConnectionLog) (x : ConnectionLog) → Numbered n queue → x.connection.number ≡ n + length queue → Numbered n (queue ++ x ∷ [])
unfolding Numbered
numbered_pushed n [] x numbered is = (omega (arith, is), tt)
numbered_pushed n (log ∷ queue) x (first, more) is = (first, numbered_pushed (suc n) queue x more (omega (arith, is)))

distinct_pushed : (c : ℕ) (logs : List ConnectionLog) (x : ConnectionLog) → found c logs ≡ None → x.id ≡ c → Distinct logs → Distinct (logs ++ x ∷ [])
unfolding Distinct found
distinct_pushed c [] x none is d = (refl, tt)
distinct_pushed c (log ∷ logs) x none is (fresh, more) = by (nat_eq log.id c) refl (distinct_pushed c logs x)
  where
    by : (b : Bool) → nat_eq log.id c ≡ b → (found c logs ≡ None → x.id ≡ c → Distinct logs → Distinct (logs ++ x ∷ []))
        → Distinct ((log ∷ logs) ++ x ∷ [])
    by true h ih = absurd (some_none log (sym (ap (λ b. cond b (Some log) (found c logs)) h) ∙ none))
      where
        some_none : (a : ConnectionLog) → Some a ≡ None → ⊥
        some_none a e = cc
    by false h ih =
        let rest : found c logs ≡ None = sym (ap (λ b. cond b (Some log) (found c logs)) h) ∙ none in
        let differs : nat_eq c log.id ≡ false = ne_eqb c log.id (λ e. eqb-false log.id c h (sym e)) in
        (found_pushed c log.id logs x rest is ∙ ap (λ b. cond b (Some x) (found log.id logs)) differs ∙ fresh, ih rest is more)

-- a connection that has no log
pub nowhere : (c : ℕ) (logs : List ConnectionLog) → option_map (λ log. log.connection) (found c logs) ≡ None → found c logs ≡ None
nowhere c logs e = by (found c logs) e
  where
    by : (o : Option ConnectionLog) → option_map (λ log. log.connection) o ≡ None → o ≡ None
    by None h = refl
    by (Some log) h = absurd (some_none log.connection h)
      where
        some_none : (a : Connection) → Some a ≡ None → ⊥
        some_none a k = cc

queue_pushed : (v : ℕ) (logs : List ConnectionLog) (x : ConnectionLog) (b : Bool) → nat_eq x.connection.user v ≡ b → queue_in v (logs ++ x ∷ []) ≡ queue_in v logs ++ cond b (x ∷ []) []
queue_pushed v logs x b e = filter-append (λ log. nat_eq log.connection.user v) logs (x ∷ []) ∙ ap (λ z. queue_in v logs ++ cond z (x ∷ []) []) e

-- the log of a new connection
abbrev pub new_log : ℕ → ℕ → ℕ → ConnectionLog
new_log c user number = record { id = c; items = []; connection = new_connection user number }

pub hello_adds_log : (rows : List UserRow) (user : ℕ) (from : User) (s t : Machine) (hs : List ConnectionHistory) (texts : Texts) (k : RunInvariant rows user from s hs texts)
    (c : ℕ) (name token : List ℕ) (p : HelloTransition s c name token t)
    → RunInvariant rows user from t (hs ++ history_of (new_log c p.user p.row.granted) ∷ []) texts
hello_adds_log rows user from s t hs texts k c name token p = record {
  logs = k.logs ++ x ∷ [];
  histories_are = ap (λ h. h ++ history_of x ∷ []) k.histories_are ∙ sym (map-append history_of k.logs (x ∷ []));
  connection_slots = ap length connections ∙ length-set {A = Option Connection} s.connections c (Some x.connection) ∙ k.connection_slots;
  logged = logged_is;
  distinct = distinct_pushed c k.logs x none refl k.distinct;
  names = λ n k_token. ap (λ r. user_with r n k_token) rows_are ∙ users_stay s.rows p.user with_ticket n k_token (λ row. refl) ∙ k.names n k_token;
  granted = granted_is;
  own = subst (λ rs. OwnQueue rs user from (queue_in user (k.logs ++ x ∷ [])) texts) (sym rows_are) mine;
}
  where
    x : ConnectionLog
    x = new_log c p.user p.row.granted

    rows_are : t.rows ≡ with_row_changed p.user with_ticket s.rows
    rows_are = ap (λ z. z.rows) p.next

    connections : t.connections ≡ slice_set s.connections c (Some x.connection)
    connections = ap (λ z. z.connections) p.next

    none : found c k.logs ≡ None
    none = nowhere c k.logs (sym (k.logged c) ∙ p.is_new)

    logged_is : (d : ℕ) → connection_at t d ≡ option_map (λ log. log.connection) (found d (k.logs ++ x ∷ []))
    logged_is d = by (eqb_tells c d)
      where
        after : option_map (λ log. log.connection) (found d (k.logs ++ x ∷ [])) ≡ option_map (λ log. log.connection) (cond (nat_eq c d) (Some x) (found d k.logs))
        after = ap (option_map (λ log. log.connection)) (found_pushed c d k.logs x none refl)

        by : ((nat_eq c d ≡ true) × (c ≡ d)) ⊎ ((nat_eq c d ≡ false) × (c ≢ d)) → connection_at t d ≡ option_map (λ log. log.connection) (found d (k.logs ++ x ∷ []))
        by (inl (e, is)) =
            ap (λ ts. slice_index_or ts d None) connections ∙ ap (λ z. slice_index_or (slice_set s.connections c (Some x.connection)) z None) (sym is)
            ∙ get_or-set_same s.connections c (Some x.connection) None (omega (arith, k.connection_slots, p.within.last))
            ∙ sym (after ∙ ap (λ b. option_map (λ log. log.connection) (cond b (Some x) (found d k.logs))) e)
        by (inr (e, differs)) =
            ap (λ ts. slice_index_or ts d None) connections ∙ get_or-set_other s.connections c d (Some x.connection) None (λ h. differs (sym h)) ∙ k.logged d
            ∙ sym (after ∙ ap (λ b. option_map (λ log. log.connection) (cond b (Some x) (found d k.logs))) e)

    granted_is : (v : ℕ) (row : UserRow) → slice_get t.rows v ≡ Some row → row.granted ≡ length (queue_in v (k.logs ++ x ∷ []))
    granted_is v row e = by (read_changed s.rows p.user with_ticket v row (sym (ap (λ r. slice_get r v) rows_are) ∙ e))
      where
        by : WasRead s.rows p.user with_ticket v row → row.granted ≡ length (queue_in v (k.logs ++ x ∷ []))
        by (was, is, inl (same, r)) =
            let queue = queue_pushed v k.logs x true (eq-eqb p.user v same) in
            let long = ap length queue ∙ length-append (queue_in v k.logs) (x ∷ []) in
            omega (arith, k.granted v was is, ap (λ z. z.granted) r, long)
        by (was, is, inr (inl (differs, r))) =
            let queue = queue_pushed v k.logs x false (ne_eqb p.user v differs) in
            ap (λ z. z.granted) r ∙ k.granted v was is ∙ sym (ap length (queue ∙ append-nil (queue_in v k.logs)))
        by (was, is, inr (inr (absent, r))) = absurd (none_some p.row (sym absent ∙ p.there))
          where
            none_some : (a : UserRow) → None ≡ Some a → ⊥
            none_some a h = cc

    mine : OwnQueue (with_row_changed p.user with_ticket s.rows) user from (queue_in user (k.logs ++ x ∷ [])) texts
    mine = by (eqb_tells p.user user)
      where
        same_row : (a b : UserRow) → Some a ≡ Some b → a ≡ b
        same_row a b h = cc

        by : ((nat_eq p.user user ≡ true) × (p.user ≡ user)) ⊎ ((nat_eq p.user user ≡ false) × (p.user ≢ user))
            → OwnQueue (with_row_changed p.user with_ticket s.rows) user from (queue_in user (k.logs ++ x ∷ [])) texts
        by (inl (e, is)) =
            let queue = queue_pushed user k.logs x true e in
            let w : Waits x = record { waits = refl; inbox = refl; not_finished = refl } in
            let number : p.row.granted ≡ length (queue_in user k.logs) = k.granted user p.row (ap (slice_get s.rows) (sym is) ∙ p.there) in record {
              row = with_ticket k.own.row;
              there_is = ap (λ v. slice_get (with_row_changed v with_ticket s.rows) user) is ∙ row_changed s.rows user with_ticket k.own.row k.own.there_is;
              queue_is_valid = subst (λ l. QueueInvariant from k.own.row.past k.own.row.home l texts) (sym queue)
                  (queue_invariant_hello from k.own.row.past k.own.row.home (queue_in user k.logs) x texts w k.own.queue_is_valid);
              numbered = subst (Numbered 0) (sym queue) (numbered_pushed 0 (queue_in user k.logs) x k.own.numbered (omega (arith, number)));
            }
        by (inr (e, differs)) =
            own_stays k.own (row_other s.rows p.user with_ticket user differs)
            (queue_pushed user k.logs x false e ∙ append-nil (queue_in user k.logs))
