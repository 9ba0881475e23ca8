-- Logs of connections found by their number, and the queues of users among them.
use Rattle.std.proofs.Common.{◌≡◌, ◌≢◌, ℕ, Bool, true, false, cond, nat_eq, List, [], ◌∷◌, ◌++◌, map, filter, is_some, Option, Some, None, ◌⊎◌, inl, inr, ◌||◌, refl, sym, ◌∙◌, ap, subst, subst₂, ne_eqb, eqb-true}
use Rattle.std.proofs.lemmas.Bool.{eqb-false}
use Rattle.std.specs.List.{list_any}
use Rattle.lj_world.specs.Scripts.{ConnectionHistory, with_history, histories_of}
use Rattle.lj_world.proofs.ConnectionLogs.{ConnectionLog, history_of}
use Rattle.lj_world.proofs.Queues.{Changes, here, there}

-- the first log with this number
unfoldable pub found : ℕ → List ConnectionLog → Option ConnectionLog
found c [] = None
found c (log ∷ logs) = cond (nat_eq log.id c) (Some log) (found c logs)

-- the logs of a user
abbrev pub queue_in : ℕ → List ConnectionLog → List ConnectionLog
queue_in user logs = filter (λ log. nat_eq log.connection.user user) logs

cond_some : {A : Type 0} (b : Bool) (x y : A) (other : Option A) → cond b (Some x) other ≡ Some y → (b ≡ true) × (x ≡ y) ⊎ (b ≡ false) × (other ≡ Some y)
cond_some true x y other e = inl (refl, cc)
cond_some false x y other e = inr (refl, e)

-- what is found can be changed
pub found_changes : (c : ℕ) (logs : List ConnectionLog) (log x : ConnectionLog) → found c logs ≡ Some log → (new : List ConnectionLog) × Changes c log x logs new
unfolding found
found_changes c [] log x e = absurd (no_log log e)
  where
    no_log : (s : ConnectionLog) → None ≡ Some s → ⊥
    no_log s h = cc
found_changes c (first ∷ logs) log x e = by (cond_some (nat_eq first.id c) first log (found c logs) e) (found_changes c logs log x)
  where
    by : (nat_eq first.id c ≡ true) × (first ≡ log) ⊎ (nat_eq first.id c ≡ false) × (found c logs ≡ Some log)
        → (found c logs ≡ Some log → (new : List ConnectionLog) × Changes c log x logs new) → (new : List ConnectionLog) × Changes c log x (first ∷ logs) new
    by (inl (h, same)) ih =
        (x ∷ logs, subst (λ s. Changes c log x (s ∷ logs) (x ∷ logs)) (sym same) (here (ap (λ s. nat_eq s.id c) (sym same) ∙ h)))
    by (inr (h, more)) ih = let r = ih more in (first ∷ r.0, there h r.1)

-- the log that was changed is found
pub found_changed : (c : ℕ) (log x : ConnectionLog) (logs new : List ConnectionLog) → Changes c log x logs new → x.id ≡ log.id → found c new ≡ Some x
unfolding found
found_changed c log x logs new (here {queue = rest} e) same = ap (λ b. cond b (Some x) (found c rest)) (ap (λ n. nat_eq n c) same ∙ e)
found_changed c log x logs new (there {other} {queue = rest} {new = changed} e ch) same =
    ap (λ b. cond b (Some other) (found c changed)) e ∙ found_changed c log x rest changed ch same

-- and every other as before
pub found_other : (c d : ℕ) (log x : ConnectionLog) (logs new : List ConnectionLog) → Changes c log x logs new → x.id ≡ log.id → d ≢ c
    → found d new ≡ found d logs
unfolding found
found_other c d log x logs new (here {queue = rest} e) same differs =
    let is_c = eqb-true log.id c e in
    let not_d : nat_eq log.id d ≡ false = ne_eqb log.id d (λ h. differs (sym h ∙ is_c)) in
    ap (λ b. cond b (Some x) (found d rest)) (ap (λ n. nat_eq n d) same ∙ not_d) ∙ sym (ap (λ b. cond b (Some log) (found d rest)) not_d)
found_other c d log x logs new (there {other} {queue = rest} {new = changed} e ch) same differs =
    ap (λ o. cond (nat_eq other.id d) (Some other) o) (found_other c d log x rest changed ch same differs)

-- a change of a user's connection changes its queue
pub queue_changes : (user c : ℕ) (log x : ConnectionLog) (logs new : List ConnectionLog) → Changes c log x logs new → nat_eq log.connection.user user ≡ true
    → x.connection.user ≡ log.connection.user → Changes c log x (queue_in user logs) (queue_in user new)
queue_changes user c log x logs new (here {queue = rest} e) mine same =
    let mine_too : nat_eq x.connection.user user ≡ true = ap (λ n. nat_eq n user) same ∙ mine in
    let queue = queue_in user rest in
    subst₂ (λ a b. Changes c log x (cond a (log ∷ queue) queue) (cond b (x ∷ queue) queue)) (sym mine) (sym mine_too) (here e)
queue_changes user c log x logs new (there {other} {queue = rest} {new = changed} e ch) mine same =
    by (nat_eq other.connection.user user) (queue_changes user c log x rest changed ch mine same)
  where
    by : (b : Bool) → Changes c log x (queue_in user rest) (queue_in user changed)
        → Changes c log x (cond b (other ∷ queue_in user rest) (queue_in user rest)) (cond b (other ∷ queue_in user changed) (queue_in user changed))
    by true h = there e h
    by false h = h

-- and leaves the queues of other users
pub queue_stays : (user c : ℕ) (log x : ConnectionLog) (logs new : List ConnectionLog) → Changes c log x logs new → nat_eq log.connection.user user ≡ false
    → x.connection.user ≡ log.connection.user → queue_in user new ≡ queue_in user logs
queue_stays user c log x logs new (here {queue = rest} e) other_user same =
    let queue = queue_in user rest in
    ap (λ b. cond b (x ∷ queue) queue) (ap (λ n. nat_eq n user) same ∙ other_user) ∙ sym (ap (λ b. cond b (log ∷ queue) queue) other_user)
queue_stays user c log x logs new (there {other} {queue = rest} {new = changed} e ch) other_user same =
    ap (λ l. cond (nat_eq other.connection.user user) (other ∷ l) l) (queue_stays user c log x rest changed ch other_user same)

-- the same change of the histories
pub history_changes : (c : ℕ) (change : ConnectionHistory → ConnectionHistory) (log x : ConnectionLog) (logs new : List ConnectionLog) → Changes c log x logs new → history_of x ≡ change (history_of log)
    → with_history c change (map history_of logs) ≡ map history_of new
history_changes c change log x logs new (here {queue = rest} e) same =
    let queue = map history_of rest in
    ap (λ b. cond b (change (history_of log) ∷ queue) (history_of log ∷ with_history c change queue)) e ∙ ap (λ h. h ∷ queue) (sym same)
history_changes c change log x logs new (there {other} {queue = rest} {new = changed} e ch) same =
    let queue = map history_of rest in
    ap (λ b. cond b (change (history_of other) ∷ queue) (history_of other ∷ with_history c change queue)) e
    ∙ ap (λ l. history_of other ∷ l) (history_changes c change log x rest changed ch same)

-- a change that leaves the history
pub history_stays : (c : ℕ) (log x : ConnectionLog) (logs new : List ConnectionLog) → Changes c log x logs new → history_of x ≡ history_of log
    → map history_of new ≡ map history_of logs
history_stays c log x logs new (here {queue = rest} e) same = ap (λ h. h ∷ map history_of rest) same
history_stays c log x logs new (there {other} {queue = rest} {new = changed} e ch) same =
    ap (λ l. history_of other ∷ l) (history_stays c log x rest changed ch same)

-- the histories have nothing of a connection that is not known
pub history_nowhere : (c : ℕ) (change : ConnectionHistory → ConnectionHistory) (logs : List ConnectionLog) → found c logs ≡ None
    → with_history c change (map history_of logs) ≡ map history_of logs
unfolding found
history_nowhere c change [] e = refl
history_nowhere c change (log ∷ logs) e = by (nat_eq log.id c) refl (history_nowhere c change logs)
  where
    queue : List ConnectionHistory
    queue = map history_of logs

    by : (b : Bool) → nat_eq log.id c ≡ b → (found c logs ≡ None → with_history c change (map history_of logs) ≡ map history_of logs)
        → with_history c change (map history_of (log ∷ logs)) ≡ map history_of (log ∷ logs)
    by true h ih = absurd (some_none log (sym (ap (λ b. cond b (Some log) (found c logs)) h) ∙ e))
      where
        some_none : (s : ConnectionLog) → Some s ≡ None → ⊥
        some_none s k = cc
    by false h ih =
        ap (λ b. cond b (change (history_of log) ∷ map history_of logs) (history_of log ∷ with_history c change (map history_of logs))) h
        ∙ ap (λ l. history_of log ∷ l) (ih (sym (ap (λ b. cond b (Some log) (found c logs)) h) ∙ e))

-- the histories of a user's queue
pub queue_histories : (user : ℕ) (logs : List ConnectionLog) → histories_of user (map history_of logs) ≡ map history_of (queue_in user logs)
queue_histories user [] = refl
queue_histories user (log ∷ logs) = by (nat_eq log.connection.user user) (queue_histories user logs)
  where
    by : (b : Bool) → histories_of user (map history_of logs) ≡ map history_of (queue_in user logs)
        → cond b (history_of log ∷ histories_of user (map history_of logs)) (histories_of user (map history_of logs))
        ≡ map history_of (cond b (log ∷ queue_in user logs) (queue_in user logs))
    by true ih = ap (λ l. history_of log ∷ l) ih
    by false ih = ih

-- a connection has a history if its log is found
pub any_found : (c : ℕ) (logs : List ConnectionLog) → list_any (λ h. nat_eq h.id c) (map history_of logs) ≡ is_some (found c logs)
unfolding found
any_found c [] = refl
any_found c (log ∷ logs) = by (nat_eq log.id c) (any_found c logs)
  where
    by : (b : Bool) → list_any (λ h. nat_eq h.id c) (map history_of logs) ≡ is_some (found c logs)
        → (b || list_any (λ h. nat_eq h.id c) (map history_of logs)) ≡ is_some (cond b (Some log) (found c logs))
    by true ih = refl
    by false ih = ih

-- one more log, at the end
pub found_pushed : (c d : ℕ) (logs : List ConnectionLog) (x : ConnectionLog) → found c logs ≡ None → x.id ≡ c
    → found d (logs ++ x ∷ []) ≡ cond (nat_eq c d) (Some x) (found d logs)
unfolding found
found_pushed c d [] x none is = ap (λ n. cond (nat_eq n d) (Some x) None) is
found_pushed c d (log ∷ logs) x none is = by (nat_eq log.id c) refl (nat_eq log.id d) refl (found_pushed c d logs x)
  where
    by : (a : Bool) → nat_eq log.id c ≡ a → (b : Bool) → nat_eq log.id d ≡ b
        → (found c logs ≡ None → x.id ≡ c → found d (logs ++ x ∷ []) ≡ cond (nat_eq c d) (Some x) (found d logs))
        → cond (nat_eq log.id d) (Some log) (found d (logs ++ x ∷ []))
        ≡ cond (nat_eq c d) (Some x) (cond (nat_eq log.id d) (Some log) (found d logs))
    by true h b k ih = absurd (some_none log (sym (ap (λ b. cond b (Some log) (found c logs)) h) ∙ none))
      where
        some_none : (s : ConnectionLog) → Some s ≡ None → ⊥
        some_none s e = cc
    by false h true k ih =
        let not_c : nat_eq c d ≡ false = ne_eqb c d (λ e. eqb-false log.id c h (eqb-true log.id d k ∙ sym e)) in
        ap (λ b. cond b (Some log) (found d (logs ++ x ∷ []))) k
        ∙ sym (ap (λ b. cond b (Some x) (cond (nat_eq log.id d) (Some log) (found d logs))) not_c
        ∙ ap (λ b. cond b (Some log) (found d logs)) k)
    by false h false k ih =
        ap (λ b. cond b (Some log) (found d (logs ++ x ∷ []))) k
        ∙ ih (sym (ap (λ b. cond b (Some log) (found c logs)) h) ∙ none) is
        ∙ ap (λ o. cond (nat_eq c d) (Some x) o) (sym (ap (λ b. cond b (Some log) (found d logs)) k))
