-- Runs: the invariant holds at the start and after every step, so the replies to a user are those of its script alone.
use Rattle.std.proofs.Common.{◌≡◌, ℕ, zero, suc, Bool, true, false, cond, nat_eq, List, [], ◌∷◌, ◌++◌, map, filter, fold, length, take, replicate, slice_get, slice_index_or, Option, Some, None, option_map, option_to_list, refl, sym, ◌∙◌, ap, subst, append_assoc, append-nil}
use Rattle.std.proofs.lemmas.List.{length-map}
use Rattle.std.proofs.lemmas.Option.{slice_get-map}
use Rattle.lj_quota.specs.declared.Quota.{Quota}
use Rattle.lj_session.specs.Users.{User as Value, fresh_user}
use Rattle.lj_session.specs.UserState.{user_of, empty_state}
use Rattle.lj_wire.specs.ReplyTexts.{is_memory}
use Rattle.lj_wire.specs.Told.{texts}
use Rattle.lj_wire.specs.StreamLaws.{MarkIsTold}
use Rattle.lj_access.specs.declared.user.User.{User}
use Rattle.lj_access.specs.UserRows.{UserRow, first_row}
use Rattle.lj_world.specs.declared.event.Event.{Event}
use Rattle.lj_world.specs.declared.transcript.Entry.{Entry}
use Rattle.lj_world.specs.Machine.{Machine, Connection, initial_machine}
use Rattle.lj_world.specs.Runs.{Run}
use Rattle.lj_world.specs.Scripts.{ConnectionHistory, histories_after, connection_histories, histories_of, items_joined, replies}
use Rattle.lj_world.specs.RunLaws.{PendingCommandLaws, HasQuota, RepliesAreFirstTexts}
use Rattle.lj_world.proofs.Answering.{Texts, texts-AnsweredAll}
use Rattle.lj_world.proofs.ConnectionLogs.{grown}
use Rattle.lj_world.proofs.Queues.{QueueInvariant, AllWait, Numbered, items_in, progress_of_queue}
use Rattle.lj_world.proofs.LogLookup.{found, queue_in, queue_histories}
use Rattle.lj_world.proofs.RunInvariant.{RunInvariant, Distinct}
use Rattle.lj_world.proofs.RunSteps.{reply_to, step_keeps}

-- the replies to a user grow by each reply
replies_grow : (user : ℕ) (reply_texts : Texts) (reply : Option Entry) (later : List Entry)
    → grown reply_texts (reply_to user reply) ++ replies user later ≡ reply_texts ++ replies user (option_to_list reply ++ later)
unfolding reply_to
replies_grow user reply_texts None later = refl
replies_grow user reply_texts (Some e) later = by (nat_eq e.user user)
  where
    others : List Entry
    others = filter (λ x. nat_eq x.user user) later

    by : (b : Bool) → grown reply_texts (cond b (Some e.text) None) ++ replies user later ≡ reply_texts ++ map (λ x. x.text) (cond b (e ∷ others) others)
    by true = append_assoc reply_texts (e.text ∷ []) (replies user later)
    by false = refl

module _ (laws : PendingCommandLaws) (rows : List UserRow) (user : ℕ) (from : Value) where
  -- a run keeps the invariant
  pub run_keeps : (events : List Event) (s t : Machine) (hs : List ConnectionHistory) (reply_texts : Texts) (entries : List Entry) (k : RunInvariant rows user from s hs reply_texts)
      → Run s events entries t → RunInvariant rows user from t (fold (histories_after rows) hs events) (reply_texts ++ replies user entries)
  run_keeps [] s t hs reply_texts entries k (none, same) =
      let texts_are : reply_texts ++ replies user entries ≡ reply_texts = ap (λ es. reply_texts ++ replies user es) none ∙ append-nil reply_texts in
      subst (RunInvariant rows user from t hs) (sym texts_are) (subst (λ z. RunInvariant rows user from z hs reply_texts) (sym same) k)
  run_keeps (event ∷ events) s t hs reply_texts entries k (reply, between, later, step, more, whole) =
      let next = step_keeps laws rows user from s between hs reply_texts event reply k step in
      let ih = run_keeps events between t (histories_after rows hs event) (grown reply_texts (reply_to user reply)) later next more in
      let texts_are : grown reply_texts (reply_to user reply) ++ replies user later ≡ reply_texts ++ replies user entries =
      replies_grow user reply_texts reply later ∙ ap (λ es. reply_texts ++ replies user es) (sym whole) in
      subst (RunInvariant rows user from t (fold (histories_after rows) (histories_after rows hs event) events)) texts_are ih

empty_slots : ℕ → List (Option Connection)
empty_slots n = replicate n None

no_connection : (n c : ℕ) → slice_index_or (empty_slots n) c None ≡ None
unfolding empty_slots
no_connection zero c = refl
no_connection (suc n) zero = refl
no_connection (suc n) (suc c) = no_connection n c

opened : (o : Option User) (row : UserRow) → option_map first_row o ≡ Some row → row.granted ≡ 0
opened None row e = absurd (none_some row e)
  where
    none_some : (a : UserRow) → None ≡ Some a → ⊥
    none_some a h = cc
opened (Some user) row e = sym (ap (λ r. r.granted) (same (first_row user) row e))
  where
    same : (a b : UserRow) → Some a ≡ Some b → a ≡ b
    same a b h = cc

-- the user of a quota
user_there : (o : Option User) (quota : Quota) → option_map (λ u. u.quota) o ≡ Some quota → (u : User) × (o ≡ Some u) × (u.quota ≡ quota)
user_there None quota e = absurd (none_some quota e)
  where
    none_some : (a : Quota) → None ≡ Some a → ⊥
    none_some a h = cc
user_there (Some u) quota e = (u, refl, same u.quota quota e)
  where
    same : (a b : Quota) → Some a ≡ Some b → a ≡ b
    same a b h = cc

-- it holds at the start
pub start_keeps : (users : List User) (user : ℕ) (quota : Quota) → HasQuota users user quota → RunInvariant (map first_row users) user (fresh_user quota) (initial_machine users) [] []
unfolding found Distinct QueueInvariant AllWait Numbered empty_slots
start_keeps users user quota has_quota =
    let there = user_there (slice_get users user) quota has_quota in
    record {
      logs = [];
      histories_are = refl;
      connection_slots = refl;
      logged = λ c. no_connection 65 c;
      distinct = tt;
      names = λ name token. refl;
      granted = λ v row e. opened (slice_get users v) row (sym (slice_get-map first_row users v) ∙ e);
      own = record {
        row = first_row there.0;
        there_is = slice_get-map first_row users user ∙ ap (option_map first_row) there.1;
        queue_is_valid = (refl, ap (λ q. user_of (empty_state q)) there.2, tt);
        numbered = tt;
      };
    }

take_front : {A : Type 0} (xs ys : List A) → take (length xs) (xs ++ ys) ≡ xs
take_front [] ys = refl
take_front (x ∷ xs) ys = ap (λ l. x ∷ l) (take_front xs ys)

-- the items of a script are those of the queue
pub script_items : (rows : List UserRow) (user : ℕ) (from : Value) (t : Machine) (hs : List ConnectionHistory) (reply_texts : Texts) (k : RunInvariant rows user from t hs reply_texts)
    → items_joined (histories_of user hs) ≡ items_in (queue_in user k.logs)
script_items rows user from t hs reply_texts k = ap (λ h. items_joined (histories_of user h)) k.histories_are ∙ ap items_joined (queue_histories user k.logs)

-- the invariant holds at the end of a run
pub run_kept : PendingCommandLaws → (users : List User) (events : List Event) (entries : List Entry) (last : Machine) (user : ℕ) (quota : Quota) → Run (initial_machine users) events entries last
    → HasQuota users user quota → RunInvariant (map first_row users) user (fresh_user quota) last (connection_histories users events) (replies user entries)
run_kept laws users events entries last user quota run has_quota =
    run_keeps laws (map first_row users) user (fresh_user quota) events (initial_machine users) last [] [] entries (start_keeps users user quota has_quota) run

-- the replies of a user are the first texts of its script alone
pub are_first_texts : MarkIsTold → PendingCommandLaws → RepliesAreFirstTexts
are_first_texts marked laws users events entries user quota (last, run) has_quota =
    let k = run_kept laws users events entries last user quota run has_quota in
    let reply_texts = replies user entries in
    let marks = map is_memory reply_texts in
    let a = (progress_of_queue (fresh_user quota) k.own.row.past k.own.row.home (queue_in user k.logs) reply_texts k.own.queue_is_valid).2 in
    let items = items_joined (histories_of user (connection_histories users events)) in
    let items_are : items ≡ a.answered ++ a.others = script_items (map first_row users) user (fresh_user quota) last (connection_histories users events) reply_texts k ∙ a.split in
    let all : texts (fresh_user quota) items marks ≡ reply_texts ++ texts a.last a.others [] =
    ap (λ xs. texts (fresh_user quota) xs marks) items_are ∙ texts-AnsweredAll marked (fresh_user quota) a.answered reply_texts a.last a.others a.is_answer in
    sym (ap (take (length marks)) all ∙ ap (λ n. take n (reply_texts ++ texts a.last a.others [])) (length-map reply_texts is_memory)
    ∙ take_front reply_texts (texts a.last a.others []))
