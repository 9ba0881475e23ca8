-- The queue of a user's connections, in the order of their tickets: those that have left, then the one that owns the
-- state or, while the state is at home, none, then those that wait.
use Rattle.std.proofs.Common.{◌≡◌, ℕ, zero, suc, ◌+◌, ◌≤◌, true, false, cond, nat_eq, List, [], ◌∷◌, ◌++◌, map, Option, Some, None, refl, sym, ◌∙◌, ap, subst, append_assoc, append-nil, arith}
use Rattle.lj_session.specs.declared.command.Command.{Command as Order}
use Rattle.lj_session.specs.Users.{User}
use Rattle.lj_session.specs.UserState.{UserState, user_of}
use Rattle.lj_session.specs.Owner.{Owner, user_in}
use Rattle.lj_wire.specs.declared.item.Item.{Item}
use Rattle.lj_wire.specs.declared.item.Item.TheVariants.{Command}
use Rattle.lj_world.specs.Machine.{waiting, inside}
use Rattle.lj_world.specs.Connections.{IsDone}
use Rattle.lj_world.specs.Scripts.{is_closed, items_to_end, items_joined}
use Rattle.lj_world.specs.RunLaws.{WaitsOn}
use Rattle.lj_world.proofs.Answering.{Texts, AnsweredAll, AnsweredAll-append}
use Rattle.lj_world.proofs.Cuts.{cut-none}
use Rattle.lj_world.proofs.ConnectionLogs.{ConnectionLog, history_of, log_inside, log_gone, ConnectionChange, grown, Waits, HasLeft, OwnerProgress, ready, finished, waits_on, OwnsState, progress_of, not_waiting, not_gone, gone_waiting, waiting_change, left_change, owner_change, own_leaves, wait_enters}

-- the first log of this connection is changed
pub data Changes (id : ℕ) (log x : ConnectionLog) : List ConnectionLog → List ConnectionLog → Type 0 where
  here : {queue : List ConnectionLog} → nat_eq log.id id ≡ true → Changes id log x (log ∷ queue) (x ∷ queue)
  there : {other : ConnectionLog} {queue new : List ConnectionLog} → nat_eq other.id id ≡ false → Changes id log x queue new
      → Changes id log x (other ∷ queue) (other ∷ new)

unfoldable pub AllWait : List ConnectionLog → Type 0
AllWait [] = Unit {0}
AllWait (log ∷ queue) = Waits log × AllWait queue

-- the tickets are numbered from here on
unfoldable pub Numbered : ℕ → List ConnectionLog → Type 0
Numbered n [] = Unit {0}
Numbered n (log ∷ queue) = (log.connection.number ≡ n) × Numbered (suc n) queue

-- `past` connections have left; the state is at home and all others wait, or the next one owns it and all after it wait.
-- From a user on, these are the texts of all replies.
unfoldable pub QueueInvariant : User → ℕ → Option UserState → List ConnectionLog → Texts → Type 0
QueueInvariant from zero (Some state) queue texts = (texts ≡ []) × (user_of state ≡ from) × AllWait queue
QueueInvariant from zero None [] texts = ⊥
QueueInvariant from zero None (log ∷ queue) texts = OwnsState from texts log × AllWait queue
QueueInvariant from (suc past) home [] texts = ⊥
QueueInvariant from (suc past) home (log ∷ queue) texts =
    (between : User) × (early : Texts) × (late : Texts)
    × HasLeft from log early between × QueueInvariant between past home queue late × (texts ≡ early ++ late)

all_waiting_change : (id : ℕ) (log x : ConnectionLog) (queue new : List ConnectionLog) (reply : Option (List ℕ)) → Changes id log x queue new → ConnectionChange log reply x
    → AllWait queue → (reply ≡ None) × AllWait new
unfolding AllWait
all_waiting_change id log x queue new reply (here e) g (w, ws) = let r = waiting_change log reply x w g in (r.0, (r.1, ws))
all_waiting_change id log x queue new reply (there {other} {queue = rest} {new = changed} e ch) g (w, ws) =
    let r = all_waiting_change id log x rest changed reply ch g ws in (r.0, (w, r.1))

one_waits : (id : ℕ) (log x : ConnectionLog) (queue new : List ConnectionLog) → Changes id log x queue new → AllWait queue → Waits log
unfolding AllWait
one_waits id log x queue new (here e) (w, ws) = w
one_waits id log x queue new (there {other} {queue = rest} {new = changed} e ch) (w, ws) = one_waits id log x rest changed ch ws

pub numbered_later : (id : ℕ) (log x : ConnectionLog) (n : ℕ) (queue new : List ConnectionLog) → Changes id log x queue new → Numbered n queue
    → n ≤ log.connection.number
unfolding Numbered
numbered_later id log x n queue new (here e) (is, more) = omega (arith, is)
numbered_later id log x n queue new (there {other} {queue = rest} {new = changed} e ch) (is, more) =
    let later = numbered_later id log x (suc n) rest changed ch more in omega (arith, later)

-- a change that leaves the number
pub numbered_changed : (id : ℕ) (log x : ConnectionLog) (n : ℕ) (queue new : List ConnectionLog) → Changes id log x queue new
    → x.connection.number ≡ log.connection.number → Numbered n queue → Numbered n new
unfolding Numbered
numbered_changed id log x n queue new (here e) same (is, more) = (same ∙ is, more)
numbered_changed id log x n queue new (there {other} {queue = rest} {new = changed} e ch) same (is, more) =
    (is, numbered_changed id log x (suc n) rest changed ch same more)

grown-append : (early late : Texts) (reply : Option (List ℕ)) → grown (early ++ late) reply ≡ early ++ grown late reply
grown-append early late None = refl
grown-append early late (Some text) = append_assoc early late (text ∷ [])

-- one connection goes on
pub queue_invariant_change : (from : User) (past : ℕ) (home : Option UserState) (id : ℕ) (log x : ConnectionLog) (queue new : List ConnectionLog) (texts : Texts) (reply : Option (List ℕ))
    → Changes id log x queue new → ConnectionChange log reply x → QueueInvariant from past home queue texts → QueueInvariant from past home new (grown texts reply)
unfolding QueueInvariant
queue_invariant_change from zero (Some state) id log x queue new texts reply ch g (none, same, ws) =
    let r = all_waiting_change id log x queue new reply ch g ws in
    subst (λ o. QueueInvariant from zero (Some state) new (grown texts o)) (sym r.0) (none, same, r.1)
queue_invariant_change from zero None id log x queue new texts reply (here e) g (o, ws) = (owner_change from texts log reply x o g, ws)
queue_invariant_change from zero None id log x queue new texts reply (there {other} {queue = rest} {new = changed} e ch) g (o, ws) =
    let r = all_waiting_change id log x rest changed reply ch g ws in
    subst (λ p. QueueInvariant from zero None (other ∷ changed) (grown texts p)) (sym r.0) (o, r.1)
queue_invariant_change from (suc past) home id log x queue new texts reply (here {queue = rest} e) g (between, early, late, left, s, whole) =
    let r = left_change from log reply x early between left g in
    subst (λ o. QueueInvariant from (suc past) home (x ∷ rest) (grown texts o)) (sym r.0) (between, early, late, r.1, s, whole)
queue_invariant_change from (suc past) home id log x queue new texts reply (there {other} {queue = rest} {new = changed} e ch) g (between, early, late, left, s, whole) = (
  between,
  early,
  grown late reply,
  left,
  queue_invariant_change between past home id log x rest changed late reply ch g s,
  ap (λ ts. grown ts reply) whole ∙ grown-append early late reply,
)

-- the first ticket that has not left enters
pub queue_invariant_enter : (from : User) (past n : ℕ) (state : UserState) (id : ℕ) (log : ConnectionLog) (owner : Owner) (queue new : List ConnectionLog) (texts : Texts)
    → Changes id log (log_inside owner log) queue new → log.connection.state ≡ waiting → Numbered n queue → log.connection.number ≡ n + past
    → owner.waiting ≡ None → user_in owner ≡ user_of state → QueueInvariant from past (Some state) queue texts → QueueInvariant from past None new texts
unfolding QueueInvariant AllWait Numbered
queue_invariant_enter from zero n state id log owner queue new texts (here e) waits numbered number idle u (none, same, (w, ws)) =
    (wait_enters from texts log owner w none idle (u ∙ same), ws)
queue_invariant_enter from zero n state id log owner queue new texts (there {other} {queue = rest} {new = changed} e ch) waits (is, more) number idle u (none, same, ws) =
    absurd (let later = numbered_later id log (log_inside owner log) (suc n) rest changed ch more in omega (arith, later, number))
queue_invariant_enter from (suc past) n state id log owner queue new texts (here e) waits numbered number idle u (between, early, late, left, s, whole) =
    absurd (gone_waiting log.connection.state left.is_gone waits)
queue_invariant_enter from (suc past) n state id log owner queue new texts (there {other} {queue = rest} {new = changed} e ch) waits (is, more) number idle u (between, early, late, left, s, whole) = (
  between,
  early,
  late,
  left,
  queue_invariant_enter between past (suc n) state id log owner rest changed late ch waits more (omega (arith, number)) idle u s,
  whole,
)

-- the owner leaves
pub queue_invariant_leave : (from : User) (past : ℕ) (id : ℕ) (log : ConnectionLog) (owner : Owner) (state : UserState) (queue new : List ConnectionLog) (texts : Texts)
    → Changes id log (log_gone log) queue new → log.connection.state ≡ inside owner → owner.waiting ≡ None → IsDone log.connection
    → user_of state ≡ user_in owner → QueueInvariant from past None queue texts → QueueInvariant from (suc past) (Some state) new texts
unfolding QueueInvariant AllWait
queue_invariant_leave from zero id log owner state queue new texts (here e) inside_is idle done u (o, ws) =
    (user_in owner, texts, [], own_leaves from texts log owner o inside_is idle done, (refl, u, ws), sym (append-nil texts))
queue_invariant_leave from zero id log owner state queue new texts (there {other} {queue = rest} {new = changed} e ch) inside_is idle done u (o, ws) =
    let w = one_waits id log (log_gone log) rest changed ch ws in absurd (not_waiting log.connection.state owner w.waits inside_is)
queue_invariant_leave from (suc past) id log owner state queue new texts (here e) inside_is idle done u (between, early, late, left, s, whole) =
    absurd (not_gone log.connection.state owner left.is_gone inside_is)
queue_invariant_leave from (suc past) id log owner state queue new texts (there {other} {queue = rest} {new = changed} e ch) inside_is idle done u (between, early, late, left, s, whole) =
    (between, early, late, left, queue_invariant_leave between past id log owner state rest changed late ch inside_is idle done u s, whole)

all_wait_append : (queue : List ConnectionLog) (x : ConnectionLog) → AllWait queue → Waits x → AllWait (queue ++ x ∷ [])
unfolding AllWait
all_wait_append [] x ws w = (w, tt)
all_wait_append (log ∷ queue) x (v, ws) w = (v, all_wait_append queue x ws w)

-- one more connection waits
pub queue_invariant_hello : (from : User) (past : ℕ) (home : Option UserState) (queue : List ConnectionLog) (x : ConnectionLog) (texts : Texts) → Waits x → QueueInvariant from past home queue texts
    → QueueInvariant from past home (queue ++ x ∷ []) texts
unfolding QueueInvariant
queue_invariant_hello from zero (Some state) queue x texts w (none, same, ws) = (none, same, all_wait_append queue x ws w)
queue_invariant_hello from zero None [] x texts w s = absurd s
queue_invariant_hello from zero None (log ∷ queue) x texts w (o, ws) = (o, all_wait_append queue x ws w)
queue_invariant_hello from (suc past) home [] x texts w s = absurd s
queue_invariant_hello from (suc past) home (log ∷ queue) x texts w (between, early, late, left, s, whole) =
    (between, early, late, left, queue_invariant_hello between past home queue x late w s, whole)

-- a value beside the items of a script that are not answered
unfoldable pub At : User → User → Option Order → List Item → Type 0
At last value None others = value ≡ last
At last value (Some left) others =
    (command : Order) × (more : List Item) × (others ≡ Command command ∷ more) × WaitsOn last command value left

-- From a user on, some first items of a script are answered with these texts; this is the value then, and the pending
-- command.
pub record ScriptProgress (from : User) (items : List Item) (texts : Texts) (value : User) (waits : Option Order) : Type 0 where
  pub answered : List Item
  pub others : List Item
  pub last : User
  pub split : items ≡ answered ++ others
  pub is_answer : AnsweredAll from answered texts last
  pub at : At last value waits others

-- the items of a queue
abbrev pub items_in : List ConnectionLog → List Item
items_in queue = items_joined (map history_of queue)

-- the items of the connections after one, where it is closed
abbrev tail_items : ConnectionLog → List ConnectionLog → List Item
tail_items log queue = cond (is_closed (history_of log)) (items_in queue) []

progress_now : (from : User) (texts : Texts) (log : ConnectionLog) (owner : Owner) (queue : List ConnectionLog) → OwnerProgress from texts log owner
    → ScriptProgress from (items_in (log ∷ queue)) texts (user_in owner) owner.waiting
unfolding At
progress_now from texts log owner queue (ready idle _ answered split none is_answer) = record {
  answered = answered;
  others = items_to_end log.connection.inbox ++ tail_items log queue;
  last = user_in owner;
  split = ap (λ xs. items_to_end xs ++ tail_items log queue) split ∙ ap (λ xs. xs ++ tail_items log queue) (cut-none answered log.connection.inbox none)
      ∙ append_assoc answered (items_to_end log.connection.inbox) (tail_items log queue);
  is_answer = is_answer;
  at = subst (λ o. At (user_in owner) (user_in owner) o (items_to_end log.connection.inbox ++ tail_items log queue)) (sym idle) refl;
}
progress_now from texts log owner queue (finished idle _ one is_answer) = record {
  answered = items_to_end log.items;
  others = tail_items log queue;
  last = user_in owner;
  split = refl;
  is_answer = is_answer;
  at = subst (λ o. At (user_in owner) (user_in owner) o (tail_items log queue)) (sym idle) refl;
}
progress_now from texts log owner queue (waits_on left still _ answered first split none goes value is_answer on) =
    let others = items_to_end (Command first ∷ log.connection.inbox) ++ tail_items log queue in
    record {
      answered = answered;
      others = others;
      last = value;
      split = ap (λ xs. items_to_end xs ++ tail_items log queue) split
          ∙ ap (λ xs. xs ++ tail_items log queue) (cut-none answered (Command first ∷ log.connection.inbox) none)
          ∙ append_assoc answered (items_to_end (Command first ∷ log.connection.inbox)) (tail_items log queue);
      is_answer = is_answer;
      at = subst (λ o. At value (user_in owner) o others) (sym still) (first, _, refl, on.waits);
    }

home_progress : (from : User) (state : UserState) (queue : List ConnectionLog) (texts : Texts) → texts ≡ [] → user_of state ≡ from
    → ScriptProgress from (items_in queue) texts (user_of state) None
unfolding At
home_progress from state queue texts none same =
    record { answered = []; others = items_in queue; last = from; split = refl; is_answer = (none, refl); at = same }

later_progress : (from between : User) (log : ConnectionLog) (queue : List ConnectionLog) (early late texts : Texts) (value : User) (waits : Option Order)
    → HasLeft from log early between → texts ≡ early ++ late → ScriptProgress between (items_in queue) late value waits
    → ScriptProgress from (items_in (log ∷ queue)) texts value waits
later_progress from between log queue early late texts value waits left whole a = record {
  answered = items_to_end log.items ++ a.answered;
  others = a.others;
  last = a.last;
  split = ap (λ b. items_to_end log.items ++ cond b (items_in queue) []) left.closed ∙ ap (λ xs. items_to_end log.items ++ xs) a.split
      ∙ sym (append_assoc (items_to_end log.items) a.answered a.others);
  is_answer = subst (λ ts. AnsweredAll from (items_to_end log.items ++ a.answered) ts a.last) (sym whole)
      (AnsweredAll-append from (items_to_end log.items) early between a.answered late a.last left.is_answer a.is_answer);
  at = a.at;
}

-- a valid queue has a value
pub progress_of_queue : (from : User) (past : ℕ) (home : Option UserState) (queue : List ConnectionLog) (texts : Texts) → QueueInvariant from past home queue texts
    → (value : User) × (waits : Option Order) × ScriptProgress from (items_in queue) texts value waits
unfolding QueueInvariant
progress_of_queue from zero (Some state) queue texts (none, same, ws) = (user_of state, None, home_progress from state queue texts none same)
progress_of_queue from zero None [] texts s = absurd s
progress_of_queue from zero None (log ∷ queue) texts (o, ws) = (user_in o.owner, o.owner.waiting, progress_now from texts log o.owner queue o.now)
progress_of_queue from (suc past) home [] texts s = absurd s
progress_of_queue from (suc past) home (log ∷ queue) texts (between, early, late, left, s, whole) =
    let a = progress_of_queue between past home queue late s in
    (a.0, a.1, later_progress from between log queue early late texts a.0 a.1 left whole a.2)

one_state : (home : Option UserState) (a b : UserState) → home ≡ Some a → home ≡ Some b → a ≡ b
one_state home a b e h = cc

not_away : (home : Option UserState) (a : UserState) → home ≡ None → home ≡ Some a → ⊥
not_away home a e h = cc

-- the value that is at home is that of the script
pub progress_at_home : (from : User) (past : ℕ) (home : Option UserState) (state : UserState) (queue : List ConnectionLog) (texts : Texts) → home ≡ Some state
    → QueueInvariant from past home queue texts → ScriptProgress from (items_in queue) texts (user_of state) None
unfolding QueueInvariant
progress_at_home from zero (Some other) state queue texts e (none, same, ws) =
    let is = one_state (Some other) other state refl e in home_progress from state queue texts none (ap user_of (sym is) ∙ same)
progress_at_home from zero None state queue texts e s = absurd (not_away None state refl e)
progress_at_home from (suc past) home state [] texts e s = absurd s
progress_at_home from (suc past) home state (log ∷ queue) texts e (between, early, late, left, s, whole) =
    later_progress from between log queue early late texts (user_of state) None left whole (progress_at_home between past home state queue late e s)

-- and so is the value of the owner
pub progress_of_owner : (from : User) (past : ℕ) (home : Option UserState) (id : ℕ) (log x : ConnectionLog) (queue new : List ConnectionLog) (owner : Owner) (texts : Texts)
    → Changes id log x queue new → log.connection.state ≡ inside owner → QueueInvariant from past home queue texts
    → (home ≡ None) × ScriptProgress from (items_in queue) texts (user_in owner) owner.waiting
unfolding QueueInvariant AllWait
progress_of_owner from zero (Some state) id log x queue new owner texts ch i (none, same, ws) =
    let w = one_waits id log x queue new ch ws in absurd (not_waiting log.connection.state owner w.waits i)
progress_of_owner from zero None id log x queue new owner texts (here {queue = rest} e) i (o, ws) =
    (refl, progress_now from texts log owner rest (progress_of from texts log owner o i))
progress_of_owner from zero None id log x queue new owner texts (there {other} {queue = rest} {new = changed} e ch) i (o, ws) =
    let w = one_waits id log x rest changed ch ws in absurd (not_waiting log.connection.state owner w.waits i)
progress_of_owner from (suc past) home id log x queue new owner texts (here e) i (between, early, late, left, s, whole) =
    absurd (not_gone log.connection.state owner left.is_gone i)
progress_of_owner from (suc past) home id log x queue new owner texts (there {other} {queue = rest} {new = changed} e ch) i (between, early, late, left, s, whole) =
    let a = progress_of_owner between past home id log x rest changed owner late ch i s in
    (a.0, later_progress from between other rest early late texts (user_in owner) owner.waiting left whole a.1)
