-- Commands that are answered, at once or at a turn: what the pool owes stays, and what is to come grows by the steps of START.
use Rattle.std.proofs.Common.{◌≡◌, inl, inr, ℕ, ◌+◌, ◌-◌, ◌≤◌, Bool, true, false, ◌&&◌, nat_le, nat_lt, List, [], Option, Some, None}
use Rattle.std.proofs.Common.{refl, sym, ap, ◌∙◌, subst, arith}
use Rattle.std.specs.Prelude.{IfSome, IsSomeAnd, is_some, if◌then◌else◌}
use Rattle.std.specs.List.{IsDistinct}
use Rattle.std.specs.Option.{option_map_or}
use Rattle.std.specs.Str.{bytes_eq}
use Rattle.std.proofs.lemmas.Bool.{ltb-true, true≢false}
use Rattle.std.proofs.lemmas.Option.{none-some, same_Some}
use Rattle.std.proofs.lemmas.Slice.Eq.{bytes_eq-Decides}
use Rattle.lj_base.specs.declared.names.Label.{Label}
use Rattle.lj_task.specs.Task.{Task}
use Rattle.lj_step.specs.Motion.{next_simulation}
use Rattle.lj_step.specs.OpenSteps.{kind_of}
use Rattle.lj_session.specs.declared.command.Command.{Command}
use Rattle.lj_session.specs.declared.command.Command.TheVariants.{Start}
use Rattle.lj_session.specs.declared.reply.Reply.{Reply}
use Rattle.lj_session.specs.declared.reply.Reply.TheVariants.{Refused}
use Rattle.lj_branch.specs.Named.{value_named}
use Rattle.lj_session.specs.Users.{User}
use Rattle.lj_session.specs.Answers.{session_named, can_advance, command_result}
use Rattle.lj_session.specs.Turns.{turns, waits_for, advance_turns}
use Rattle.lj_session.specs.Begins.{OnRefusal}
use Rattle.lj_session.specs.UserState.{LiveSession, UserState, IsAtWork, IsIdle, IsIdleIn, StepsAfter, StepsFollow, OthersKept}
use Rattle.lj_session.specs.UserState.{OtherSessionsKept, settled_session, live_session, pending_in, loaded_names, with_session_changed, with_more_pending, with_start, steps_before, turns_before}
use Rattle.lj_session.specs.UserState.{is_whole_in, is_measured, kind_pending}
use Rattle.lj_session.specs.Owner.{Owner, IsAnswered, user_in, label_of, is_waited_for, IsLastTurn}
use Rattle.lj_session.proofs.AtWork.{at_work-follows, kind-none}
use Rattle.lj_session.proofs.Entries.{by_test}
use Rattle.lj_session.proofs.Holding.{named-held, named-absent, none-before}
use Rattle.lj_session.proofs.Passing.{unmeasured}
use Rattle.lj_wire.specs.declared.item.Item.TheVariants.{Command as Ordered}
use Rattle.lj_engine.specs.Gathering.{tasks_posted_of, IsGathered, IsOpenFor, Gathers}
use Rattle.lj_engine.specs.Counting.{steps_tiles, advance_tiles, command_tiles}
use Rattle.lj_engine.specs.Coming.{tiles_of_session, tiles_after, waiting_tiles_of, state_tiles_coming, tiles_coming, HasNoMorePending, HasNonePendingWhereWaited}
use Rattle.lj_engine.specs.PendingBounds.{HasPendingAfter, most_after, steps_started}
use Rattle.lj_engine.proofs.Outcomes.{no-own-tiles, Stays, still-there, start_stays, Outcome, StartedThere, staying, same_name_of, none_named, outcome}
use Rattle.lj_session.proofs.Others.{loaded_names-changed}
use Rattle.lj_engine.proofs.Sessions.{same_name as same_bytes, there-changed, other-changed, sum-changed, sum-below, distinct-answered}
use Rattle.lj_engine.proofs.Tiles.{idle-tiles, idle-gathered, closed-part, closed-posted, same-posted, same-tiles, same-gathered}
use Rattle.lj_engine.proofs.Tiles.{started-tiles, started-posted, started-gathered}
use Rattle.lj_session.proofs.Waiting.{same_name}
use Rattle.lj_engine.proofs.Begun.{start-waits, whole-open, whole-left, whole-owes}

-- what is posted, and how many tiles are to come, of one session before and after
pub record Settles (old new : UserState) (posted : (o : Option LiveSession) → List Task) (name : List ℕ) : Type 0 where
  pub posted_is : posted (live_session new name) ≡ posted (live_session old name)
  pub gathered : (session : LiveSession) → live_session new name ≡ Some session → IsGathered session

module _ (owner : Owner) (owed : List Task) (t : Gathers owner owed) (next : Owner) (number : next.number ≡ owner.number) where
  posted_next : (name : List ℕ) (o : Option LiveSession) → tasks_posted_of (label_of next name) o ≡ tasks_posted_of (label_of owner name) o
  posted_next name o = ap (λ n. tasks_posted_of (record { user = n; session = name }) o) number

  -- what an owner to whom nothing waits is owed
  pub gathers_settled : next.waiting ≡ None → IsAtWork None next.state → IsDistinct bytes_eq (loaded_names next.state)
      → ((name : List ℕ) → Settles owner.state next.state (tasks_posted_of (label_of owner name)) name) → Gathers next owed
  gathers_settled idle work distinct settles = record {
    at_work = subst (λ w. IsAtWork w next.state) (sym idle) work;
    waits = subst (λ w. IfSome w (IsOpenFor next.state)) (sym idle) tt;
    distinct = distinct;
    gathered = λ name. (settles name).gathered;
    each = λ name. t.each name ∙ sym (posted_next name (live_session next.state name) ∙ (settles name).posted_is);
  }

  settles_same : (name : List ℕ) → live_session next.state name ≡ live_session owner.state name
      → Settles owner.state next.state (tasks_posted_of (label_of owner name)) name
  settles_same name same = record {
    posted_is = ap (tasks_posted_of (label_of owner name)) same;
    gathered = λ session found. t.gathered name session (sym same ∙ found);
  }

-- what is so of no session and of each idle one is so where a session is idle
idle_is : {A : Type 0} (f : Option LiveSession → A) (x : A) → f None ≡ x → ((session : LiveSession) → IsIdle session → f (Some session) ≡ x)
    → (state : UserState) (name : List ℕ) → IsIdleIn state name → f (live_session state name) ≡ x
idle_is {A} f x none some state name idle = by (live_session state name) refl
  where
    by : (o : Option LiveSession) → live_session state name ≡ o → f (live_session state name) ≡ x
    by None e = ap f e ∙ none
    by (Some session) e = ap f e ∙ some session (idle session e)

idle_posted : (label : Label) (state : UserState) (name : List ℕ) → IsIdleIn state name → tasks_posted_of label (live_session state name) ≡ []
idle_posted label = idle_is (tasks_posted_of label) [] refl (λ session idle. closed-posted session label (closed-part session.live.part idle.closed))

-- how many steps are pending in a session, if it is there
abbrev pending_of : Option LiveSession → ℕ
pending_of o = option_map_or (λ (h : LiveSession). h.pending) o 0

-- none is pending in an idle session
idle_pending : (state : UserState) (name : List ℕ) → IsIdleIn state name → pending_in state name ≡ 0
idle_pending = idle_is pending_of 0 refl (λ session idle. idle.pending)

-- the number of tiles of a session to come, if it is there
abbrev tiles_there : Option LiveSession → ℕ
tiles_there o = option_map_or tiles_of_session o 0

idle_there : (state : UserState) (name : List ℕ) → IsIdleIn state name → tiles_there (live_session state name) ≡ 0
idle_there = idle_is tiles_there 0 refl idle-tiles

-- as many tiles are to come where as many are of each session
alike_sums : (a b : UserState) → IsDistinct bytes_eq (loaded_names a) → IsDistinct bytes_eq (loaded_names b)
    → ((name : List ℕ) → tiles_there (live_session b name) ≡ tiles_there (live_session a name))
    → state_tiles_coming b ≡ state_tiles_coming a
alike_sums a b distinct distinct_b alike =
    let below = sum-below tiles_of_session a.sessions b.sessions distinct (λ name session found.
    let is = ap tiles_there found in let same = alike name in omega (arith, is, same)) in
    let within = sum-below tiles_of_session b.sessions a.sessions distinct_b (λ name session found.
    let is = ap tiles_there found in let same = alike name in omega (arith, is, same)) in
    omega (arith, below, within)

-- a START adds its steps to its session
more_pending : (n : ℕ) (session : LiveSession) → (with_more_pending n session).pending ≡ session.pending + n
more_pending n session = by_test (nat_lt 0 n && nat_le session.pending 0) (λ t. rw t refl) (λ t. rw t refl)

start_pending : (n : ℕ) (session : LiveSession) → (with_start n session).pending ≡ session.pending + advance_turns (Some (settled_session session)) n
start_pending n session = by_test (can_advance (settled_session session) n) (λ t. rw t (more_pending n session)) (λ t. rw t (omega arith))

started_there_is : (user : User) (name : List ℕ) (n : ℕ)
    → steps_started user (Start name n) name ≡ advance_turns (value_named name user.sessions) n
unfolding steps_started
started_there_is user name n = ap (λ b. if b then advance_turns (value_named name user.sessions) n else 0) (same_bytes name)

-- a command was answered at once
pub record AtOnce (owner : Owner) (owed : List Task) (command : Command) (next : Owner) : Type 0 where
  pub gathers : Gathers next owed
  pub pending : HasPendingAfter owner.state (Ordered command) next.state
  pub tiles : state_tiles_coming next.state ≡ state_tiles_coming owner.state + command_tiles (user_in owner) command

-- a command that is answered at once
module _ (owner : Owner) (owed : List Task) (t : Gathers owner owed) (idle : owner.waiting ≡ None)
    (command : Command) (reply : Reply) (next : Owner) (number : next.number ≡ owner.number) (done : next.waiting ≡ None)
    (at_once : turns_before owner.state command ≡ 0)
    (answered : IsAnswered (user_in owner) command reply (user_in next))
    (unchanged : OnRefusal reply (next ≡ owner)) (others : OthersKept command owner.state next.state)
    (steps : StepsFollow command owner.state next.state) where
  work : IsAtWork None owner.state
  work = subst (λ w. IsAtWork w owner.state) idle t.at_work

  unchanged_state : OnRefusal reply (next.state ≡ owner.state)
  unchanged_state = by reply unchanged
    where
      by : (r : Reply) → OnRefusal r (next ≡ owner) → OnRefusal r (next.state ≡ owner.state)
      by (Refused refusal) h = ap (λ (o : Owner). o.state) h
      by _ h = tt

  outcome_of : (name : List ℕ) → session_named command ≡ Some name → Outcome owner.state next.state command name
  outcome_of name is = outcome owner.state next.state command reply work answered unchanged_state steps at_once name is

  -- each session is that of the command, or another, which is kept
  of_each : {P : List ℕ → Type 0} → ((name : List ℕ) → live_session next.state name ≡ live_session owner.state name → P name)
      → ((name : List ℕ) → session_named command ≡ Some name → P name) → (name : List ℕ) → P name
  of_each {P} other own name = by (session_named command) refl
    where
      by : (o : Option (List ℕ)) → session_named command ≡ o → P name
      by None e = other name (others name (λ same. none_named name (sym e ∙ same)))
      by (Some session_name) e = by_test (bytes_eq session_name name)
          (λ b. own name (e ∙ ap (λ (n : List ℕ). Some n) ((bytes_eq-Decides session_name name).0 b)))
          (λ b. other name (others name (λ same. true≢false (sym ((bytes_eq-Decides session_name name).1
          (same_name_of session_name name (sym e ∙ same))) ∙ b))))

  work_of : (name : List ℕ) (session : LiveSession) → live_session owner.state name ≡ Some session → kind_of session.live.part ≡ kind_pending None [] session
  work_of name session found = work name session found

  settles : (name : List ℕ) → Settles owner.state next.state (tasks_posted_of (label_of owner name)) name
  settles name = of_each {P = λ name. Settles owner.state next.state (tasks_posted_of (label_of owner name)) name}
      (settles_same owner owed t next number) (λ name is. by name (outcome_of name is)) name
    where
      by : (name : List ℕ) → Outcome owner.state next.state command name
          → Settles owner.state next.state (tasks_posted_of (label_of owner name)) name
      by name (inl rests) = record {
        posted_is = idle_posted (label_of owner name) next.state name rests.after
            ∙ sym (idle_posted (label_of owner name) owner.state name rests.before);
        gathered = λ session found. idle-gathered session (rests.after session found);
      }
      by name (inr (inl s)) = record {
        posted_is = ap (tasks_posted_of (label_of owner name)) s.is
            ∙ same-posted s.before s.after s.same.live s.same.passed s.same.pending (label_of owner name)
            ∙ sym (ap (tasks_posted_of (label_of owner name)) s.was);
        gathered = λ session found. subst IsGathered (same_Some s.after session (sym s.is ∙ found))
            (same-gathered s.before s.after s.same.live s.same.passed s.same.pending (t.gathered name s.before s.was));
      }
      by name (inr (inr s)) = record {
        posted_is = ap (tasks_posted_of (label_of owner name)) s.is
            ∙ started-posted s.before s.n (work_of name s.before s.was) (label_of owner name)
            ∙ sym (ap (tasks_posted_of (label_of owner name)) s.was);
        gathered = λ session found. subst IsGathered (same_Some (with_start s.n s.before) session (sym s.is ∙ found))
            (started-gathered s.before s.n (work_of name s.before s.was) (t.gathered name s.before s.was));
      }

  answered_gathers : Gathers next owed
  answered_gathers = gathers_settled owner owed t next number done
      (at_work-follows command owner.state next.state others steps work)
      (distinct-answered owner.state next.state command answered.mark reply answered.answers t.distinct)
      settles

  -- the most steps that may be pending where the command waits for the session, and elsewhere
  most_is : (name : List ℕ) (waited : Bool) → is_waited_for (Some command) name ≡ waited
      → most_after (user_in owner) (Ordered command) name (pending_in owner.state name)
      ≡ (if waited then 0 else pending_in owner.state name + steps_started (user_in owner) command name)
  most_is name waited is =
      ap (λ b. if b then 0 else pending_in owner.state name + steps_started (user_in owner) command name) is

  -- no more steps are pending than may be
  kept_within : (name : List ℕ) → pending_in next.state name ≤ pending_in owner.state name
      → pending_in next.state name ≤ most_after (user_in owner) (Ordered command) name (pending_in owner.state name)
  kept_within name fewer = by_test (is_waited_for (Some command) name)
      (λ t.
      let none = none-before owner.state command name (same_name command name t) at_once in
      omega (arith, fewer, none))
      (λ t. let most = most_is name false t in omega (arith, fewer, most))

  started_within : (name : List ℕ) (n : ℕ) (before : LiveSession) → command ≡ Start name n
      → live_session owner.state name ≡ Some before → live_session next.state name ≡ Some (with_start n before)
      → pending_in next.state name ≤ most_after (user_in owner) (Ordered command) name (pending_in owner.state name)
  started_within name n before start was is =
      let most = most_is name false (ap (λ o. option_map_or (λ session_name. bytes_eq session_name name) o false) (start-waits command name n start)) in
      let old = ap pending_of was in
      let new = ap pending_of is in
      let more = start_pending n before in
      let started = ap (λ (k : Command). steps_started (user_in owner) k name) start ∙ started_there_is (user_in owner) name n
      ∙ ap (λ o. advance_turns o n) (named-held owner.state name before was) in
      omega (arith, most, old, new, more, started)

  answered_pending : HasPendingAfter owner.state (Ordered command) next.state
  answered_pending = of_each {P = λ name. pending_in next.state name
      ≤ most_after (user_in owner) (Ordered command) name (pending_in owner.state name)}
      (λ name same. kept_within name (let is = ap pending_of same in omega (arith, is)))
      (λ name is. by name (outcome_of name is))
    where
      by : (name : List ℕ) → Outcome owner.state next.state command name
          → pending_in next.state name ≤ most_after (user_in owner) (Ordered command) name (pending_in owner.state name)
      by name (inl rests) = kept_within name (let none = idle_pending next.state name rests.after in omega (arith, none))
      by name (inr (inl s)) =
          let before = ap pending_of s.was in
          let after = ap pending_of s.is in
          let same = s.same.pending in
          kept_within name (omega (arith, before, after, same))
      by name (inr (inr s)) = started_within name s.n s.before s.start s.was s.is

  -- as many tiles are to come of a session that is not started
  tiles_alike : (name : List ℕ) → (StartedThere owner.state next.state command name → ⊥)
      → tiles_there (live_session next.state name) ≡ tiles_there (live_session owner.state name)
  tiles_alike = of_each {P = λ name. (StartedThere owner.state next.state command name → ⊥)
      → tiles_there (live_session next.state name) ≡ tiles_there (live_session owner.state name)}
      (λ name same never. ap tiles_there same)
      (λ name is never. by name never (outcome_of name is))
    where
      by : (name : List ℕ) → (StartedThere owner.state next.state command name → ⊥)
          → Outcome owner.state next.state command name
          → tiles_there (live_session next.state name) ≡ tiles_there (live_session owner.state name)
      by name never (inl rests) = idle_there next.state name rests.after ∙ sym (idle_there owner.state name rests.before)
      by name never (inr (inl s)) =
          let same = same-tiles s.before s.after s.same.live s.same.passed s.same.pending in
          let is = ap tiles_there s.is in
          let was = ap tiles_there s.was in
          omega (arith, same, is, was)
      by name never (inr (inr s)) = absurd (never s)

  distinct_next : IsDistinct bytes_eq (loaded_names next.state)
  distinct_next = distinct-answered owner.state next.state command answered.mark reply answered.answers t.distinct

  answered_quiet : ((name : List ℕ) (n : ℕ) → command ≡ Start name n → ⊥)
      → state_tiles_coming next.state ≡ state_tiles_coming owner.state + command_tiles (user_in owner) command
  answered_quiet no_start =
      let own : turns (user_in owner) command ≡ 0 = omega (arith, at_once) in
      let none = no-own-tiles (user_in owner) command own no_start in
      let same = alike_sums owner.state next.state t.distinct distinct_next
      (λ name. tiles_alike name (λ s. no_start name s.n s.start)) in
      omega (arith, none, same)

  -- a START
  module _ (session_name : List ℕ) (n : ℕ) (which : command ≡ Start session_name n) where
    session_is : session_named command ≡ Some session_name
    session_is = ap session_named which

    abbrev given : UserState
    given = with_session_changed session_name (with_start n) owner.state

    kept_else : (name : List ℕ) → (session_name ≡ name → ⊥) → live_session next.state name ≡ live_session owner.state name
    kept_else name apart = others name (λ same. apart (same_name_of session_name name (sym session_is ∙ same)))

    start_tiles_is : (session : LiveSession) → live_session owner.state session_name ≡ Some session
        → command_tiles (user_in owner) (Start session_name n) ≡ advance_tiles (Some (settled_session session)) n
    unfolding command_tiles
    start_tiles_is session found = ap (λ o. advance_tiles o n) (named-held owner.state session_name session found)

    start_tiles_none : live_session owner.state session_name ≡ None → command_tiles (user_in owner) (Start session_name n) ≡ 0
    unfolding command_tiles
    start_tiles_none absent = ap (λ o. advance_tiles o n) (named-absent owner.state session_name absent)

    answered_start_at : (before : LiveSession) → live_session owner.state session_name ≡ Some before
        → live_session next.state session_name ≡ Some (with_start n before)
        → state_tiles_coming next.state ≡ state_tiles_coming owner.state + command_tiles (user_in owner) command
    answered_start_at before was is =
        let sum = sum-changed owner.state session_name (with_start n) tiles_of_session before was in
        let more = started-tiles before n (work_of session_name before was) in
        let tiles : command_tiles (user_in owner) command ≡ advance_tiles (Some (settled_session before)) n =
        ap (command_tiles (user_in owner)) which ∙ start_tiles_is before was in
        let distinct = subst (IsDistinct bytes_eq) (sym (loaded_names-changed owner.state session_name (with_start n))) t.distinct in
        let same = alike_sums given next.state distinct distinct_next (λ name. sym (ap tiles_there (lookup_is name))) in
        omega (arith, sum, more, tiles, same)
      where
        lookup_is : (name : List ℕ) → live_session given name ≡ live_session next.state name
        lookup_is name = by_test (bytes_eq session_name name)
            (λ b. let same = (bytes_eq-Decides session_name name).0 b in
            subst (λ (m : List ℕ). live_session given m ≡ live_session next.state m) same
            (there-changed owner.state session_name (with_start n) before was ∙ sym is))
            (λ b. let apart : session_name ≡ name → ⊥ = λ same. true≢false (sym ((bytes_eq-Decides session_name name).1 same) ∙ b) in
            other-changed owner.state session_name (with_start n) name apart ∙ sym (kept_else name apart))

    answered_start : state_tiles_coming next.state ≡ state_tiles_coming owner.state + command_tiles (user_in owner) command
    answered_start = by (live_session owner.state session_name) refl (outcome_of session_name session_is)
      where
        by : (o : Option LiveSession) → live_session owner.state session_name ≡ o → Outcome owner.state next.state command session_name
            → state_tiles_coming next.state ≡ state_tiles_coming owner.state + command_tiles (user_in owner) command
        by None w o =
            let none : command_tiles (user_in owner) command ≡ 0 = ap (command_tiles (user_in owner)) which ∙ start_tiles_none w in
            let same = alike_sums owner.state next.state t.distinct distinct_next (λ name. tiles_alike name (λ s.
            let is = same_name_of session_name name (sym session_is ∙ ap session_named s.start) in
            none-some s.before (sym w ∙ ap (live_session owner.state) is ∙ s.was))) in
            omega (arith, none, same)
        by (Some before) w o = answered_start_at before w (started_by (live_session next.state session_name) refl)
          where
            started_by : (p : Option LiveSession) → live_session next.state session_name ≡ p → live_session next.state session_name ≡ Some (with_start n before)
            started_by None e = absurd (staying owner.state next.state command reply work answered unchanged_state steps at_once
                session_name session_is (λ session found. still-there (user_in owner) session_name (command_result (user_in owner) command answered.mark)
                (ap is_some (named-held owner.state session_name session found))
                (subst (λ (k : Command). Stays session_name (command_result (user_in owner) k answered.mark)) (sym which)
                (start_stays (user_in owner) session_name n answered.mark))) before w e)
            started_by (Some after) e =
                let s : StepsAfter (Start session_name n) (live_session owner.state session_name) after =
                subst (λ (k : Command). StepsAfter k (live_session owner.state session_name) after) which (steps session_name after session_is e) in
                e ∙ ap (λ (h : LiveSession). Some h) (subst (λ o. IsSomeAnd o (λ session. after ≡ with_start n session)) w s)

  answered_tiles : state_tiles_coming next.state ≡ state_tiles_coming owner.state + command_tiles (user_in owner) command
  answered_tiles = by command refl
    where
      by : (k : Command) → command ≡ k
          → state_tiles_coming next.state ≡ state_tiles_coming owner.state + command_tiles (user_in owner) command
      by (Start session_name n) e = answered_start session_name n e
      by k e = answered_quiet (λ name n is. let differ = sym e ∙ is in cc)

  pub answered_at_once : AtOnce owner owed command next
  answered_at_once = record { gathers = answered_gathers; pending = answered_pending; tiles = answered_tiles }

-- what waited was answered at a turn
pub record Ended (owner : Owner) (owed : List Task) (next : Owner) : Type 0 where
  pub gathers : Gathers next owed
  pub pending : HasNoMorePending owner next.state
  pub rests : HasNonePendingWhereWaited owner next.state
  pub tiles : state_tiles_coming next.state ≡ tiles_coming owner

-- the turn at which what waited is answered
module _ (owner : Owner) (owed : List Task) (t : Gathers owner owed) (name : List ℕ)
    (whole : is_whole_in owner.state name ≡ true) (last : IsLastTurn name owner) (next : Owner)
    (number : next.number ≡ owner.number) (done : next.waiting ≡ None)
    (others : OtherSessionsKept name owner.state next.state) (rests : IsIdleIn next.state name)
    (distinct : IsDistinct bytes_eq (loaded_names next.state)) where
  -- what waited, waited for the session
  record Waited : Type 0 where
    command : Command
    is : owner.waiting ≡ Some command
    waits : waits_for command ≡ Some name

  waited : Waited
  waited = by owner.waiting refl
    where
      by : (w : Option Command) → owner.waiting ≡ w → Waited
      by None e = absurd (true≢false (sym last.waited ∙ rw e refl))
      by (Some command) e = record { command = command; is = e; waits = same_name command name (rw e at last.waited) }

  one : turns_before owner.state waited.command ≡ 1
  one = sym (ap (λ w. option_map_or (turns_before owner.state) w 0) waited.is) ∙ last.last

  of_each_session : {P : List ℕ → Type 0} → P name → ((other : List ℕ) → (name ≡ other → ⊥) → P other) → (other : List ℕ) → P other
  of_each_session {P} own others_own other = by_test (bytes_eq name other)
      (λ b. subst P ((bytes_eq-Decides name other).0 b) own)
      (λ b. others_own other (λ same. true≢false (sym ((bytes_eq-Decides name other).1 same) ∙ b)))

  work_next : IsAtWork None next.state
  work_next other session found =
      of_each_session {P = λ other. (session : LiveSession) → live_session next.state other ≡ Some session
      → kind_of session.live.part ≡ kind_pending None other session}
      (λ session found. let i = rests session found in i.closed ∙ sym (kind-none None name session i.pending refl))
      (λ other apart session found.
      let quiet : is_measured owner.waiting other ≡ false =
      ap (λ w. is_measured w other) waited.is ∙ unmeasured waited.command name other waited.waits apart in
      t.at_work other session (sym (others other apart) ∙ found) ∙ rw quiet refl)
      other session found

  ended_gathers : Gathers next owed
  ended_gathers = gathers_settled owner owed t next number done work_next distinct
      (of_each_session {P = λ other. Settles owner.state next.state (tasks_posted_of (label_of owner other)) other}
      (record {
        posted_is = idle_posted (label_of owner name) next.state name rests
            ∙ sym (ap (tasks_posted_of (label_of owner name)) (whole-open owner owed t name whole).there
            ∙ whole-owes owner owed t name whole);
        gathered = λ session found. idle-gathered session (rests session found);
      })
      (λ other apart. settles_same owner owed t next number other (others other apart)))

  -- no more steps are pending than were, and none in the session
  ended_pending : HasNoMorePending owner next.state
  ended_pending other quiet = of_each_session {P = λ other. pending_in next.state other ≤ pending_in owner.state other}
      (let none = idle_pending next.state name rests in omega (arith, none))
      (λ other apart. let same = ap pending_of (others other apart) in omega (arith, same))
      other

  ended_rests : HasNonePendingWhereWaited owner next.state
  ended_rests other for_it =
      subst (λ n. pending_in next.state n ≡ 0)
      (same_name_of name other (sym waited.waits ∙ same_name waited.command other (sym (ap (λ w. is_waited_for w other) waited.is) ∙ for_it)))
      (idle_pending next.state name rests)

  -- no tile of the session was to come
  none_there : tiles_there (live_session owner.state name) ≡ 0
  none_there =
      let open_there = whole-open owner owed t name whole in
      let session : LiveSession = open_there.session in
      let left = whole-left owner owed t name whole in
      let few : session.pending ≤ 1 =
      let steps = ap (λ o. option_map_or (pending_in owner.state) o 0) waited.waits in
      let is = ap pending_of open_there.there in
      let last = one in omega (arith, steps, is, last) in
      let later : tiles_after session ≡ 0 =
      ap (λ n. steps_tiles session.live.composition n (next_simulation session.live.composition session.live.sim))
      (let none : session.pending - 1 ≡ 0 = omega (arith, few) in none) in
      let none : tiles_of_session session ≡ 0 = omega (arith, left, later) in
      ap tiles_there open_there.there ∙ none

  own_none : waiting_tiles_of owner owner.waiting ≡ 0
  own_none = ap (waiting_tiles_of owner) waited.is ∙ by_test (nat_lt 0 (steps_before owner.state waited.command))
      (λ b. rw b (let few = one in let some = ltb-true 0 (steps_before owner.state waited.command) b in
      no-own-tiles (user_in owner) waited.command (omega (arith, few, some))
      (λ n k e. none_named name (sym (start-waits waited.command n k e) ∙ waited.waits))))
      (λ b. rw b refl)

  ended_tiles : state_tiles_coming next.state ≡ tiles_coming owner
  ended_tiles =
      let same = alike_sums owner.state next.state t.distinct distinct
      (of_each_session {P = λ other. tiles_there (live_session next.state other) ≡ tiles_there (live_session owner.state other)}
      (idle_there next.state name rests ∙ sym none_there)
      (λ other apart. ap tiles_there (others other apart))) in
      let own = own_none in
      omega (arith, same, own)

  pub ended_at_turn : Ended owner owed next
  ended_at_turn = record { gathers = ended_gathers; pending = ended_pending; rests = ended_rests; tiles = ended_tiles }
