-- What begins to wait, and what a turn leaves waiting: the steps that are open, and what is to come.
use Rattle.std.proofs.Common.{◌≡◌, ℕ, ◌+◌, ◌<◌, ◌≤◌, Bool, true, false, nat_lt, List, [], Option, Some, None}
use Rattle.std.proofs.Common.{refl, sym, ap, ◌∙◌, subst, arith}
use Rattle.std.specs.Prelude.{if◌then◌else◌, IfSome, IsSome, IsSomeAnd}
use Rattle.std.specs.List.{filter}
use Rattle.std.specs.Option.{option_map_or}
use Rattle.std.specs.Str.{bytes_eq}
use Rattle.std.proofs.lemmas.Bool.{ltb-true, ltb-false, lt-ltb, true≢false}
use Rattle.std.proofs.lemmas.Option.{none-some}
use Rattle.std.proofs.lemmas.Slice.Eq.{bytes_eq-Decides}
use Rattle.lj_task.specs.declared.task_name.Kind.{Kind}
use Rattle.lj_task.specs.declared.task_name.Kind.TheVariants.{Force, Energy}
use Rattle.lj_task.specs.Task.{Task}
use Rattle.lj_step.specs.Sim.{OpenStep}
use Rattle.lj_step.specs.OpenSteps.{kind_of}
use Rattle.lj_branch.specs.Named.{value_named}
use Rattle.lj_session.specs.declared.command.Command.{Command}
use Rattle.lj_session.specs.declared.command.Command.TheVariants.{Advance, Start}
use Rattle.lj_session.specs.declared.command.Command.TheVariants.{Measure}
use Rattle.lj_session.specs.Users.{Session, User}
use Rattle.lj_session.specs.Answers.{can_advance}
use Rattle.lj_session.specs.Turns.{turns, waits_for}
use Rattle.lj_session.specs.UserState.{LiveSession, UserState, IsAtWork, IsIdle, user_of, settled_session, live_session, pending_in, with_session_changed, with_more_pending, with_step}
use Rattle.lj_session.specs.UserState.{with_step_finished, steps_before, turns_before, is_whole_in, is_measured}
use Rattle.lj_session.specs.Owner.{Owner, user_in, owner_begun, state_taking_up, rest_of, label_of, with_state, is_waited_for, owner_turned}
use Rattle.lj_session.specs.Owner.{IsLastTurn}
use Rattle.lj_session.proofs.AtWork.{at_work-changed, at_work-waits, at_work-measured, kind-added, kind-some, kind-none, kind-passed}
use Rattle.lj_session.proofs.Entries.{by_test}
use Rattle.lj_session.proofs.Holding.{named-held, pending-of}
use Rattle.lj_session.proofs.PendingSteps.{pending-added}
use Rattle.lj_session.proofs.Passing.{Open, opens, energies, measured_last, measures, at_work-passed}
use Rattle.lj_session.proofs.Turning.{advance-turns-near, measure-turns-one, no-turns}
use Rattle.lj_session.proofs.Waiting.{Goes, goes, measured_there, nothing-turns, passed_user, passed_turns, same_name}
use Rattle.lj_engine.specs.Gathering.{is_of_session, tiles_left_in, tasks_posted_of, IsOpenFor, Gathers}
use Rattle.lj_engine.specs.Counting.{steps_tiles, advance_tiles, measure_tiles, frame_tiles, command_tiles, sum_over}
use Rattle.lj_engine.specs.Coming.{tiles_of_session, posts_of_session, tiles_after, waiting_tiles, waiting_tiles_of, turns_coming}
use Rattle.lj_engine.specs.Coming.{state_tiles_coming, tiles_coming, posts_coming, HasNoMorePending}
use Rattle.lj_engine.proofs.Gathering.{gathered_opened, whole_none, whole_posted}
use Rattle.lj_engine.proofs.Gathered.{gathers_changed}
use Rattle.lj_engine.proofs.Sessions.{there-changed, other-changed, pending-changed, pending-lowered, sum-changed}
use Rattle.lj_engine.proofs.Tiles.{idle-tiles, idle-posts, opened-tiles, opened-posts, added-tiles, added-posts, added-gathered}
use Rattle.lj_engine.proofs.Tiles.{added-posted, added-open, passed-tiles, passed-posts, passed-pending, passed-posted, passed-gathered}
use Rattle.lj_engine.proofs.Tiles.{closed-part, closed-posted}

-- a step that is open
pub some-part : (part : Option OpenStep) (kind : Kind) → kind_of part ≡ Some kind → (step : OpenStep) × (part ≡ Some step)
some-part None kind e = absurd (none-some kind e)
some-part (Some p) kind e = (p, refl)

some-open : (part : Option OpenStep) (kind : Kind) → kind_of part ≡ Some kind → IsSome part
some-open part kind e = let s = some-part part kind e in subst IsSome (sym s.1) refl

-- where steps are pending in the session that a command waits for, one is open there
pub open-pending : (waiting : Option Command) (state : UserState) (command : Command) → IsAtWork waiting state
    → 0 < steps_before state command → IsOpenFor state command
open-pending waiting state command work some = by (waits_for command) refl
  where
    at : (name : List ℕ) → 0 < pending_in state name → (o : Option LiveSession) → live_session state name ≡ o
        → IsSomeAnd (live_session state name) (λ session. IsSome session.live.part)
    at name more None e = absurd (let none = rw e at more in omega (arith, none))
    at name more (Some session) e =
        subst (λ o. IsSomeAnd o (λ session. IsSome session.live.part)) (sym e)
        (some-open session.live.part Force (work name session e ∙ kind-some waiting name session (rw e at more)))

    by : (o : Option (List ℕ)) → waits_for command ≡ o → IsOpenFor state command
    by None e = absurd (let none = ap (λ o. option_map_or (pending_in state) o 0) e in omega (arith, none, some))
    by (Some name) e =
        subst (λ o. IsSomeAnd o (λ name. IsSomeAnd (live_session state name) (λ session. IsSome session.live.part))) (sym e)
        (at name (subst (λ o. 0 < option_map_or (pending_in state) o 0) e some) (live_session state name) refl)

-- the tiles of a command that takes steps
pub advance-tiles-is : (state : UserState) (name : List ℕ) (n : ℕ) (session : LiveSession) → live_session state name ≡ Some session
    → command_tiles (user_of state) (Advance name n) ≡ advance_tiles (Some (settled_session session)) n
unfolding command_tiles
advance-tiles-is state name n session found = ap (λ o. advance_tiles o n) (named-held state name session found)

measure-tiles-is : (state : UserState) (name : List ℕ) (session : LiveSession) → live_session state name ≡ Some session
    → command_tiles (user_of state) (Measure name) ≡ measure_tiles (Some (settled_session session))
unfolding command_tiles
measure-tiles-is state name session found = ap measure_tiles (named-held state name session found)

none-tiles : (user : User) (name : List ℕ) → command_tiles user (Advance name 0) ≡ 0
unfolding command_tiles
none-tiles user name = by (value_named name user.sessions)
  where
    by : (o : Option Session) → advance_tiles o 0 ≡ 0
    by None = refl
    by (Some session) = by_test (can_advance session 0) (λ t. rw t refl) (λ t. rw t refl)

if-none : (b : Bool) (n : ℕ) → n ≡ 0 → (if b then n else 0) ≡ 0
if-none true n e = e
if-none false n e = refl

-- what begins to wait
pub record Begins (base : Owner) (owed : List Task) (command : Command) (next : Owner) : Type 0 where
  pub gathers : Gathers next owed
  pub tiles : tiles_coming next ≡ state_tiles_coming base.state + command_tiles (user_in base) command
  pub posts : posts_coming next ≡ sum_over posts_of_session base.state + command_tiles (user_in base) command
  pub turns : turns_coming next ≡ sum_over (λ session. session.pending) base.state + turns (user_in base) command

module _ (base : Owner) (owed : List Task) (t : Gathers base owed) (idle : base.waiting ≡ None) where
  work : IsAtWork None base.state
  work = subst (λ w. IsAtWork w base.state) idle t.at_work

  -- for pending steps
  begins-off : (command : Command) → 0 < steps_before base.state command → Begins base owed command (owner_begun command base)
  begins-off command some =
      let b : nat_lt 0 (steps_before base.state command) ≡ true = lt-ltb 0 (steps_before base.state command) some in
      rw b (record {
        gathers = record {
          at_work = at_work-waits command base.state some work;
          waits = open-pending None base.state command work some;
          distinct = t.distinct;
          gathered = t.gathered;
          each = t.each;
        };
        tiles = rw b refl;
        posts = rw b refl;
        turns = refl;
      })

  -- the session of a command that takes steps of its own
  idle-held : (name : List ℕ) (session : LiveSession) → live_session base.state name ≡ Some session → pending_in base.state name ≡ 0 → IsIdle session
  idle-held name session there none =
      let n = pending-of base.state name session there none in
      record { pending = n; closed = work name session there ∙ kind-none None name session n refl }

  no-posted : (name : List ℕ) (session : LiveSession) → live_session base.state name ≡ Some session → IsIdle session
      → filter (is_of_session name) owed ≡ []
  no-posted name session there i =
      t.each name ∙ ap (tasks_posted_of (label_of base name)) there
      ∙ closed-posted session (label_of base name) (closed-part session.live.part i.closed)

  meant-sim : (session : LiveSession) → session.pending ≡ 0 → (settled_session session).sim ≡ session.live.sim
  meant-sim session none = rw none refl

  begins-advance : (name : List ℕ) (n : ℕ) → pending_in base.state name ≡ 0 → 0 < n → Goes base.state name n
      → Begins base owed (Advance name n)
      (record { state = with_session_changed name (with_more_pending n) base.state; number = base.number; waiting = Some (Advance name 0) })
  unfolding waits_for
  begins-advance name n none some g =
      let i = idle-held name g.session g.there none in
      let next : Owner = record { state = with_session_changed name (with_more_pending n) base.state; number = base.number; waiting = Some (Advance name 0) } in
      let sum = sum-changed base.state name (with_more_pending n) in
      let after = there-changed base.state name (with_more_pending n) g.session g.there in
      let tiles : command_tiles (user_in base) (Advance name n) ≡ steps_tiles g.session.live.composition n g.session.live.sim =
      advance-tiles-is base.state name n g.session g.there
      ∙ ap (λ b. if b then steps_tiles g.session.live.composition n (settled_session g.session).sim else 0) g.near
      ∙ ap (steps_tiles g.session.live.composition n) (meant-sim g.session i.pending) in
      let own : waiting_tiles next ≡ 0 =
      if-none (nat_lt 0 (steps_before (with_session_changed name (with_more_pending n) base.state) (Advance name 0))) _
      (none-tiles (user_of (with_session_changed name (with_more_pending n) base.state)) name) in
      let tiles_before = idle-tiles g.session i in
      let tiles_then = added-tiles g.session i n some in
      let tiles_sum = sum tiles_of_session g.session g.there in
      let posts_before = idle-posts g.session i in
      let posts_then = added-posts g.session i n some in
      let posts_sum = sum posts_of_session g.session g.there in
      let pending_then = pending-added n g.session in
      let pending_sum = sum (λ session. session.pending) g.session g.there in
      let turns_then = nothing-turns (user_of (with_session_changed name (with_more_pending n) base.state)) name in
      let turns_before = advance-turns-near (user_in base) name n (settled_session g.session)
      (named-held base.state name g.session g.there) g.near in
      record {
        gathers = gathers_changed base owed t name g.session g.there (with_more_pending n) (Some (Advance name 0)) owed
            (at_work-changed None base.state name (with_more_pending n)
            (λ session e. kind-added None name n session refl (work name session e)) work)
            (subst (λ o. IsSomeAnd o (λ session. IsSome session.live.part)) (sym after)
            (subst IsSome (sym (added-open g.session i n some)) refl))
            (added-gathered g.session i n some)
            (no-posted name g.session g.there i ∙ sym (added-posted g.session i n some (label_of base name)))
            (λ other apart. refl);
        tiles = omega (arith, tiles, own, tiles_before, tiles_then, tiles_sum);
        posts = omega (arith, tiles, own, posts_before, posts_then, posts_sum);
        turns = omega (arith, pending_then, pending_sum, turns_then, turns_before);
      }

  begins-measure : (name : List ℕ) (session : LiveSession) → live_session base.state name ≡ Some session → pending_in base.state name ≡ 0
      → Begins base owed (Measure name)
      (record { state = with_session_changed name (with_step Energy) base.state; number = base.number; waiting = Some (Measure name) })
  unfolding waits_for
  begins-measure name session there none =
      let i = idle-held name session there none in
      let next : Owner = record { state = with_session_changed name (with_step Energy) base.state; number = base.number; waiting = Some (Measure name) } in
      let sum = sum-changed base.state name (with_step Energy) in
      let after = there-changed base.state name (with_step Energy) session there in
      let tiles : command_tiles (user_in base) (Measure name) ≡ frame_tiles session.live.composition session.live.sim =
      measure-tiles-is base.state name session there
      ∙ ap (frame_tiles session.live.composition) (meant-sim session i.pending) in
      let no_steps : steps_before (with_session_changed name (with_step Energy) base.state) (Measure name) ≡ 0 =
      ap (λ o. option_map_or (λ (h : LiveSession). h.pending) o 0) after ∙ i.pending in
      let own : waiting_tiles next ≡ 0 =
      ap (λ n. if nat_lt 0 n then command_tiles (user_in next) (Measure name) else 0) no_steps in
      let later : tiles_after session ≡ 0 = rw i.pending refl in
      let tiles_before = idle-tiles session i in
      let tiles_then = opened-tiles Energy session in
      let tiles_sum = sum tiles_of_session session there in
      let posts_before = idle-posts session i in
      let posts_then = opened-posts Energy session in
      let posts_sum = sum posts_of_session session there in
      let pending_sum = sum (λ session. session.pending) session there in
      let turns_then = measure-turns-one (user_in next) name _ (named-held next.state name (with_step Energy session) after) in
      let turns_before = measure-turns-one (user_in base) name _ (named-held base.state name session there) in
      record {
        gathers = gathers_changed base owed t name session there (with_step Energy) (Some (Measure name)) owed
            (at_work-measured base.state name session there i.pending work)
            (subst (λ o. IsSomeAnd o (λ session. IsSome session.live.part)) (sym after) refl)
            (gathered_opened Energy session)
            (no-posted name session there i)
            (λ other apart. refl);
        tiles = omega (arith, tiles, own, tiles_before, tiles_then, tiles_sum, later);
        posts = omega (arith, tiles, own, posts_before, posts_then, posts_sum, later);
        turns = omega (arith, pending_sum, turns_then, turns_before);
      }

  -- or for its own
  begins-on : (command : Command) → steps_before base.state command ≡ 0 → 0 < turns (user_in base) command
      → Begins base owed command (owner_begun command base)
  unfolding state_taking_up rest_of waits_for
  begins-on (Advance name n) none some =
      let g = goes base.state name n some in
      let n_is = advance-turns-near (user_in base) name n (settled_session g.session)
      (named-held base.state name g.session g.there) g.near in
      rw none (begins-advance name n none (omega (arith, some, n_is)) g)
  begins-on (Measure name) none some =
      let session = measured_there base.state name some in
      rw none (begins-measure name session.0 session.1 none)
  begins-on command none some =
      let no = no-turns (user_in base) command (λ name n e. cc) (λ name e. cc) in absurd (omega (arith, no, some))

  pub begins : (command : Command) → 0 < turns_before base.state command → Begins base owed command (owner_begun command base)
  begins command some = by_test (nat_lt 0 (steps_before base.state command))
      (λ b. begins-off command (ltb-true 0 (steps_before base.state command) b))
      (λ b. let few = ltb-false 0 (steps_before base.state command) b in
      begins-on command (omega (arith, few)) (omega (arith, few, some)))

-- a MEASURE waits for its session, and START for none
pub measure-waits : (command : Command) (name : List ℕ) → command ≡ Measure name → waits_for command ≡ Some name
unfolding waits_for
measure-waits command name is = ap waits_for is

pub start-waits : (command : Command) (name : List ℕ) (n : ℕ) → command ≡ Start name n → waits_for command ≡ None
unfolding waits_for
start-waits command name n is = ap waits_for is

waited-measure : (command : Command) (name : List ℕ) → command ≡ Measure name → is_waited_for (Some command) name ≡ true
waited-measure command name is =
    ap (λ o. option_map_or (λ session. bytes_eq session name) o false) (measure-waits command name is)
    ∙ (bytes_eq-Decides name name).1 refl

-- what is left of a command waits for the same session
rest-waits : (command : Command) (name : List ℕ) → is_waited_for (Some (rest_of command)) name ≡ is_waited_for (Some command) name
unfolding rest_of waits_for
rest-waits (Advance session n) name = refl
rest-waits command name = refl

pub begun-waits : (command : Command) (owner : Owner) (name : List ℕ)
    → is_waited_for (owner_begun command owner).waiting name ≡ is_waited_for (Some command) name
begun-waits command owner name = by_test (nat_lt 0 (steps_before owner.state command))
    (λ t. rw t refl)
    (λ t. rw t (rest-waits command name))

-- as many steps are pending in every other session
taken-pending : (command : Command) (state : UserState) (name : List ℕ) → is_waited_for (Some command) name ≡ false
    → pending_in (state_taking_up command state) name ≡ pending_in state name
unfolding state_taking_up waits_for
taken-pending (Advance session n) state name apart =
    ap (λ o. option_map_or (λ (h : LiveSession). h.pending) o 0)
    (other-changed state session (with_more_pending n) name (λ is. true≢false (sym ((bytes_eq-Decides session name).1 is) ∙ apart)))
taken-pending (Measure session_name) state name apart = pending-changed state session_name (with_step Energy) (λ session. refl) name
taken-pending command state name apart = refl

pub begun-pending : (command : Command) (owner : Owner) (name : List ℕ) → is_waited_for (Some command) name ≡ false
    → pending_in (owner_begun command owner).state name ≡ pending_in owner.state name
begun-pending command owner name apart = by_test (nat_lt 0 (steps_before owner.state command))
    (λ t. rw t refl)
    (λ t. rw t (taken-pending command owner.state name apart))

-- a turn: the step of its session is passed, and what waits for the session begins again
abbrev passed_in : List ℕ → Owner → Owner
passed_in name owner = with_state (with_session_changed name with_step_finished owner.state) owner

turned-passed : (name : List ℕ) (owner : Owner) → is_waited_for owner.waiting name ≡ false → owner_turned name owner ≡ passed_in name owner
turned-passed name owner other = rw other refl

turned-begun : (name : List ℕ) (owner : Owner) (command : Command) → owner.waiting ≡ Some command
    → is_waited_for (Some command) name ≡ true → owner_turned name owner ≡ owner_begun command (passed_in name owner)
turned-begun name owner command is waited = rw (is, waited) refl

turned-either : (P : Owner → Type 0) (name : List ℕ) (owner : Owner) → P (passed_in name owner)
    → ((command : Command) → owner.waiting ≡ Some command → P (owner_begun command (passed_in name owner))) → P (owner_turned name owner)
turned-either P name owner passes begins_again = by owner.waiting refl
  where
    by : (w : Option Command) → owner.waiting ≡ w → P (owner_turned name owner)
    by None e = subst P (sym (turned-passed name owner (ap (λ w. is_waited_for w name) e))) passes
    by (Some command) e = by_test (is_waited_for (Some command) name)
        (λ t. subst P (sym (turned-begun name owner command e t)) (begins_again command e))
        (λ t. subst P (sym (turned-passed name owner (ap (λ w. is_waited_for w name) e ∙ t))) passes)

pub turned-waits : (name : List ℕ) (owner : Owner) (other : List ℕ)
    → is_waited_for (owner_turned name owner).waiting other ≡ is_waited_for owner.waiting other
turned-waits name owner other = turned-either (λ (o : Owner). is_waited_for o.waiting other ≡ is_waited_for owner.waiting other)
    name owner refl
    (λ command is. begun-waits command (passed_in name owner) other ∙ sym (ap (λ w. is_waited_for w other) is))

pub turned-pending : (name : List ℕ) (owner : Owner) → HasNoMorePending owner (owner_turned name owner).state
turned-pending name owner other apart = turned-either (λ (o : Owner). pending_in o.state other ≤ pending_in owner.state other)
    name owner passes
    (λ command is.
    let same = begun-pending command (passed_in name owner) other (sym (ap (λ w. is_waited_for w other) is) ∙ apart) in
    let fewer = passes in
    omega (arith, same, fewer))
  where
    passes : pending_in (passed_in name owner).state other ≤ pending_in owner.state other
    passes = pending-lowered owner.state name with_step_finished (λ session. let one_less = passed-pending session in omega (arith, one_less)) other

-- a session that is whole, over a pool
module _ (owner : Owner) (owed : List Task) (t : Gathers owner owed) (name : List ℕ)
    (whole : is_whole_in owner.state name ≡ true) where
  pub whole-open : Open owner.waiting owner.state name
  whole-open = opens owner.waiting owner.state name whole t.at_work

  abbrev o : Open owner.waiting owner.state name
  o = whole-open

  step_of_it : (step : OpenStep) × (o.session.live.part ≡ Some step)
  step_of_it = some-part o.session.live.part o.kind o.is

  -- none of its tiles is to come
  pub whole-left : tiles_left_in o.session.live.part ≡ 0
  whole-left = whole_none o.session (label_of owner name) step_of_it.0 step_of_it.1 (t.gathered name o.session o.there) o.whole

  pub whole-owes : tasks_posted_of (label_of owner name) (Some o.session) ≡ []
  whole-owes = whole_posted o.session (label_of owner name) step_of_it.0 step_of_it.1 (t.gathered name o.session o.there) o.whole

  pending-there : pending_in owner.state name ≡ o.session.pending
  pending-there = ap (λ h. option_map_or (λ (h : LiveSession). h.pending) h 0) o.there

  -- its step is passed
  module _ (some : 0 < pending_in owner.state name) where
    pub passed-gathers : (waiting : Option Command) → IsAtWork waiting (with_session_changed name with_step_finished owner.state)
        → IfSome waiting (IsOpenFor (with_session_changed name with_step_finished owner.state))
        → Gathers (record { state = with_session_changed name with_step_finished owner.state; number = owner.number; waiting = waiting }) owed
    passed-gathers waiting work waits =
        gathers_changed owner owed t name o.session o.there with_step_finished waiting owed work waits
        (passed-gathered o.session)
        (t.each name ∙ ap (tasks_posted_of (label_of owner name)) o.there ∙ whole-owes
        ∙ sym (passed-posted o.session (label_of owner name)))
        (λ other apart. refl)

    pub passed-tiles-sum : state_tiles_coming (with_session_changed name with_step_finished owner.state) ≡ state_tiles_coming owner.state
    passed-tiles-sum =
        let sum = sum-changed owner.state name with_step_finished tiles_of_session o.session o.there in
        let passed = passed-tiles o.session in
        let left = whole-left in
        omega (arith, sum, passed, left)

    pub passed-posts-sum : sum_over posts_of_session (with_session_changed name with_step_finished owner.state) ≤ sum_over posts_of_session owner.state
    passed-posts-sum =
        let sum = sum-changed owner.state name with_step_finished posts_of_session o.session o.there in
        let passed = passed-posts o.session in
        omega (arith, sum, passed)

    pub passed-pending-sum : sum_over (λ session. session.pending) (with_session_changed name with_step_finished owner.state) + 1 ≡ sum_over (λ session. session.pending) owner.state
    passed-pending-sum =
        let sum = sum-changed owner.state name with_step_finished (λ session. session.pending) o.session o.there in
        let passed = passed-pending o.session in
        let more = pending-there in
        omega (arith, sum, passed, more, some)

-- what a turn that answers nothing leaves
pub record Turns (owner : Owner) (owed : List Task) (next : Owner) : Type 0 where
  pub gathers : Gathers next owed
  pub tiles : tiles_coming next ≡ tiles_coming owner
  pub posts : posts_coming next ≤ posts_coming owner
  pub turns : turns_coming next + 1 ≡ turns_coming owner

module _ (owner : Owner) (owed : List Task) (t : Gathers owner owed) (name : List ℕ)
    (whole : is_whole_in owner.state name ≡ true) where
  same_user : 0 < pending_in owner.state name → user_of (with_session_changed name with_step_finished owner.state) ≡ user_in owner
  same_user some = passed_user owner.state name some

  -- nothing waits for the session
  turns-other : is_waited_for owner.waiting name ≡ false → 0 < pending_in owner.state name
      → Turns owner owed (with_state (with_session_changed name with_step_finished owner.state) owner)
  turns-other other some =
      let user = same_user some in
      let tiles = passed-tiles-sum owner owed t name whole some in
      let posts = passed-posts-sum owner owed t name whole some in
      let fewer = passed-pending-sum owner owed t name whole some in
      let own = waiting_same owner.waiting refl in
      let turns_same = ap (λ u. option_map_or (turns u) owner.waiting 0) user in
      record {
        gathers = passed-gathers owner owed t name whole some owner.waiting
            (at_work-changed owner.waiting owner.state name with_step_finished (λ session e. kind-passed owner.waiting name session quiet) t.at_work)
            (still owner.waiting refl t.waits);
        tiles = omega (arith, tiles, own);
        posts = omega (arith, posts, own);
        turns = omega (arith, fewer, turns_same);
      }
    where
      quiet : is_measured owner.waiting name ≡ false
      quiet = by owner.waiting refl
        where
          by : (w : Option Command) → owner.waiting ≡ w → is_measured w name ≡ false
          by None e = refl
          by (Some command) e = by_test (is_measured (Some command) name)
              (λ m. let is = measures command name m in
              absurd (true≢false (sym (waited-measure command name is) ∙ ap (λ w. is_waited_for w name) (sym e) ∙ other)))
              (λ m. m)

      apart : (command : Command) → owner.waiting ≡ Some command → (session_name : List ℕ) → waits_for command ≡ Some session_name
          → name ≡ session_name → ⊥
      apart command e session_name w same =
          let t : is_waited_for (Some command) name ≡ true =
          ap (λ o. option_map_or (λ session_name. bytes_eq session_name name) o false) w ∙ (bytes_eq-Decides session_name name).1 (sym same) in
          true≢false (sym t ∙ ap (λ w. is_waited_for w name) (sym e) ∙ other)

      still : (w : Option Command) → owner.waiting ≡ w → IfSome w (IsOpenFor owner.state)
          → IfSome w (IsOpenFor (with_session_changed name with_step_finished owner.state))
      still None e h = tt
      still (Some command) e h = by (waits_for command) refl
        where
          by : (w : Option (List ℕ)) → waits_for command ≡ w → IsOpenFor (with_session_changed name with_step_finished owner.state) command
          by None w = absurd (subst (λ o. IsSomeAnd o (λ name. IsSomeAnd (live_session owner.state name) (λ session. IsSome session.live.part))) w h)
          by (Some session_name) w =
              subst (λ o. IsSomeAnd o (λ session_name. IsSomeAnd (live_session (with_session_changed name with_step_finished owner.state) session_name) (λ session. IsSome session.live.part)))
              (sym w)
              (subst (λ o. IsSomeAnd o (λ session. IsSome session.live.part))
              (sym (other-changed owner.state name with_step_finished session_name (apart command e session_name w)))
              (subst (λ o. IsSomeAnd o (λ name. IsSomeAnd (live_session owner.state name) (λ session. IsSome session.live.part))) w h))

      waiting_same : (w : Option Command) → owner.waiting ≡ w
          → waiting_tiles_of (with_state (with_session_changed name with_step_finished owner.state) owner) w ≡ waiting_tiles_of owner w
      waiting_same None e = refl
      waiting_same (Some command) e =
          ap (λ n. if nat_lt 0 n then command_tiles (user_of (with_session_changed name with_step_finished owner.state)) command else 0)
          (before (waits_for command) refl)
          ∙ ap (λ u. if nat_lt 0 (steps_before owner.state command) then command_tiles u command else 0) (same_user some)
        where
          before : (w : Option (List ℕ)) → waits_for command ≡ w
              → steps_before (with_session_changed name with_step_finished owner.state) command ≡ steps_before owner.state command
          before None w = ap (λ o. option_map_or (pending_in (with_session_changed name with_step_finished owner.state)) o 0) w
              ∙ sym (ap (λ o. option_map_or (pending_in owner.state) o 0) w)
          before (Some session_name) w = ap (λ o. option_map_or (pending_in (with_session_changed name with_step_finished owner.state)) o 0) w
              ∙ ap (λ o. option_map_or (λ (h : LiveSession). h.pending) o 0)
              (other-changed owner.state name with_step_finished session_name (apart command e session_name w))
              ∙ sym (ap (λ o. option_map_or (pending_in owner.state) o 0) w)

  -- a command waits for it
  module _ (command : Command) (waiting : owner.waiting ≡ Some command) (waits : waits_for command ≡ Some name) where
    work_waiting : IsAtWork (Some command) owner.state
    work_waiting = subst (λ w. IsAtWork w owner.state) waiting t.at_work

    abbrev base : Owner
    base = record { state = with_session_changed name with_step_finished owner.state; number = owner.number; waiting = None }

    turns-waited : 0 < pending_in owner.state name → 0 < turns_before (with_session_changed name with_step_finished owner.state) command
        → Turns owner owed (owner_begun command base)
    turns-waited some more =
        let passed = passed-gathers owner owed t name whole some None
        (at_work-passed command owner.state name waits some work_waiting) tt in
        let b = begins base owed passed refl command more in
        let user = same_user some in
        let tiles = passed-tiles-sum owner owed t name whole some in
        let posts = passed-posts-sum owner owed t name whole some in
        let fewer = passed-pending-sum owner owed t name whole some in
        let steps : steps_before owner.state command ≡ pending_in owner.state name =
        ap (λ o. option_map_or (pending_in owner.state) o 0) waits in
        let own : waiting_tiles owner ≡ command_tiles (user_in owner) command =
        ap (waiting_tiles_of owner) waiting
        ∙ ap (λ b. if b then command_tiles (user_in owner) command else 0)
        (lt-ltb 0 (steps_before owner.state command) (omega (arith, steps, some))) in
        let own_turns : option_map_or (turns (user_in owner)) owner.waiting 0 ≡ turns (user_in owner) command =
        ap (λ w. option_map_or (turns (user_in owner)) w 0) waiting in
        let same_tiles = ap (λ u. command_tiles u command) user in
        let same_turns = ap (λ u. turns u command) user in
        let bt = b.tiles in let bp = b.posts in let bu = b.turns in
        record {
          gathers = b.gathers;
          tiles = omega (arith, bt, tiles, own, same_tiles);
          posts = omega (arith, bp, posts, own, same_tiles);
          turns = omega (arith, bu, fewer, own_turns, same_turns);
        }

  pub turned : (IsLastTurn name owner → ⊥) → Turns owner owed (owner_turned name owner)
  turned more = by owner.waiting refl
    where
      pending_some : (pending_in owner.state name ≡ 0 → ⊥) → 0 < pending_in owner.state name
      pending_some some = omega (arith, some)

      other : is_waited_for owner.waiting name ≡ false → 0 < pending_in owner.state name → Turns owner owed (owner_turned name owner)
      other e some = rw e (turns-other e some)

      none_measured : (w : Option Command) → owner.waiting ≡ w → is_waited_for w name ≡ false → pending_in owner.state name ≡ 0 → ⊥
      none_measured w e not_waited none =
          let en = energies owner.waiting owner.state name whole t.at_work none in
          by_w w e (ap (λ w. is_measured w name) (sym e) ∙ en.measured) not_waited
        where
          by_w : (w : Option Command) → owner.waiting ≡ w → is_measured w name ≡ true → is_waited_for w name ≡ false → ⊥
          by_w None e m n = true≢false (sym m)
          by_w (Some command) e m n = true≢false (sym (waited-measure command name (measures command name m)) ∙ n)

      by : (w : Option Command) → owner.waiting ≡ w → Turns owner owed (owner_turned name owner)
      by None e = other (ap (λ w. is_waited_for w name) e) (pending_some (none_measured None e refl))
      by (Some command) e = by_test (is_waited_for (Some command) name) waited not_waited
        where
          not_waited : is_waited_for (Some command) name ≡ false → Turns owner owed (owner_turned name owner)
          not_waited n = other (ap (λ w. is_waited_for w name) e ∙ n) (pending_some (none_measured (Some command) e n))

          waited : is_waited_for (Some command) name ≡ true → Turns owner owed (owner_turned name owner)
          waited y =
              let waits = same_name command name y in
              let work = subst (λ w. IsAtWork w owner.state) e t.at_work in
              let some : 0 < pending_in owner.state name = pending_some (λ none.
              last (measured_last command owner.state name (energies (Some command) owner.state name whole work none))) in
              let fewer = passed_turns owner.state name command waits some in
              let left : 0 < turns_before (with_session_changed name with_step_finished owner.state) command =
              omega (arith, fewer, last) in
              subst (λ (o : Owner). Turns owner owed o) (sym (turned-begun name owner command e y)) (turns-waited command e waits some left)
            where
              last : turns_before owner.state command ≡ 1 → ⊥
              last one = more (record { waited = rw e y; last = rw e one })
