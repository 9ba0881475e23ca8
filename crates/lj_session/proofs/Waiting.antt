-- What waits: a command begun, a step passed, and what both leave of what will be answered.
use Rattle.std.proofs.Common.{◌≡◌, ℕ, ◌+◌, ◌-◌, ◌<◌, true, false, nat_lt, List, [], ◌∷◌, map, Option, Some, None, refl, sym, ◌∙◌, ap, arith}
use Rattle.std.proofs.lemmas.Bool.{ltb-false, true≢false}
use Rattle.std.specs.Option.{option_map_or}
use Rattle.std.specs.Str.{bytes_eq}
use Rattle.std.proofs.lemmas.Slice.Eq.{bytes_eq-Decides}
use Rattle.lj_task.specs.Task.{Task}
use Rattle.lj_task.specs.declared.task_name.Kind.TheVariants.{Energy}
use Rattle.lj_step.specs.OpenSteps.{tile_number_of}
use Rattle.lj_branch.specs.Named.{value_named}
use Rattle.lj_session.specs.declared.command.Command.{Command}
use Rattle.lj_session.specs.declared.command.Command.TheVariants.{Advance, Measure}
use Rattle.lj_session.specs.Users.{Session, User}
use Rattle.lj_session.specs.Answers.{answer, AnswersAlike, can_advance}
use Rattle.lj_session.specs.Turns.{turns, waits_for, advance_turns}
use Rattle.lj_session.specs.UserState.{LiveSession, UserState, user_of, as_entry, settled_session, live_session, with_session_changed, with_step, with_posted, with_tile_in, with_step_restarted, with_steps_restarted, with_more_pending, with_step_finished, pending_in, steps_before, turns_before}
use Rattle.lj_session.specs.Owner.{Owner, user_in, state_begun, command_left, state_taking_up, rest_of, state_changed_in, next_session, with_task_posted, with_task_in, is_waited_for}
use Rattle.lj_session.specs.OwnerLaws.{user_taking, BeginsAlike}
use Rattle.lj_session.proofs.Advancing.{advanced, alike}
use Rattle.lj_session.proofs.Entries.{by_test, named-put_any}
use Rattle.lj_session.proofs.Holding.{named-held, named-absent, user_of-changed, user_of-kept, changed-some}
use Rattle.lj_session.proofs.Outcomes.{pending-user}
use Rattle.lj_session.proofs.PendingSteps.{meant-rest, meant-posted, meant-passed, pending-added}
use Rattle.lj_session.proofs.Turning.{advance-turns-none, advance-turns-far, advance-turns-near, measure-turns-none}

-- a state whose steps are begun anew means the same user
rested_entries : (entries : List (List ℕ × LiveSession))
    → map as_entry (map (λ (e : List ℕ × LiveSession). (e.0, with_step_restarted e.1)) entries) ≡ map as_entry entries
rested_entries [] = refl
rested_entries (e ∷ es) =
    ap (λ (s : Session). (e.0, s) ∷ map as_entry (map (λ (f : List ℕ × LiveSession). (f.0, with_step_restarted f.1)) es)) (meant-rest e.1)
    ∙ ap (λ (l : List (List ℕ × Session)). as_entry e ∷ l) (rested_entries es)

pub rested_user : (state : UserState) → user_of (with_steps_restarted state) ≡ user_of state
rested_user state =
    ap (λ (l : List (List ℕ × Session)). record { quota = state.quota; sessions = l }) (rested_entries state.sessions)

changed_user : (name : Option (List ℕ)) (change : LiveSession → LiveSession) (state : UserState)
    → ((session : LiveSession) → settled_session (change session) ≡ settled_session session) → user_of (state_changed_in name change state) ≡ user_of state
changed_user None change state same = refl
changed_user (Some name) change state same = user_of-changed state name change same

pub posted_user : (owner : Owner) → user_in (with_task_posted owner) ≡ user_in owner
posted_user owner = changed_user (next_session owner) with_posted owner.state meant-posted

pub taken_user : (work : Task) (owner : Owner) → user_in (with_task_in work owner) ≡ user_in owner
taken_user work owner =
    user_of-changed owner.state work.name.label.session (with_tile_in (tile_number_of work)) (λ session. refl)

-- a step that was pending is passed
pub passed_user : (state : UserState) (name : List ℕ) → 0 < pending_in state name → user_of (with_session_changed name with_step_finished state) ≡ user_of state
passed_user state name some = by (live_session state name) refl
  where
    by : (o : Option LiveSession) → live_session state name ≡ o → user_of (with_session_changed name with_step_finished state) ≡ user_of state
    by None e = absurd (let none = rw e at some in omega (arith, none))
    by (Some session) e =
        ap user_of (changed-some state name with_step_finished session e)
        ∙ user_of-kept state name session (with_step_finished session) e (meant-passed session (rw e at some))

-- and one step fewer is pending
pub passed_pending : (state : UserState) (name : List ℕ) → 0 < pending_in state name
    → pending_in (with_session_changed name with_step_finished state) name + 1 ≡ pending_in state name
passed_pending state name some = by (live_session state name) refl
  where
    less : (session : LiveSession) → (with_step_finished session).pending + 1 ≡ session.pending - 1 + 1
    less session = by_test (nat_lt 0 (session.pending - 1)) (λ t. rw t refl) (λ t. rw t refl)

    by : (o : Option LiveSession) → live_session state name ≡ o → pending_in (with_session_changed name with_step_finished state) name + 1 ≡ pending_in state name
    by None e = absurd (let none = rw e at some in omega (arith, none))
    by (Some session) e =
        let there : live_session (with_session_changed name with_step_finished state) name ≡ Some (with_step_finished session) =
        ap (λ (o : UserState). live_session o name) (changed-some state name with_step_finished session e) ∙ named-put_any name state.sessions (with_step_finished session) in
        let one = less session in
        let more : 0 < session.pending = rw e at some in
        ap (λ o. option_map_or (λ (h : LiveSession). h.pending) o 0 + 1) there
        ∙ (let n : (with_step_finished session).pending + 1 ≡ session.pending = omega (arith, one, more) in n)
        ∙ sym (ap (λ o. option_map_or (λ (h : LiveSession). h.pending) o 0) e)

-- an ADVANCE that takes steps can go on by them
pub record Goes (state : UserState) (name : List ℕ) (n : ℕ) : Type 0 where
  pub session : LiveSession
  pub there : live_session state name ≡ Some session
  pub near : can_advance (settled_session session) n ≡ true

pub goes : (state : UserState) (name : List ℕ) (n : ℕ) → 0 < turns (user_of state) (Advance name n) → Goes state name n
goes state name n some = by (live_session state name) refl
  where
    by : (o : Option LiveSession) → live_session state name ≡ o → Goes state name n
    by None e = absurd (let none = advance-turns-none (user_of state) name n (named-absent state name e) in omega (arith, none, some))
    by (Some session) e = by_test (can_advance (settled_session session) n)
        (λ near. record { session = session; there = e; near = near })
        (λ far. absurd (let none = advance-turns-far (user_of state) name n (settled_session session) (named-held state name session e) far in
        omega (arith, none, some)))

-- the pending steps of an ADVANCE are counted
pub taken_user_of : (state : UserState) (name : List ℕ) (n : ℕ) → Goes state name n
    → user_of (with_session_changed name (with_more_pending n) state) ≡ (answer (user_of state) (Advance name n) false).1
taken_user_of state name n g =
    ap user_of (changed-some state name (with_more_pending n) g.session g.there) ∙ pending-user state name g.session g.there n g.near

-- and an ADVANCE by 0 is then answered as the whole
pub taken_alike : (state : UserState) (name : List ℕ) (n : ℕ) → Goes state name n
    → AnswersAlike (user_of (with_session_changed name (with_more_pending n) state)) (Advance name 0) (user_of state) (Advance name n)
taken_alike state name n g mark =
    let found = named-held state name g.session g.there in
    ap (λ u. answer u (Advance name 0) mark) (taken_user_of state name n g
    ∙ ap (λ a. a.1) (advanced (user_of state) name (settled_session g.session) found n g.near false))
    ∙ alike (user_of state) name (settled_session g.session) found n g.near mark

-- what a command that takes steps of its own leaves
takes : (command : Command) (owner : Owner) → 0 < turns (user_in owner) command
    → (user_of (state_taking_up command owner.state) ≡ user_taking (user_in owner) command)
    × AnswersAlike (user_of (state_taking_up command owner.state)) (rest_of command) (user_in owner) command
unfolding state_taking_up rest_of turns
takes (Advance name n) owner some =
    let g = goes owner.state name n some in (taken_user_of owner.state name n g, taken_alike owner.state name n g)
takes (Measure name) owner some =
    let same = user_of-changed owner.state name (with_step Energy) (λ session. refl) in
    (same, λ mark. ap (λ u. answer u (Measure name) mark) same)
takes command owner some = absurd (omega (arith, some))

pub begins_alike : (command : Command) (owner : Owner) → 0 < turns_before owner.state command → BeginsAlike command owner
begins_alike command owner some = by_test (nat_lt 0 (steps_before owner.state command)) waits goes_on
  where
    waits : nat_lt 0 (steps_before owner.state command) ≡ true → BeginsAlike command owner
    waits t = record { user = rw t refl; left = rw t (λ mark. refl) }

    goes_on : nat_lt 0 (steps_before owner.state command) ≡ false → BeginsAlike command owner
    goes_on t =
        let none = ltb-false 0 (steps_before owner.state command) t in
        let more : 0 < turns (user_in owner) command = omega (arith, some, none) in
        let made = takes command owner more in
        record { user = rw t made.0; left = rw t made.1 }

-- the session that a command waits for
pub same_name : (command : Command) (name : List ℕ) → is_waited_for (Some command) name ≡ true → waits_for command ≡ Some name
same_name command name h = by (waits_for command) refl
  where
    by : (o : Option (List ℕ)) → waits_for command ≡ o → o ≡ Some name
    by None e = absurd (true≢false (sym h ∙ ap (λ o. option_map_or (λ session. bytes_eq session name) o false) e))
    by (Some session) e =
        let t = sym (ap (λ o. option_map_or (λ session. bytes_eq session name) o false) e) ∙ h in
        ap (λ n. Some n) ((bytes_eq-Decides session name).0 t)

-- how many turns are left once a step of the session is passed
pub passed_turns : (state : UserState) (name : List ℕ) (command : Command) → waits_for command ≡ Some name → 0 < pending_in state name
    → turns_before (with_session_changed name with_step_finished state) command + 1 ≡ turns_before state command
passed_turns state name command waits some =
    let less = passed_pending state name some in
    let same = ap (λ u. turns u command) (passed_user state name some) in
    let then = ap (λ o. option_map_or (pending_in (with_session_changed name with_step_finished state)) o 0) waits in
    let now = ap (λ o. option_map_or (pending_in state) o 0) waits in
    omega (arith, less, same, then, now)

-- a command whose session has no pending steps takes steps of its own
pub left-taken : (command : Command) (state : UserState) → steps_before state command ≡ 0 → command_left command state ≡ rest_of command
left-taken command state none = rw none refl

pub begun-taken : (command : Command) (state : UserState) → steps_before state command ≡ 0 → state_begun command state ≡ state_taking_up command state
begun-taken command state none = rw none refl

-- an ADVANCE by 0 takes no turn
pub nothing-turns : (user : User) (name : List ℕ) → turns user (Advance name 0) ≡ 0
unfolding turns
nothing-turns user name = by (value_named name user.sessions)
  where
    by : (o : Option Session) → advance_turns o 0 ≡ 0
    by None = refl
    by (Some session) = by_test (can_advance session 0) (λ t. rw t refl) (λ t. rw t refl)

-- its own turns are then the pending ones
pub taken_turns : (state : UserState) (name : List ℕ) (n : ℕ) → Goes state name n → pending_in state name ≡ 0
    → turns_before (with_session_changed name (with_more_pending n) state) (Advance name 0) ≡ turns_before state (Advance name n)
unfolding waits_for
taken_turns state name n g none =
    let there : live_session (with_session_changed name (with_more_pending n) state) name ≡ Some (with_more_pending n g.session) =
    ap (λ (o : UserState). live_session o name) (changed-some state name (with_more_pending n) g.session g.there)
    ∙ named-put_any name state.sessions (with_more_pending n g.session) in
    let pending : pending_in (with_session_changed name (with_more_pending n) state) name ≡ g.session.pending + n =
    ap (λ o. option_map_or (λ (h : LiveSession). h.pending) o 0) there ∙ pending-added n g.session in
    let was : g.session.pending ≡ 0 = rw g.there at none in
    let zero_more = nothing-turns (user_of (with_session_changed name (with_more_pending n) state)) name in
    let own = advance-turns-near (user_of state) name n (settled_session g.session) (named-held state name g.session g.there) g.near in
    omega (arith, pending, was, zero_more, own, none)

-- a MEASURE that takes its turn has its session
pub measured_there : (state : UserState) (name : List ℕ) → 0 < turns (user_of state) (Measure name)
    → (session : LiveSession) × (live_session state name ≡ Some session)
measured_there state name some = by (live_session state name) refl
  where
    by : (o : Option LiveSession) → live_session state name ≡ o → (session : LiveSession) × (o ≡ Some session)
    by None e = absurd (let none = measure-turns-none (user_of state) name (named-absent state name e) in omega (arith, none, some))
    by (Some session) e = (session, refl)

pub measured_turns : (state : UserState) (name : List ℕ) (session : LiveSession) → live_session state name ≡ Some session
    → turns_before (with_session_changed name (with_step Energy) state) (Measure name) ≡ turns_before state (Measure name)
unfolding waits_for
measured_turns state name session found =
    let there : live_session (with_session_changed name (with_step Energy) state) name ≡ Some (with_step Energy session) =
    ap (λ (o : UserState). live_session o name) (changed-some state name (with_step Energy) session found)
    ∙ named-put_any name state.sessions (with_step Energy session) in
    let now = ap (λ o. option_map_or (λ (h : LiveSession). h.pending) o 0) there in
    let was = ap (λ o. option_map_or (λ (h : LiveSession). h.pending) o 0) found in
    let same = ap (λ u. turns u (Measure name)) (user_of-changed state name (with_step Energy) (λ h. refl)) in
    omega (arith, now, was, same)
