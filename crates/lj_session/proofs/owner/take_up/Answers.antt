use Rattle.std.proofs.Common.{◌≡◌, ℕ, ◌<◌, ◌≤◌, List, Some, None, refl, sym, ap, ◌∙◌, subst, arith}
use Rattle.lj_session.specs.declared.command.Command.{Command}
use Rattle.lj_session.specs.declared.command.Command.TheVariants.{Advance, Measure}
use Rattle.lj_task.specs.declared.task_name.Kind.TheVariants.{Energy}
use Rattle.lj_session.specs.Turns.{turns, waits_for}
use Rattle.std.specs.Prelude.{IsSome, true}
use Rattle.lj_session.specs.Answers.{answer, can_advance, session_named}
use Rattle.lj_session.specs.UserState.{LiveSession, UserState, IsAtWork, user_of, live_session, pending_in, with_more_pending, with_step, settled_session, steps_before, turns_before}
use Rattle.lj_session.specs.Owner.{rest_of, command_left, state_taking_up, state_begun}
use Rattle.lj_session.proofs.AtWork.{at_work-changed, at_work-measured, at_work-waits, kind-added}
use Rattle.lj_session.proofs.Holding.{pending-of}
use Rattle.lj_session.proofs.Others.{others-changed}
use Rattle.lj_session.proofs.Turning.{no-turns}
use Rattle.lj_session.proofs.Waiting.{Goes, goes, taken_alike, taken_turns, measured_there, measured_turns, left-taken, begun-taken}
use Rattle.lj_session.proofs.owner.take_up.Goals.{In-Advance, In-Measure, In_default}
use Rattle.lj_session.proofs.owner.take_up.Goals as goal

pub returns-then-steps_before-gt0-clause-at_work :
    goal.returns-then-steps_before-gt0-clause-at_work
returns-then-steps_before-gt0-clause-at_work c =
    at_work-waits c.args.command c.args.state.now
    (subst (λ n. 0 < n) c.steps_before.ensures c.if-steps_before-gt0.true) c.requires.at_work

-- the session has no pending steps
none_of : (m k : ℕ) → m ≤ 0 → m ≡ k → k ≡ 0
none_of m k few is = omega (arith, few, is)

-- so its own turns are left
own_some : (state : UserState) (command : Command) → 0 < turns_before state command → steps_before state command ≡ 0
    → 0 < turns (user_of state) command
own_some state command some none = omega (arith, some, none)

-- and an ADVANCE can go on
goes_of : (state : UserState) (command : Command) (name : List ℕ) (n : ℕ) → 0 < turns_before state command
    → steps_before state command ≡ 0 → command ≡ Advance name n → Goes state name n
goes_of state command name n some none which =
    goes state name n (subst (λ (k : Command). 0 < turns (user_of state) k) which (own_some state command some none))

none-pending : (state : UserState) (command : Command) (name : List ℕ) (n : ℕ) → command ≡ Advance name n
    → steps_before state command ≡ 0 → pending_in state name ≡ 0
unfolding waits_for
none-pending state command name n is none = rw is at none

is_there : (state : UserState) (name : List ℕ) {n : ℕ} → Goes state name n → IsSome (live_session state name)
is_there state name g = rw g.there refl

near_of : (state : UserState) (name : List ℕ) (n : ℕ) → Goes state name n → (session : LiveSession) → live_session state name ≡ Some session
    → can_advance (settled_session session) n ≡ true
near_of state name n g session e = subst (λ (h : LiveSession). can_advance (settled_session h) n ≡ true) (same g.session session (sym g.there ∙ e)) g.near
  where
    same : (a b : LiveSession) → Some a ≡ Some b → a ≡ b
    same a b k = cc

-- what is left of a command whose steps are taken up, and the state then
left : (state : UserState) (command which : Command) → command ≡ which → steps_before state command ≡ 0
    → rest_of which ≡ command_left command state
left state command which is none = sym (ap rest_of is) ∙ sym (left-taken command state none)

begun : (state : UserState) (command which : Command) → command ≡ which → steps_before state command ≡ 0
    → state_taking_up which state ≡ state_begun command state
begun state command which is none = sym (ap (λ k. state_taking_up k state) is) ∙ sym (begun-taken command state none)

none_before : (c : In-Advance) → steps_before c.args.state.now c.args.command ≡ 0
none_before c = none_of c.steps_before.result _ c.if-steps_before-gt0.false c.steps_before.ensures

going : (c : In-Advance) → Goes c.args.state.now c.in-Advance.name c.in-Advance.steps
going c = goes_of c.args.state.now c.args.command c.in-Advance.name c.in-Advance.steps c.requires.waits (none_before c) c.in-Advance.is

pub add_pending-requires-clause-session : goal.add_pending-requires-clause-session
add_pending-requires-clause-session c =
    is_there c.args.state.now c.in-Advance.name (going (goal.at.add_pending-requires-clause-session c).In-Advance)

pub add_pending-requires-clause-near : goal.add_pending-requires-clause-near
add_pending-requires-clause-near c =
    near_of c.args.state.now c.in-Advance.name c.in-Advance.steps (going (goal.at.add_pending-requires-clause-near c).In-Advance)

pub returns-in-Advance-clause-left : goal.returns-in-Advance-clause-left
unfolding rest_of
returns-in-Advance-clause-left c =
    ap (λ n. Advance n 0) c.copy.ensures
    ∙ left c.args.state.now c.args.command _ c.in-Advance.is (none_before (goal.at.returns-in-Advance-clause-left c).In-Advance)

pub returns-in-Advance-clause-begun : goal.returns-in-Advance-clause-begun
unfolding state_taking_up
returns-in-Advance-clause-begun c =
    c.add_pending.ensures.pending
    ∙ begun c.args.state.now c.args.command _ c.in-Advance.is (none_before (goal.at.returns-in-Advance-clause-begun c).In-Advance)

pub returns-in-Advance-clause-alike : goal.returns-in-Advance-clause-alike
returns-in-Advance-clause-alike c = λ mark.
    let old = c.args.state.now in
    ap (λ n. answer (user_of c.add_pending.new.self) (Advance n 0) mark) c.copy.ensures
    ∙ ap (λ (o : UserState). answer (user_of o) (Advance c.in-Advance.name 0) mark) c.add_pending.ensures.pending
    ∙ taken_alike old c.in-Advance.name c.in-Advance.steps (going (goal.at.returns-in-Advance-clause-alike c).In-Advance) mark
    ∙ ap (λ k. answer (user_of old) k mark) (sym c.in-Advance.is)

pub returns-in-Advance-clause-at_work : goal.returns-in-Advance-clause-at_work
returns-in-Advance-clause-at_work c =
    let old = c.args.state.now in
    let name = c.in-Advance.name in
    subst (λ (o : UserState). IsAtWork None o) (sym c.add_pending.ensures.pending)
    (at_work-changed None old name (with_more_pending c.in-Advance.steps)
    (λ session e. kind-added None name c.in-Advance.steps session refl (c.requires.at_work name session e)) c.requires.at_work)

pub returns-in-Advance-clause-turns : goal.returns-in-Advance-clause-turns
returns-in-Advance-clause-turns c =
    let old = c.args.state.now in
    let at = (goal.at.returns-in-Advance-clause-turns c).In-Advance in
    ap (λ n. turns_before c.add_pending.new.self (Advance n 0)) c.copy.ensures
    ∙ ap (λ (o : UserState). turns_before o (Advance c.in-Advance.name 0)) c.add_pending.ensures.pending
    ∙ taken_turns old c.in-Advance.name c.in-Advance.steps (going at)
    (none-pending old c.args.command c.in-Advance.name c.in-Advance.steps c.in-Advance.is (none_before at))
    ∙ ap (turns_before old) (sym c.in-Advance.is)

pub returns-in-Advance-clause-others : goal.returns-in-Advance-clause-others
returns-in-Advance-clause-others c = λ other apart.
    ap (λ (o : UserState). live_session o other) c.add_pending.ensures.pending
    ∙ others-changed c.args.state.now c.in-Advance.name (with_more_pending c.in-Advance.steps) other
    (λ same. apart (ap session_named c.in-Advance.is ∙ same))

measured_of : (state : UserState) (command : Command) (name : List ℕ) → 0 < turns_before state command
    → steps_before state command ≡ 0 → command ≡ Measure name → (session : LiveSession) × (live_session state name ≡ Some session)
measured_of state command name some none which =
    measured_there state name (subst (λ (k : Command). 0 < turns (user_of state) k) which (own_some state command some none))

none-measured : (state : UserState) (command : Command) (name : List ℕ) → command ≡ Measure name → steps_before state command ≡ 0
    → pending_in state name ≡ 0
unfolding waits_for
none-measured state command name is none = rw is at none

measured : (c : In-Measure) → (session : LiveSession) × (live_session c.args.state.now c.in-Measure.name ≡ Some session)
measured c = measured_of c.args.state.now c.args.command c.in-Measure.name c.requires.waits
    (none_of c.steps_before.result _ c.if-steps_before-gt0.false c.steps_before.ensures) c.in-Measure.is

pub returns-in-Measure-clause-left : goal.returns-in-Measure-clause-left
unfolding rest_of
returns-in-Measure-clause-left c =
    ap Measure c.copy-in-Measure.ensures ∙ left c.args.state.now c.args.command _ c.in-Measure.is
    (none_of c.steps_before.result _ c.if-steps_before-gt0.false c.steps_before.ensures)

pub returns-in-Measure-clause-begun : goal.returns-in-Measure-clause-begun
unfolding state_taking_up
returns-in-Measure-clause-begun c =
    c.open_step.ensures.opened ∙ begun c.args.state.now c.args.command _ c.in-Measure.is
    (none_of c.steps_before.result _ c.if-steps_before-gt0.false c.steps_before.ensures)

pub returns-in-Measure-clause-at_work : goal.returns-in-Measure-clause-at_work
returns-in-Measure-clause-at_work c =
    let old = c.args.state.now in
    let session = measured (goal.at.returns-in-Measure-clause-at_work c).In-Measure in
    let none = none_of c.steps_before.result _ c.if-steps_before-gt0.false c.steps_before.ensures in
    subst (λ n. IsAtWork (Some (Measure n)) c.open_step.new.self) (sym c.copy-in-Measure.ensures)
    (subst (λ (o : UserState). IsAtWork (Some (Measure c.in-Measure.name)) o) (sym c.open_step.ensures.opened)
    (at_work-measured old c.in-Measure.name session.0 session.1
    (pending-of old c.in-Measure.name session.0 session.1 (none-measured old c.args.command c.in-Measure.name c.in-Measure.is none))
    c.requires.at_work))

pub returns-in-Measure-clause-turns : goal.returns-in-Measure-clause-turns
returns-in-Measure-clause-turns c =
    let old = c.args.state.now in
    let session = measured (goal.at.returns-in-Measure-clause-turns c).In-Measure in
    ap (λ n. turns_before c.open_step.new.self (Measure n)) c.copy-in-Measure.ensures
    ∙ ap (λ (o : UserState). turns_before o (Measure c.in-Measure.name)) c.open_step.ensures.opened
    ∙ measured_turns old c.in-Measure.name session.0 session.1 ∙ ap (turns_before old) (sym c.in-Measure.is)

pub returns-in-Measure-clause-others : goal.returns-in-Measure-clause-others
returns-in-Measure-clause-others c = λ other apart.
    ap (λ (o : UserState). live_session o other) c.open_step.ensures.opened
    ∙ others-changed c.args.state.now c.in-Measure.name (with_step Energy) other
    (λ same. apart (ap session_named c.in-Measure.is ∙ same))

-- no other command takes a turn
default-turns : (state : UserState) (command : Command) → 0 < turns_before state command → steps_before state command ≡ 0
    → ((name : List ℕ) (n : ℕ) → command ≡ Advance name n → ⊥) → ((name : List ℕ) → command ≡ Measure name → ⊥) → ⊥
default-turns state command some none advance measure =
    let own = own_some state command some none in
    let zero_own = no-turns (user_of state) command advance measure in
    omega (arith, own, zero_own)

nothing : (c : In_default) → ⊥
nothing c = default-turns c.args.state.now c.args.command c.requires.waits
    (none_of c.steps_before.result _ c.if-steps_before-gt0.false c.steps_before.ensures)
    c.in_default.not-Advance c.in_default.not-Measure

pub returns-in_default : goal.returns-in_default
returns-in_default c = absurd (nothing (goal.at.returns-in_default c).In_default)
