use Rattle.std.proofs.Common.{◌∙◌, false, refl, sym, ap}
use Rattle.lj_session.specs.declared.reply.Reply.TheVariants as reply
use Rattle.lj_session.specs.UserState.{LiveSession, settled_session, user_of}
use Rattle.lj_session.proofs.PendingSteps.{count-added, saved-added}
use Rattle.lj_session.proofs.Performing as performing
use Rattle.lj_session.proofs.Outcomes as outcomes
use Rattle.lj_session.proofs.Outcomes.{read-step}
use Rattle.lj_session.proofs.Writing.{Writes, writes, is_there, unchanged, absent, still, totals_as}
use Rattle.lj_session.proofs.Writing.{reached_as, done_at}
use Rattle.lj_session.proofs.state.UserState.start.Goals.{In-Some}
use Rattle.lj_session.proofs.state.UserState.start.Goals as goal

-- what is written
wrote : (c : In-Some) (new : LiveSession)
    → Writes c.self.inside c.args.self.now c.args.name c.in-Some.session.now new (c.get_mut.follows.lender new).entries
wrote c new = writes c.args.name c.self.invariant c.self.view_is c.in-Some.ensures.value (c.get_mut.follows.holds new).0

pub returns-in_default-clause-performs : goal.returns-in_default-clause-performs
returns-in_default-clause-performs c = absent c.self.invariant c.self.view_is c.args.name c.in_default.ensures.value _ _ (λ none. none)

pub invariant_of-self-then-not-can_advance : goal.invariant_of-self-then-not-can_advance
invariant_of-self-then-not-can_advance c =
    still (wrote (goal.at.invariant_of-self-then-not-can_advance c).In-Some c.in-Some.session.now) refl _ refl refl

pub returns-then-not-can_advance-clause-performs : goal.returns-then-not-can_advance-clause-performs
returns-then-not-can_advance-clause-performs c =
    performing.refused c.args.self.now _ _ _ (performing.steps-far (user_of c.args.self.now)
    c.args.name false (settled_session c.in-Some.session.now)
    (is_there (wrote (goal.at.returns-then-not-can_advance-clause-performs c).In-Some c.in-Some.session.now))
    c.args.steps (sym c.can_advance.ensures ∙ c.if-not-can_advance.true)).1

pub returns-then-not-can_advance-clause-unchanged : goal.returns-then-not-can_advance-clause-unchanged
returns-then-not-can_advance-clause-unchanged c =
    unchanged (wrote (goal.at.returns-then-not-can_advance-clause-unchanged c).In-Some c.in-Some.session.now) refl

pub invariant_of-self-2 : goal.invariant_of-self-2
invariant_of-self-2 c =
    let session = c.in-Some.session.now in
    let wrote = wrote (goal.at.invariant_of-self-2 c).In-Some c.add_pending.new.self in record {
      counted = totals_as wrote _ c.add_pending.ensures (count-added c.args.steps session) (saved-added c.args.steps session);
      reached = reached_as wrote _ _ _ (outcomes.start c.args.self.now c.args.name session wrote.found c.args.steps
          (sym c.can_advance.ensures ∙ c.if-not-can_advance.false)) c.add_pending.ensures;
    }

pub returns-clause-performs : goal.returns-clause-performs
returns-clause-performs c =
    let session = c.in-Some.session.now in
    let wrote = wrote (goal.at.returns-clause-performs c).In-Some c.add_pending.new.self in
    done_at wrote _ (reply.Started c.args.name) _ _ _
    (outcomes.start c.args.self.now c.args.name session wrote.found c.args.steps
    (sym c.can_advance.ensures ∙ c.if-not-can_advance.false))
    (read-step c.target-step.result c.target-step.ensures.most
    ∙ (c.target-step.ensures.value ∙ ap (λ (h : LiveSession). (settled_session h).sim.step) c.add_pending.ensures)) c.add_pending.ensures
