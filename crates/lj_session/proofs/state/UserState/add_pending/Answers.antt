use Rattle.std.proofs.Common.{◌≡◌, false, ap, ◌∙◌}
use Rattle.lj_session.specs.declared.command.Command.TheVariants.{Advance}
use Rattle.lj_session.specs.Answers.{answer}
use Rattle.lj_session.specs.UserState.{LiveSession, user_of, with_live_session, with_more_pending}
use Rattle.lj_session.proofs.Outcomes.{pending-user}
use Rattle.lj_session.proofs.PendingSteps.{count-added, saved-added}
use Rattle.lj_session.proofs.Writing.{writes, changed_by, reached_answered, totals_as}
use Rattle.lj_session.proofs.state.UserState.add_pending.Goals.{After-add_pending}
use Rattle.lj_session.proofs.state.UserState.add_pending.Goals as goal

-- the user after an ADVANCE
advanced : (c : After-add_pending)
    → user_of (record { quota = c.self.inside.quota; sessions = (c.get_mut.follows.lender c.add_pending.new.self).entries })
    ≡ (answer (user_of c.args.self.now) (Advance c.args.name.now c.args.steps) false).1
advanced c =
    let wrote = writes c.args.name.now c.self.invariant c.self.view_is c.in-Some.ensures.value (c.get_mut.follows.holds c.add_pending.new.self).0 in
    ap user_of (wrote.is ∙ ap (λ (h : LiveSession). with_live_session c.args.name.now h c.args.self.now) c.add_pending.ensures)
    ∙ pending-user c.args.self.now c.args.name.now c.in-Some.session.now wrote.found c.args.steps
    (c.requires.near c.in-Some.session.now wrote.found)

pub invariant_of-self-2 : goal.invariant_of-self-2
invariant_of-self-2 c =
    let session = c.in-Some.session.now in
    let wrote = writes c.args.name.now c.self.invariant c.self.view_is c.in-Some.ensures.value (c.get_mut.follows.holds c.add_pending.new.self).0 in record {
      counted = totals_as wrote _ c.add_pending.ensures (count-added c.args.steps session) (saved-added c.args.steps session);
      reached = reached_answered wrote (Advance c.args.name.now c.args.steps)
          (advanced (goal.at.invariant_of-self-2 c).After-add_pending);
    }

pub returns-clause-pending : goal.returns-clause-pending
returns-clause-pending c =
    changed_by (writes c.args.name.now c.self.invariant c.self.view_is c.in-Some.ensures.value (c.get_mut.follows.holds c.add_pending.new.self).0) (with_more_pending c.args.steps) c.add_pending.ensures

pub returns-clause-user : goal.returns-clause-user
returns-clause-user c = advanced (goal.at.returns-clause-user c).After-add_pending
