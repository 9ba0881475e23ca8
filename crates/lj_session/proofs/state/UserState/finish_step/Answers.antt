use Rattle.std.proofs.Common.{◌≡◌, refl, ap, ◌∙◌}
use Rattle.lj_session.specs.UserState.{settled_session, with_step_finished}
use Rattle.lj_session.proofs.PendingSteps.{meant-passed}
use Rattle.lj_session.proofs.Writing.{Writes, writes, some_pending, changed_by, user_kept, still}
use Rattle.lj_session.proofs.state.UserState.finish_step.Goals.{After-finish_step}
use Rattle.lj_session.proofs.state.UserState.finish_step.Goals as goal

-- what is written
wrote : (c : After-finish_step) → Writes c.self.inside c.args.self.now c.args.name.now c.in-Some.session.now c.finish_step.new.self
    (c.get_mut.follows.lender c.finish_step.new.self).entries
wrote c =
    writes c.args.name.now c.self.invariant c.self.view_is c.in-Some.ensures.value (c.get_mut.follows.holds c.finish_step.new.self).0

-- the session that is meant stays
meant : (c : After-finish_step) → settled_session c.finish_step.new.self ≡ settled_session c.in-Some.session.now
meant c =
    ap settled_session c.finish_step.ensures ∙ meant-passed c.in-Some.session.now (some_pending (wrote c) c.requires.pending)

pub invariant_of-self-2 : goal.invariant_of-self-2
invariant_of-self-2 c =
    let after = (goal.at.invariant_of-self-2 c).After-finish_step in still (wrote after) (meant after) _ refl refl

pub returns-clause-passed : goal.returns-clause-passed
returns-clause-passed c =
    changed_by (wrote (goal.at.returns-clause-passed c).After-finish_step) with_step_finished c.finish_step.ensures

pub returns-clause-user : goal.returns-clause-user
returns-clause-user c =
    let after = (goal.at.returns-clause-user c).After-finish_step in user_kept (wrote after) (meant after)
