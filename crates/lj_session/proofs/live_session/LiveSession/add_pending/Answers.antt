use Rattle.std.proofs.Common.{◌≡◌, ◌∙◌, true, sym, ap, subst, unsigned_abs, ◌≤◌, ◌^◌}
use Rattle.lj_session.specs.Answers.{can_advance}
use Rattle.lj_session.specs.UserState.{LiveSession, settled_session}
use Rattle.lj_session.proofs.Reach.{pending_more}
use Rattle.lj_session.proofs.live_session.LiveSession.add_pending.Goals as goal

pub invariant_of-self-else-first : goal.invariant_of-self-else-first
invariant_of-self-else-first c =
    pending_more c.self.inside c.self.invariant c.args.steps
    (subst (λ z. unsigned_abs z ≤ 10 ^ 12) c.step-step.ensures.value c.step-step.ensures.most)
    (ap unsigned_abs (sym c.dir-dir.ensures.value) ∙ c.dir-dir.ensures.size)
    (subst (λ (h : LiveSession). can_advance (settled_session h) c.args.steps ≡ true) (sym c.self.view_is) c.requires)
