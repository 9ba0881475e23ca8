use Rattle.std.proofs.Common.{◌<◌, ◌∙◌, ap, subst, sym}
use Rattle.lj_step.specs.Sim.{Sim}
use Rattle.lj_session.specs.UserState.{LiveSession}
use Rattle.lj_session.proofs.Reach.{passed_on}
use Rattle.lj_session.proofs.live_session.LiveSession.finish_step.Goals as goal

pub invariant_of-self : goal.invariant_of-self
invariant_of-self c =
    passed_on c.self.inside c.self.invariant (subst (λ (h : LiveSession). 0 < h.pending) (sym c.self.view_is) c.requires.pending)
    c.open_step.new.self 0
    (ap (λ (l : Sim). l.sim) c.open_step.ensures ∙ ap (λ (l : Sim). l.sim) c.turn.ensures)

pub invariant_of-self-else-self-gt0 : goal.invariant_of-self-else-self-gt0
invariant_of-self-else-self-gt0 c =
    passed_on c.self.inside c.self.invariant (subst (λ (h : LiveSession). 0 < h.pending) (sym c.self.view_is) c.requires.pending)
    c.turn.new.self c.self.inside.passed (ap (λ (l : Sim). l.sim) c.turn.ensures)
