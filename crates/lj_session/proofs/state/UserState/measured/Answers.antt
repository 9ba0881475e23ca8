use Rattle.std.proofs.Common.{length, ◌∷◌, [], ap, ◌∙◌}
use Rattle.lj_step.specs.Motion.{momentum, kinetic, potential}
use Rattle.lj_step.specs.OpenSteps.{kind_of, is_whole}
use Rattle.lj_session.proofs.Holding.{named-settled, pending-of}
use Rattle.lj_session.proofs.Performing as performing
use Rattle.lj_session.proofs.Outcomes.{read-step, read-potential, measured}
use Rattle.lj_session.specs.UserState.{LiveSession, as_session, user_of}
use Rattle.lj_session.proofs.state.UserState.measured.Goals as goal

pub potential-requires-clause-kind : goal.potential-requires-clause-kind
potential-requires-clause-kind c = ap (λ (h : LiveSession). kind_of h.live.part) c.session.view_is
    ∙ (c.requires.whole c.session-session.result.now c.session-session.ensures).kind

pub potential-requires-clause-whole : goal.potential-requires-clause-whole
potential-requires-clause-whole c = ap (λ (h : LiveSession). is_whole h.live.part) c.session.view_is
    ∙ (c.requires.whole c.session-session.result.now c.session-session.ensures).whole

pub returns : goal.returns
returns c = λ mark.
    let old = c.args.self.now in
    let session = c.session-session.result.now in
    let is = c.session.view_is in
    performing.measure-done (user_of old) c.args.name mark (as_session session)
    (named-settled old c.args.name session c.session-session.ensures (pending-of old c.args.name session c.session-session.ensures c.requires.settled))
    ∙ measured (user_of old) c.args.name _ _ _ _ _ _ _ _ _ _
    (read-step c.step.result c.step.ensures.most ∙ (c.step.ensures.value ∙ ap (λ (h : LiveSession). h.live.sim.step) is))
    (c.count.ensures.value ∙ ap (λ (h : LiveSession). length h.live.sim.cur) is)
    (c.momentum.ensures ∙ ap (λ (h : LiveSession). let m = momentum h.live.sim in m.x ∷ m.y ∷ m.z ∷ []) is)
    (c.kinetic.ensures ∙ ap (λ (h : LiveSession). kinetic h.live.sim) is)
    (read-potential c.potential.result (record { sfits = c.potential.type_inv })
    ∙ (c.potential.ensures ∙ ap (λ (h : LiveSession). potential h.live.composition h.live.sim.cur) is))
