use Rattle.std.proofs.Common.{◌≡◌, Some, length, sym, ap, ◌∙◌, arith}
use Rattle.lj_step.specs.Motion.{place_at}
use Rattle.lj_branch.specs.Named.{value_named}
use Rattle.lj_session.proofs.Holding.{named-settled, named-absent, pending-of}
use Rattle.lj_session.proofs.Performing as performing
use Rattle.lj_session.proofs.Outcomes as outcomes
use Rattle.lj_session.proofs.Outcomes.{read-step, shown}
use Rattle.lj_session.specs.UserState.{LiveSession, as_session, user_of}
use Rattle.lj_session.proofs.state.UserState.show.Goals.{After-count}
use Rattle.lj_session.proofs.state.UserState.show.Goals as goal

-- the session, with no pending steps
settled : (c : After-count) → value_named c.args.name (user_of c.args.self.now).sessions ≡ Some (as_session c.in-Some.session.now)
settled c =
    let found = sym c.in-Some.ensures in
    named-settled c.args.self.now c.args.name c.in-Some.session.now found
    (pending-of c.args.self.now c.args.name c.in-Some.session.now found c.requires.pending)

-- its count of atoms
count : (c : After-count) → c.count.result ≡ length c.in-Some.session.now.live.sim.cur
count c = c.count.ensures.value ∙ ap (λ (h : LiveSession). length h.live.sim.cur) c.session.view_is

pub returns-in_default : goal.returns-in_default
returns-in_default c = λ mark.
    performing.none (user_of c.args.self.now) _ mark (named-absent c.args.self.now c.args.name (sym c.in_default.ensures))

pub returns-then-atom-count : goal.returns-then-atom-count
returns-then-atom-count c = λ mark.
    let at = (goal.at.returns-then-atom-count c).After-count in
    performing.show-no_atom (user_of c.args.self.now) c.args.name mark (as_session c.in-Some.session.now) (settled at) c.args.atom
    (outcomes.past c.args.atom _ (let n = count at in let t = c.if-atom-count.true in omega (arith, n, t)))

pub returns : goal.returns
returns c = λ mark.
    let at = (goal.at.returns c).After-count in
    performing.show-done (user_of c.args.self.now) c.args.name mark (as_session c.in-Some.session.now) (settled at) c.args.atom
    (outcomes.there c.args.atom _ (let n = count at in let t = c.if-atom-count.false in omega (arith, n, t)))
    ∙ shown (user_of c.args.self.now) c.args.name c.args.atom _ _ _ _
    (read-step c.step.result c.step.ensures.most ∙ (c.step.ensures.value
    ∙ ap (λ (h : LiveSession). h.live.sim.step) c.session.view_is))
    (c.place.ensures ∙ ap (λ (h : LiveSession). place_at h.live.sim.cur c.args.atom) c.session.view_is)
