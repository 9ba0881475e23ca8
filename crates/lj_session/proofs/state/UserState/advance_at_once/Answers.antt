use Rattle.std.proofs.Common.{Ok, sym, ap, ◌∙◌}
use Rattle.lj_session.specs.declared.command.Command.TheVariants.{Advance}
use Rattle.lj_session.specs.declared.reply.Reply.TheVariants as reply
use Rattle.lj_session.specs.Answers.{can_advance, command_result}
use Rattle.lj_session.proofs.Holding.{named-held, named-absent}
use Rattle.lj_session.proofs.Performing as performing
use Rattle.lj_session.proofs.Outcomes as outcomes
use Rattle.lj_session.proofs.Outcomes.{read-step}
use Rattle.lj_session.proofs.Turning.{advance-turns-near}
use Rattle.lj_session.specs.UserState.{settled_session, user_of}
use Rattle.lj_session.proofs.state.UserState.advance_at_once.Goals as goal

pub returns-in_default : goal.returns-in_default
returns-in_default c = λ mark.
    performing.none (user_of c.args.self.now) _ mark (named-absent c.args.self.now c.args.name (sym c.in_default.ensures))

pub returns-then-not-can_advance : goal.returns-then-not-can_advance
returns-then-not-can_advance c = λ mark.
    let old = c.args.self.now in
    let session = c.in-Some.session.now in
    (performing.steps-far (user_of old) c.args.name mark (settled_session session)
    (named-held old c.args.name session (sym c.in-Some.ensures)) c.args.steps
    (sym c.can_advance.ensures ∙ c.if-not-can_advance.true)).0

pub returns : goal.returns
returns c = λ mark.
    let old = c.args.self.now in
    let session = c.in-Some.session.now in
    let found = sym c.in-Some.ensures in
    let near = sym c.can_advance.ensures ∙ c.if-not-can_advance.false in
    let none =
    sym (advance-turns-near (user_of old) c.args.name c.args.steps (settled_session session)
    (named-held old c.args.name session found) near) ∙ c.requires.turns in
    ap (λ n. command_result (user_of old) (Advance c.args.name n) mark) none
    ∙ outcomes.advance-nothing old c.args.name session found (ap (can_advance (settled_session session)) (sym none) ∙ near) mark
    ∙ ap (λ s. Ok (reply.Advanced c.args.name s, user_of old))
    (sym (read-step c.target-step.result c.target-step.ensures.most ∙ c.target-step.ensures.value))
