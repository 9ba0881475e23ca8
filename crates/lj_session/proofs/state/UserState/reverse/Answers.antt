use Rattle.std.proofs.Common.{Some, refl, ap, ◌∙◌}
use Rattle.lj_step.specs.Sim.{Sim}
use Rattle.lj_session.specs.declared.reply.Reply.TheVariants as reply
use Rattle.lj_session.specs.KeptSessions.{session_of_kept}
use Rattle.lj_session.proofs.Outcomes as outcomes
use Rattle.lj_session.proofs.Outcomes.{read-step}
use Rattle.lj_session.proofs.Writing.{Writes, with_live, writes, none_pending, totals_kept, reached_as, done_at, absent}
use Rattle.lj_session.proofs.state.UserState.reverse.Goals.{After-reverse}
use Rattle.lj_session.proofs.state.UserState.reverse.Goals as goal

-- what is written
wrote : (c : After-reverse) → Writes c.self.inside c.args.self.now c.args.name (session_of_kept c.session.inside)
    (with_live (session_of_kept c.session.inside) c.reverse.new.self)
    (c.get_mut.follows.lender (with_live (session_of_kept c.session.inside) c.reverse.new.self)).entries
wrote c = writes c.args.name c.self.invariant c.self.view_is (ap Some c.session.view_is ∙ c.in-Some.ensures.value)
    (c.get_mut.follows.holds (with_live (session_of_kept c.session.inside) c.reverse.new.self)).0

pub returns-in_default-clause-performs : goal.returns-in_default-clause-performs
returns-in_default-clause-performs c = absent c.self.invariant c.self.view_is c.args.name c.in_default.ensures.value _ _ (λ none. none)

pub invariant_of-self-2 : goal.invariant_of-self-2
invariant_of-self-2 c =
    let wrote = wrote (goal.at.invariant_of-self-2 c).After-reverse in record {
      counted = totals_kept wrote c.reverse.ensures.count refl;
      reached = reached_as wrote _ _ _
          (outcomes.reverse c.args.self.now c.args.name (session_of_kept c.session.inside) wrote.found (none_pending wrote c.requires))
          (ap (with_live (session_of_kept c.session.inside)) c.reverse.ensures.value);
    }

pub returns-clause-performs : goal.returns-clause-performs
returns-clause-performs c =
    let wrote = wrote (goal.at.returns-clause-performs c).After-reverse in
    done_at wrote _ (reply.Reversed c.args.name) _ _ _
    (outcomes.reverse c.args.self.now c.args.name (session_of_kept c.session.inside) wrote.found (none_pending wrote c.requires))
    (read-step c.step-step.result c.step-step.ensures.most
    ∙ (c.step-step.ensures.value ∙ ap (λ (l : Sim). l.sim.step) c.reverse.ensures.value))
    (ap (with_live (session_of_kept c.session.inside)) c.reverse.ensures.value)
