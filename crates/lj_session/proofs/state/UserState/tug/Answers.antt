use Rattle.std.proofs.Common.{Some, false, length, refl, sym, ap, ◌∙◌, arith}
use Rattle.lj_step.specs.Sim.{Sim}
use Rattle.lj_session.specs.declared.reply.Reply.TheVariants as reply
use Rattle.lj_session.specs.KeptSessions.{session_of_kept}
use Rattle.lj_session.specs.UserState.{LiveSession, as_session, settled_session, user_of}
use Rattle.lj_session.proofs.Performing as performing
use Rattle.lj_session.proofs.Outcomes as outcomes
use Rattle.lj_session.proofs.Outcomes.{read-step}
use Rattle.lj_session.proofs.Writing.{Writes, with_live, writes, is_settled, none_pending, unchanged, absent, still, totals_kept}
use Rattle.lj_session.proofs.Writing.{reached_as, done_at}
use Rattle.lj_session.proofs.state.UserState.tug.Goals.{After-count}
use Rattle.lj_session.proofs.state.UserState.tug.Goals as goal

-- what is written
wrote : (c : After-count) (new : LiveSession) → Writes c.self.inside c.args.self.now c.args.name (session_of_kept c.session.inside) new
    (c.get_mut.follows.lender new).entries
wrote c new = writes c.args.name c.self.invariant c.self.view_is (ap Some c.session.view_is ∙ c.in-Some.ensures.value)
    (c.get_mut.follows.holds new).0

pub returns-in_default-clause-performs : goal.returns-in_default-clause-performs
returns-in_default-clause-performs c = absent c.self.invariant c.self.view_is c.args.name c.in_default.ensures.value _ _ (λ none. none)

pub invariant_of-self-then-atom-count : goal.invariant_of-self-then-atom-count
invariant_of-self-then-atom-count c =
    still (wrote (goal.at.invariant_of-self-then-atom-count c).After-count c.in-Some.session.now)
    (ap settled_session (sym c.session.view_is)) _ refl refl

pub returns-then-atom-count-clause-performs : goal.returns-then-atom-count-clause-performs
returns-then-atom-count-clause-performs c =
    let wrote = wrote (goal.at.returns-then-atom-count-clause-performs c).After-count c.in-Some.session.now in
    performing.refused c.args.self.now _ _ _ (performing.tug-no_atom (user_of c.args.self.now)
    c.args.name false (as_session (session_of_kept c.session.inside)) (is_settled wrote c.requires)
    c.args.atom c.args.by.x c.args.by.y c.args.by.z
    (outcomes.past c.args.atom _ (let n = c.count.ensures.value in let t = c.if-atom-count.true in omega (arith, n, t))))

pub returns-then-atom-count-clause-unchanged : goal.returns-then-atom-count-clause-unchanged
returns-then-atom-count-clause-unchanged c =
    unchanged (wrote (goal.at.returns-then-atom-count-clause-unchanged c).After-count c.in-Some.session.now) (sym c.session.view_is)

pub invariant_of-self-2 : goal.invariant_of-self-2
invariant_of-self-2 c =
    let session = session_of_kept c.session.inside in
    let wrote = wrote (goal.at.invariant_of-self-2 c).After-count (with_live session c.tug.new.self) in record {
      counted = totals_kept wrote (ap (λ (l : Sim). length l.sim.cur) c.tug.ensures) refl;
      reached = reached_as wrote _ _ _
          (outcomes.tug c.args.self.now c.args.name session wrote.found (none_pending wrote c.requires)
          c.args.atom c.args.by.x c.args.by.y c.args.by.z
          (outcomes.there c.args.atom _ (let n = c.count.ensures.value in let t = c.if-atom-count.false in omega (arith, n, t))))
          (ap (with_live session) c.tug.ensures);
    }

pub returns-clause-performs : goal.returns-clause-performs
returns-clause-performs c =
    let session = session_of_kept c.session.inside in
    let wrote = wrote (goal.at.returns-clause-performs c).After-count (with_live session c.tug.new.self) in
    done_at wrote _ (reply.Tugged c.args.name c.args.atom) _ _ _
    (outcomes.tug c.args.self.now c.args.name session wrote.found (none_pending wrote c.requires)
    c.args.atom c.args.by.x c.args.by.y c.args.by.z
    (outcomes.there c.args.atom _ (let n = c.count.ensures.value in let t = c.if-atom-count.false in omega (arith, n, t))))
    (read-step c.step-step.result c.step-step.ensures.most ∙ (c.step-step.ensures.value ∙ ap (λ (l : Sim). l.sim.step) c.tug.ensures))
    (ap (with_live session) c.tug.ensures)
