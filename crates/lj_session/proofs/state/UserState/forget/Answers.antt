use Rattle.std.proofs.Common.{◌≡◌, ◌+◌, Some, length, refl, ap, ◌∙◌}
use Rattle.lj_branch.specs.Named.{value_named}
use Rattle.lj_session.specs.KeptSessions.{session_of_kept}
use Rattle.lj_session.specs.UserState.{settled_session, with_saved}
use Rattle.lj_session.proofs.Counts.{counts-forgotten}
use Rattle.lj_session.proofs.Entries.{length-taken}
use Rattle.lj_session.proofs.Outcomes as outcomes
use Rattle.lj_session.proofs.Results.{performs-refused, on_err, some-of}
use Rattle.lj_session.proofs.Writing.{Writes, writes, absent, unchanged, still, no_branch}
use Rattle.lj_session.proofs.Writing.{totals_forgotten, one_saved, reached_as, done_as}
use Rattle.lj_session.proofs.state.UserState.forget.Goals.{After-forget, In_ok-forget}
use Rattle.lj_session.proofs.state.UserState.forget.Goals as goal

-- what is written
wrote : (c : After-forget) → Writes c.self.inside c.args.self.now c.args.name (session_of_kept c.session.inside)
    (with_saved (session_of_kept c.session.inside) c.forget.new.self)
    (c.get_mut.follows.lender (with_saved (session_of_kept c.session.inside) c.forget.new.self)).entries
wrote c = writes c.args.name c.self.invariant c.self.view_is (ap Some c.session.view_is ∙ c.in-Some.ensures.value)
    (c.get_mut.follows.holds (with_saved (session_of_kept c.session.inside) c.forget.new.self)).0

-- one simulation fewer is saved
fewer : (c : In_ok-forget) → length c.forget.new.self + 1 ≡ length c.session.inside.branches
fewer c =
    let saved = some-of (value_named c.args.branch c.session.inside.branches) (c.in_ok-forget.ensures.found.0 refl) in
    ap (λ l. length l + 1) c.in_ok-forget.ensures.taken ∙ length-taken c.args.branch c.session.inside.branches saved.0 saved.1

pub returns-in_default-clause-performs : goal.returns-in_default-clause-performs
returns-in_default-clause-performs c = absent c.self.invariant c.self.view_is c.args.name c.in_default.ensures.value _ _ (λ none. none)

pub invariant_of-session : goal.invariant_of-session
invariant_of-session c = record {
  symbols = c.session.invariant.symbols;
  saved = counts-forgotten (length c.session.inside.sim.sim.cur) c.args.branch c.forget.result c.session.inside.branches
      c.forget.new.self c.forget.ensures.taken c.forget.ensures.unchanged c.session.invariant.saved;
  near = c.session.invariant.near;
  few = c.session.invariant.few;
}

pub invariant_of-self-in_err-forget : goal.invariant_of-self-in_err-forget
invariant_of-self-in_err-forget c =
    still (wrote (goal.at.invariant_of-self-in_err-forget c).After-forget)
    (ap (λ l. settled_session (with_saved (session_of_kept c.session.inside) l)) c.in_err-forget.ensures.unchanged) _ refl refl

pub returns-in_err-forget-clause-performs : goal.returns-in_err-forget-clause-performs
returns-in_err-forget-clause-performs c =
    performs-refused c.args.self.now _ _ c.from_residual.result _ c.from_residual.ensures.1
    (no_branch (wrote (goal.at.returns-in_err-forget-clause-performs c).After-forget) c.args.branch c.in_err-forget.ensures.found.1).1

pub returns-in_err-forget-clause-unchanged : goal.returns-in_err-forget-clause-unchanged
returns-in_err-forget-clause-unchanged c =
    on_err c.from_residual.result (unchanged (wrote (goal.at.returns-in_err-forget-clause-unchanged c).After-forget)
    (ap (with_saved (session_of_kept c.session.inside)) c.in_err-forget.ensures.unchanged))

pub overflow_sub-self : goal.overflow_sub-self
overflow_sub-self c =
    let p = goal.at.overflow_sub-self c in one_saved (wrote p.After-forget) refl (fewer p.In_ok-forget)

pub invariant_of-self-2 : goal.invariant_of-self-2
invariant_of-self-2 c =
    let session = session_of_kept c.session.inside in
    let p = goal.at.invariant_of-self-2 c in
    let wrote = wrote p.After-forget in
    let saved = some-of (value_named c.args.branch session.saved) (c.in_ok-forget.ensures.found.0 refl) in record {
      counted = totals_forgotten wrote refl (fewer p.In_ok-forget);
      reached = reached_as wrote _ _ _ (outcomes.forget c.args.self.now c.args.name session wrote.found c.args.branch saved.0 saved.1)
          (ap (with_saved session) c.in_ok-forget.ensures.taken);
    }

pub returns-clause-performs : goal.returns-clause-performs
returns-clause-performs c =
    let session = session_of_kept c.session.inside in
    let wrote = wrote (goal.at.returns-clause-performs c).After-forget in
    let saved = some-of (value_named c.args.branch session.saved) (c.in_ok-forget.ensures.found.0 refl) in
    done_as wrote _ _ _ (outcomes.forget c.args.self.now c.args.name session wrote.found c.args.branch saved.0 saved.1)
    (ap (with_saved session) c.in_ok-forget.ensures.taken)
