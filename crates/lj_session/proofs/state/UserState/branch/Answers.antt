use Rattle.std.proofs.Common.{◌≡◌, ◌+◌, Some, false, length, refl, sym, ap, ◌∙◌}
use Rattle.std.specs.Prelude.{is_some}
use Rattle.lj_branch.specs.Named.{value_named, with_value}
use Rattle.lj_quota.specs.declared.Over.TheVariants.{Branches}
use Rattle.lj_session.specs.Faults.{quota_refusal}
use Rattle.lj_session.specs.declared.reply.Reply.TheVariants as reply
use Rattle.lj_session.specs.KeptSessions.{session_of_kept}
use Rattle.lj_session.specs.UserState.{LiveSession, with_saved, as_session, settled_session, user_of}
use Rattle.lj_session.proofs.Entries.{length-new}
use Rattle.lj_session.proofs.Limits.{over-limit, same_over, one-over, one-room}
use Rattle.lj_session.proofs.Performing as performing
use Rattle.lj_session.proofs.Outcomes as outcomes
use Rattle.lj_session.proofs.Outcomes.{read-step}
use Rattle.lj_session.proofs.Results.{performs-refused, performs-starved, on_err, none-of, not-saved, is_some-counted}
use Rattle.lj_session.proofs.Writing.{Writes, writes, is_settled, none_pending, unchanged, totals_saved, absent, still}
use Rattle.lj_session.proofs.Writing.{reached_as, done_at}
use Rattle.lj_session.proofs.state.UserState.branch.Goals.{After-count_of, After-may_branch, In_ok-save}
use Rattle.lj_session.proofs.state.UserState.branch.Goals as goal

-- what is written
wrote : (c : After-count_of) (new : LiveSession) → Writes c.self.inside c.args.self.now c.args.name (session_of_kept c.session.inside) new
    (c.get_mut.follows.lender new).entries
wrote c new = writes c.args.name c.self.invariant c.self.view_is (ap Some c.session.view_is ∙ c.in-Some.ensures.value)
    (c.get_mut.follows.holds new).0

-- nothing is saved under the name yet
is_new : (c : After-may_branch) → is_some (value_named c.args.branch c.session.inside.branches) ≡ false
is_new c =
    is_some-counted c.args.branch c.session.inside.branches c.count_of.result c.count_of.ensures
    ∙ (sym c.is_some.ensures ∙ c.if-is_some.false)

-- then the simulation is
saved : (c : In_ok-save) → c.save.new.self ≡ with_value c.args.branch c.session.inside.sim.sim c.session.inside.branches
saved c = c.in_ok-save.ensures.saved ∙ ap (λ b. with_value b c.session.inside.sim.sim c.session.inside.branches) c.copy.ensures

pub returns-in_default-clause-performs : goal.returns-in_default-clause-performs
returns-in_default-clause-performs c = absent c.self.invariant c.self.view_is c.args.name c.in_default.ensures.value _ _ (λ none. none)

pub invariant_of-self-then-is_some : goal.invariant_of-self-then-is_some
invariant_of-self-then-is_some c =
    still (wrote (goal.at.invariant_of-self-then-is_some c).After-count_of c.in-Some.session.now) (ap settled_session (sym c.session.view_is)) _ refl refl

pub returns-then-is_some-clause-performs : goal.returns-then-is_some-clause-performs
returns-then-is_some-clause-performs c =
    let wrote = wrote (goal.at.returns-then-is_some-clause-performs c).After-count_of c.in-Some.session.now in
    performing.refused c.args.self.now _ _ _ (performing.branch-exists (user_of c.args.self.now)
    c.args.name false (as_session (session_of_kept c.session.inside)) (is_settled wrote c.requires) c.args.branch
    (is_some-counted c.args.branch c.session.inside.branches c.count_of.result c.count_of.ensures ∙ (sym c.is_some.ensures ∙ c.if-is_some.true)))

pub returns-then-is_some-clause-unchanged : goal.returns-then-is_some-clause-unchanged
returns-then-is_some-clause-unchanged c =
    unchanged (wrote (goal.at.returns-then-is_some-clause-unchanged c).After-count_of c.in-Some.session.now) (sym c.session.view_is)

pub invariant_of-self-in_err-may_branch : goal.invariant_of-self-in_err-may_branch
invariant_of-self-in_err-may_branch c =
    still (wrote (goal.at.invariant_of-self-in_err-may_branch c).After-count_of c.in-Some.session.now) (ap settled_session (sym c.session.view_is)) _ refl refl

pub returns-in_err-may_branch-clause-performs : goal.returns-in_err-may_branch-clause-performs
returns-in_err-may_branch-clause-performs c =
    let p = goal.at.returns-in_err-may_branch-clause-performs c in
    let over =
    over-limit (c.self.inside.used.branches + 1) c.self.inside.quota.branches c.in_err-may_branch.ensures.may.1 in
    let which = same_over c.in_err-may_branch.field-0.0 Branches (c.in_err-may_branch.ensures.over.1 over) in
    performs-refused c.args.self.now _ _ c.from_residual.result (quota_refusal c.in_err-may_branch.field-0.0)
    c.from_residual.ensures.1
    (rw which (performing.refused c.args.self.now _ _ _
    (performing.branch-over (user_of c.args.self.now) c.args.name false (as_session (session_of_kept c.session.inside))
    (is_settled (wrote p.After-count_of c.in-Some.session.now) c.requires) c.args.branch (is_new p.After-may_branch)
    (one-over c.self.inside c.args.self.now c.self.view_is c.self.invariant.counted (λ used. used.branches) (λ quota. quota.branches) over))))

pub returns-in_err-may_branch-clause-unchanged : goal.returns-in_err-may_branch-clause-unchanged
returns-in_err-may_branch-clause-unchanged c =
    on_err c.from_residual.result
    (unchanged (wrote (goal.at.returns-in_err-may_branch-clause-unchanged c).After-count_of c.in-Some.session.now) (sym c.session.view_is))

pub invariant_of-self-in_err-save : goal.invariant_of-self-in_err-save
invariant_of-self-in_err-save c =
    let session = session_of_kept c.session.inside in
    still (wrote (goal.at.invariant_of-self-in_err-save c).After-count_of (with_saved session c.save.new.self))
    (ap (λ l. settled_session (with_saved session l)) c.in_err-save.ensures.unchanged) _ refl refl

pub returns-in_err-save-clause-performs : goal.returns-in_err-save-clause-performs
returns-in_err-save-clause-performs c =
    let session = session_of_kept c.session.inside in
    let p = goal.at.returns-in_err-save-clause-performs c in
    let new = is_new p.After-may_branch in
    performs-refused c.args.self.now _ _ c.from_residual-in_err-save.result _ c.from_residual-in_err-save.ensures.1
    (performs-starved c.args.self.now _ _ _
    (not-saved c.in_err-save.field-0.0 (is_some (value_named c.copy.result session.saved)) c.in_err-save.ensures.exists.0
    (ap (λ b. is_some (value_named b session.saved)) c.copy.ensures ∙ new))
    (performing.branch-memory (user_of c.args.self.now) c.args.name (as_session session)
    (is_settled (wrote p.After-count_of session) c.requires) c.args.branch new
    (one-room c.self.inside c.args.self.now c.self.view_is c.self.invariant.counted (λ used. used.branches) (λ quota. quota.branches)
    (c.in_ok-may_branch.ensures.may.0 refl))))

pub returns-in_err-save-clause-unchanged : goal.returns-in_err-save-clause-unchanged
returns-in_err-save-clause-unchanged c =
    let session = session_of_kept c.session.inside in
    on_err c.from_residual-in_err-save.result
    (unchanged (wrote (goal.at.returns-in_err-save-clause-unchanged c).After-count_of (with_saved session c.save.new.self))
    (ap (with_saved session) c.in_err-save.ensures.unchanged))

pub invariant_of-self-2 : goal.invariant_of-self-2
invariant_of-self-2 c =
    let session = session_of_kept c.session.inside in
    let p = goal.at.invariant_of-self-2 c in
    let new = is_new p.After-may_branch in
    let saved = saved p.In_ok-save in
    let wrote = wrote p.After-count_of (with_saved session c.save.new.self) in record {
      counted = totals_saved wrote refl (ap length saved
          ∙ length-new c.args.branch session.saved session.live.sim (none-of (value_named c.args.branch session.saved) new));
      reached = reached_as wrote _ _ _
          (outcomes.branch c.args.self.now c.args.name session wrote.found (none_pending wrote c.requires)
          c.args.branch new (one-room c.self.inside c.args.self.now c.self.view_is c.self.invariant.counted (λ used. used.branches) (λ quota. quota.branches)
          (c.in_ok-may_branch.ensures.may.0 refl))) (ap (with_saved session) saved);
    }

pub returns-clause-performs : goal.returns-clause-performs
returns-clause-performs c =
    let session = session_of_kept c.session.inside in
    let p = goal.at.returns-clause-performs c in
    let wrote = wrote p.After-count_of (with_saved session c.save.new.self) in
    done_at wrote _ (reply.Branched c.args.name c.args.branch) _ _ _
    (outcomes.branch c.args.self.now c.args.name session wrote.found (none_pending wrote c.requires)
    c.args.branch (is_new p.After-may_branch)
    (one-room c.self.inside c.args.self.now c.self.view_is c.self.invariant.counted (λ used. used.branches) (λ quota. quota.branches)
    (c.in_ok-may_branch.ensures.may.0 refl)))
    (read-step c.step-step.result c.step-step.ensures.most ∙ c.step-step.ensures.value) (ap (with_saved session) (saved p.In_ok-save))
