use Rattle.std.proofs.Common.{◌≡◌, ◌≤◌, ◌^◌, Some, unsigned_abs, length, refl, sym, ap, subst, ◌∙◌}
use Rattle.std.specs.List.{AllByRecursion}
use Rattle.lj_step.specs.Sim.{Sim}
use Rattle.lj_step.specs.Motion.{Simulation}
use Rattle.lj_step.specs.OpenSteps.{with_step_closed}
use Rattle.lj_branch.specs.Named.{value_named}
use Rattle.lj_session.specs.declared.reply.Reply.TheVariants as reply
use Rattle.lj_session.specs.KeptSessions.{session_of_kept}
use Rattle.lj_session.specs.UserState.{HasCount, settled_session}
use Rattle.lj_session.proofs.Counts.{counts-named}
use Rattle.lj_session.proofs.Outcomes as outcomes
use Rattle.lj_session.proofs.Outcomes.{read-step}
use Rattle.lj_session.proofs.Reach.{none_pending_near}
use Rattle.lj_session.proofs.Results.{performs-refused, on_err, some-with}
use Rattle.lj_session.proofs.Writing.{Writes, with_live, writes, absent, unchanged, still, no_branch, none_pending}
use Rattle.lj_session.proofs.Writing.{totals_kept, reached_as, done_at}
use Rattle.lj_session.proofs.state.UserState.restore.Goals.{After-restore_into, In_ok-restore_into}
use Rattle.lj_session.proofs.state.UserState.restore.Goals as goal

-- what is written
wrote : (c : After-restore_into) → Writes c.self.inside c.args.self.now c.args.name (session_of_kept c.session.inside)
    (with_live (session_of_kept c.session.inside) c.restore_into.new.sim)
    (c.get_mut.follows.lender (with_live (session_of_kept c.session.inside) c.restore_into.new.sim)).entries
wrote c = writes c.args.name c.self.invariant c.self.view_is (ap Some c.session.view_is ∙ c.in-Some.ensures.value)
    (c.get_mut.follows.holds (with_live (session_of_kept c.session.inside) c.restore_into.new.sim)).0

-- what was saved, to which the simulation is put back
saved : (c : In_ok-restore_into) → (sim : Simulation) × (value_named c.args.branch c.session.inside.branches ≡ Some sim)
    × (c.restore_into.new.sim ≡ with_step_closed c.session.inside.sim sim)
saved c =
    some-with (λ sim. c.restore_into.new.sim ≡ with_step_closed c.session.inside.sim sim) (value_named c.args.branch c.session.inside.branches)
    (c.in_ok-restore_into.ensures.found.0 refl) c.in_ok-restore_into.ensures.restored

-- it has as many atoms as before
count : (c : In_ok-restore_into) → length c.restore_into.new.sim.sim.cur ≡ length c.session.inside.sim.sim.cur
count c =
    let saved = saved c in
    ap (λ (l : Sim). length l.sim.cur) saved.2
    ∙ counts-named (length c.session.inside.sim.sim.cur) c.args.branch c.session.inside.branches saved.0 c.session.invariant.saved saved.1

pub returns-in_default-clause-performs : goal.returns-in_default-clause-performs
returns-in_default-clause-performs c = absent c.self.invariant c.self.view_is c.args.name c.in_default.ensures.value _ _ (λ none. none)

pub restore_into-requires : goal.restore_into-requires
restore_into-requires c = λ sim saved.
    counts-named (length c.session.inside.sim.sim.cur) c.args.branch c.session.inside.branches sim c.session.invariant.saved saved

pub invariant_of-self-in_err-restore_into : goal.invariant_of-self-in_err-restore_into
invariant_of-self-in_err-restore_into c =
    still (wrote (goal.at.invariant_of-self-in_err-restore_into c).After-restore_into)
    (ap (λ l. settled_session (with_live (session_of_kept c.session.inside) l)) c.in_err-restore_into.ensures.unchanged) _ refl refl

pub returns-in_err-restore_into-clause-performs : goal.returns-in_err-restore_into-clause-performs
returns-in_err-restore_into-clause-performs c =
    performs-refused c.args.self.now _ _ c.from_residual.result _ c.from_residual.ensures.1
    (no_branch (wrote (goal.at.returns-in_err-restore_into-clause-performs c).After-restore_into) c.args.branch c.in_err-restore_into.ensures.found.1).0

pub returns-in_err-restore_into-clause-unchanged : goal.returns-in_err-restore_into-clause-unchanged
returns-in_err-restore_into-clause-unchanged c =
    on_err c.from_residual.result (unchanged (wrote (goal.at.returns-in_err-restore_into-clause-unchanged c).After-restore_into)
    (ap (with_live (session_of_kept c.session.inside)) c.in_err-restore_into.ensures.unchanged))

pub invariant_of-session-2 : goal.invariant_of-session-2
invariant_of-session-2 c =
    let p = goal.at.invariant_of-session-2 c in
    let same = count p.In_ok-restore_into in
    let sim = c.restore_into.new.sim.sim in record {
      symbols = c.session.invariant.symbols ∙ sym same;
      saved = subst (λ m. AllByRecursion (HasCount m) c.session.inside.branches) (sym same) c.session.invariant.saved;
      near = none_pending_near sim.step sim.dir c.session.inside.pending (none_pending (wrote p.After-restore_into) c.requires)
          (subst (λ z. unsigned_abs z ≤ 10 ^ 12) c.step-step.ensures.value c.step-step.ensures.most);
      few = c.session.invariant.few;
    }

pub invariant_of-self-2 : goal.invariant_of-self-2
invariant_of-self-2 c =
    let session = session_of_kept c.session.inside in
    let p = goal.at.invariant_of-self-2 c in
    let wrote = wrote p.After-restore_into in
    let saved = saved p.In_ok-restore_into in record {
      counted = totals_kept wrote (count p.In_ok-restore_into) refl;
      reached = reached_as wrote _ _ _
          (outcomes.restore c.args.self.now c.args.name session wrote.found (none_pending wrote c.requires) c.args.branch saved.0 saved.1)
          (ap (with_live (session_of_kept c.session.inside)) saved.2);
    }

pub returns-clause-performs : goal.returns-clause-performs
returns-clause-performs c =
    let session = session_of_kept c.session.inside in
    let p = goal.at.returns-clause-performs c in
    let wrote = wrote p.After-restore_into in
    let saved = saved p.In_ok-restore_into in
    done_at wrote _ (reply.Restored c.args.name c.args.branch) _ _ _
    (outcomes.restore c.args.self.now c.args.name session wrote.found (none_pending wrote c.requires) c.args.branch saved.0 saved.1)
    (read-step c.step-step.result c.step-step.ensures.most ∙ (c.step-step.ensures.value ∙ ap (λ (l : Sim). l.sim.step) saved.2))
    (ap (with_live (session_of_kept c.session.inside)) saved.2)
