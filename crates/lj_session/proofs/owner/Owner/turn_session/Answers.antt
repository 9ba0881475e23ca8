use Rattle.std.proofs.Common.{◌≡◌, ◌<◌, true, false, List, ℕ, Option, Some, None, refl, ◌∙◌, ap, sym, subst, arith, rules}
use Rattle.std.proofs.lemmas.Bool.{false≢true}
use Rattle.std.specs.Prelude.{IfSome}
use Rattle.lj_session.specs.declared.command.Command.{Command}
use Rattle.lj_session.specs.KeptOwners.{owner_of_kept}
use Rattle.lj_session.specs.Owner.{Owner, IsLastTurn, IsReplied, is_waited_for, state_turned}
use Rattle.lj_session.specs.OwnerCalls.{KeptByTurn}
use Rattle.lj_session.specs.UserState.{UserState, IsAtWork, IsIdleIn, OtherSessionsKept, is_whole_in, live_session, pending_in, with_step_finished, turns_before, user_of}
use Rattle.lj_session.proofs.Others.{others-changed, settled-measured, measured-unrefused, on_refusal}
use Rattle.lj_session.proofs.Passing.{forces, others-closed, rests-closed}
use Rattle.lj_session.proofs.OwnerSteps.{turns-kept, turns-some, unwaited-pending, unwaited-work, unwaited-apart, pending-apart}
use Rattle.lj_session.proofs.Turned.{measured-whole, measured-last, measured-replied, measured-work}
use Rattle.lj_session.proofs.Turned.{passed-whole, passed-work, passed-last, passed-more, passed-rests, passed-others}
use Rattle.lj_session.proofs.owner.Owner.turn_session.Goals.{After-pending, After-begin, Then-pending-eq0}
use Rattle.lj_session.proofs.owner.Owner.turn_session.Goals as goal

same_Some : (a b : List ℕ) → Some a ≡ Some b → a ≡ b
same_Some a b e = cc

-- the step is whole, and nothing waits for the session
whole : (c : goal.After-finish_step-arg-1) → is_whole_in c.self.inside.state c.args.name.now ≡ true
whole c = ap (λ (owner : Owner). is_whole_in owner.state c.args.name.now) c.self.view_is ∙ c.requires

unwaited : (c : goal.After-finish_step-arg-1) → is_waited_for c.self.inside.waiting c.args.name.now ≡ false
unwaited c = ap (λ (owner : Owner). is_waited_for owner.waiting c.args.name.now) c.self.view_is
    ∙ sym c.is_waited_for.ensures ∙ c.if-not-is_waited_for.true

pub finish_step-requires-clause-pending : goal.finish_step-requires-clause-pending
finish_step-requires-clause-pending c =
    unwaited-pending c.self.inside.waiting c.self.inside.state c.args.name.now (unwaited c) (whole c) c.self.invariant.at_work

pub finish_step-requires-clause-whole : goal.finish_step-requires-clause-whole
finish_step-requires-clause-whole c = λ session there.
    forces c.self.inside.waiting c.self.inside.state c.args.name.now (whole c) c.self.invariant.at_work
    (finish_step-requires-clause-pending c) session there

pub invariant_of-self : goal.invariant_of-self
invariant_of-self c =
    let old = c.self.inside.state in
    let waiting = c.self.inside.waiting in
    let not = ap (λ (owner : Owner). is_waited_for owner.waiting c.args.name.now) c.self.view_is
    ∙ sym c.is_waited_for.ensures ∙ c.if-not-is_waited_for.true in record {
      at_work = subst (λ (state : UserState). IsAtWork waiting state) (sym c.finish_step.ensures.passed)
          (unwaited-work waiting old c.args.name.now not c.self.invariant.at_work);
      some = turns-some waiting old c.finish_step.new.self (λ command is. turns-kept old c.finish_step.new.self command
          c.finish_step.ensures.user (λ other waits. ap (λ (state : UserState). pending_in state other) c.finish_step.ensures.passed
          ∙ pending-apart old c.args.name.now other with_step_finished (unwaited-apart command c.args.name.now other waits
          (subst (λ (w : Option Command). is_waited_for w c.args.name.now ≡ false) is not)))) c.self.invariant.some;
    }

pub returns-then-not-is_waited_for-clause-kept : goal.returns-then-not-is_waited_for-clause-kept
returns-then-not-is_waited_for-clause-kept c = record {
  others = λ other apart. ap (λ (state : UserState). live_session state other) c.finish_step.ensures.passed
      ∙ others-changed c.self.inside.state c.args.name.now with_step_finished other (λ e. apart (same_Some c.args.name.now other e))
      ∙ ap (λ (owner : Owner). live_session owner.state other) c.self.view_is;
  number = search rules;
  quota = search rules;
}

-- the step is whole, and a command waits for the session
whole_for : (c : After-pending) → is_whole_in c.self.inside.state c.args.name.now ≡ true
whole_for c = ap (λ (owner : Owner). is_whole_in owner.state c.args.name.now) c.self.view_is ∙ c.requires

waited_for : (c : After-pending) → is_waited_for c.self.inside.waiting c.args.name.now ≡ true
waited_for c = ap (λ (owner : Owner). is_waited_for owner.waiting c.args.name.now) c.self.view_is
    ∙ sym c.is_waited_for.ensures ∙ c.if-not-is_waited_for.false

none : (c : Then-pending-eq0) → pending_in c.self.inside.state c.args.name.now ≡ 0
none c = sym c.pending.ensures ∙ c.if-pending-eq0.true

some_of : (pending found : ℕ) → (found ≡ 0 → ⊥) → found ≡ pending → 0 < pending
some_of pending found some is = omega (arith, some, is)

pub measured-reply-requires-clause-whole : goal.measured-reply-requires-clause-whole
measured-reply-requires-clause-whole c = λ session there.
    let p = goal.at.measured-reply-requires-clause-whole c in
    measured-whole (owner_of_kept c.self.inside) c.args.name.now c.in_ok-command.command c.in_ok-command.ensures.value
    (waited_for p.After-pending) c.self.invariant.at_work (whole_for p.After-pending) (none p.Then-pending-eq0) session
    (ap (live_session c.self.inside.state) (sym c.copy.ensures) ∙ there)

pub invariant_of-self-then-pending-eq0 : goal.invariant_of-self-then-pending-eq0
invariant_of-self-then-pending-eq0 c =
    let p = goal.at.invariant_of-self-then-pending-eq0 c in record {
      at_work = subst (λ (w : Option Command). IsAtWork w c.close_step.new.self) (sym c.take.ensures.after)
          (subst (λ (o : UserState). IsAtWork None o) (sym c.close_step.ensures.closed)
          (measured-work (owner_of_kept c.self.inside) c.args.name.now c.in_ok-command.command c.in_ok-command.ensures.value
          (waited_for p.After-pending) c.self.invariant.at_work (whole_for p.After-pending) (none p.Then-pending-eq0)));
      some = subst (λ (w : Option Command). IfSome w (λ command. 0 < turns_before c.close_step.new.self command))
          (sym c.take.ensures.after) tt;
    }

pub returns-then-pending-eq0-clause-last : goal.returns-then-pending-eq0-clause-last
returns-then-pending-eq0-clause-last c =
    let p = goal.at.returns-then-pending-eq0-clause-last c in (
      λ _. subst (λ (owner : Owner). IsLastTurn c.args.name.now owner) c.self.view_is
          (measured-last (owner_of_kept c.self.inside) c.args.name.now c.in_ok-command.command c.in_ok-command.ensures.value
          (waited_for p.After-pending) c.self.invariant.at_work (whole_for p.After-pending) (none p.Then-pending-eq0)),
      λ _. refl,
    )

pub returns-then-pending-eq0-clause-answered : goal.returns-then-pending-eq0-clause-answered
returns-then-pending-eq0-clause-answered c =
    let p = goal.at.returns-then-pending-eq0-clause-answered c in record {
      replied = subst (λ (owner : Owner). IsReplied owner c.measured-reply.result (user_of c.close_step.new.self)) c.self.view_is
          (measured-replied (owner_of_kept c.self.inside) c.args.name.now c.in_ok-command.command c.in_ok-command.ensures.value
          (waited_for p.After-pending) c.self.invariant.at_work (whole_for p.After-pending) (none p.Then-pending-eq0)
          c.close_step.new.self c.copy.result c.measured-reply.result c.copy.ensures c.measured-reply.ensures
          c.close_step.ensures.user);
      idle = search rules;
      settled =
          settled-measured c.self.inside.state c.close_step.new.self c.copy.result c.measured-reply.result c.measured-reply.ensures;
      rests = subst (λ (o : UserState). IsIdleIn o c.args.name.now) (sym c.close_step.ensures.closed)
          (rests-closed c.self.inside.state c.args.name.now (none p.Then-pending-eq0));
      refused = measured-unrefused _ c.self.inside.state c.copy.result c.measured-reply.result c.measured-reply.ensures;
    }

pub returns-then-pending-eq0-clause-kept : goal.returns-then-pending-eq0-clause-kept
returns-then-pending-eq0-clause-kept c = record {
  others = subst (λ (owner : Owner). OtherSessionsKept c.args.name.now owner.state c.close_step.new.self) c.self.view_is
      (subst (λ (o : UserState). OtherSessionsKept c.args.name.now c.self.inside.state o) (sym c.close_step.ensures.closed)
      (others-closed c.self.inside.state c.args.name.now));
  number = search rules;
  quota = search rules;
}

pub finish_step-requires-2-clause-whole : goal.finish_step-requires-2-clause-whole
finish_step-requires-2-clause-whole c =
    let p = goal.at.finish_step-requires-2-clause-whole c in
    passed-whole (owner_of_kept c.self.inside) c.args.name.now c.in_ok-command.command c.in_ok-command.ensures.value
    (waited_for p.After-pending) c.self.invariant.at_work (whole_for p.After-pending) (some_of _ _ c.if-pending-eq0.false c.pending.ensures)

pub invariant_of-self-2 : goal.invariant_of-self-2
invariant_of-self-2 c =
    let p = goal.at.invariant_of-self-2 c in record {
      at_work = subst (λ (w : Option Command). IsAtWork w c.finish_step-2.new.self) (sym c.take.ensures.after)
          (passed-work (owner_of_kept c.self.inside) c.args.name.now c.in_ok-command.command c.in_ok-command.ensures.value
          (waited_for p.After-pending) c.self.invariant.at_work (whole_for p.After-pending) (some_of _ _ c.if-pending-eq0.false c.pending.ensures)
          c.finish_step-2.new.self c.finish_step-2.ensures.passed);
      some = subst (λ (w : Option Command). IfSome w (λ command. 0 < turns_before c.finish_step-2.new.self command))
          (sym c.take.ensures.after) tt;
    }

-- the other sessions stay, and so do the number of the user and the quota
kept : (c : After-begin) → is_waited_for c.self.inside.waiting c.args.name.now ≡ true
    → is_whole_in c.self.inside.state c.args.name.now ≡ true
    → KeptByTurn c.args.name.now c.args.self.now c.begin.new.self
kept c waited whole = record {
  others = subst (λ (owner : Owner). OtherSessionsKept c.args.name.now owner.state c.begin.new.self.state) c.self.view_is
      (passed-others (owner_of_kept c.self.inside) c.args.name.now c.in_ok-command.command c.in_ok-command.ensures.value
      waited c.self.invariant.at_work whole (some_of _ _ c.if-pending-eq0.false c.pending.ensures)
      c.finish_step-2.new.self c.finish_step-2.ensures.passed c.begin.new.self.state c.begin.ensures.kept.others);
  number = search rules;
  quota = search rules;
}

pub returns-in-Answered-clause-last : goal.returns-in-Answered-clause-last
returns-in-Answered-clause-last c =
    let p = goal.at.returns-in-Answered-clause-last c in (
      λ _. subst (λ (owner : Owner). IsLastTurn c.args.name.now owner) c.self.view_is
          (passed-last (owner_of_kept c.self.inside) c.args.name.now c.in_ok-command.command c.in_ok-command.ensures.value
          (waited_for p.After-pending) c.self.invariant.at_work (whole_for p.After-pending) (some_of _ _ c.if-pending-eq0.false c.pending.ensures)
          c.finish_step-2.new.self c.finish_step-2.ensures.passed c.in-Answered.ensures.answered.at_once),
      λ _. refl,
    )

pub returns-in-Answered-clause-answered : goal.returns-in-Answered-clause-answered
returns-in-Answered-clause-answered c =
    let p = goal.at.returns-in-Answered-clause-answered c in record {
      replied = search rules;
      idle = c.in-Answered.ensures.answered.idle;
      settled = c.in-Answered.ensures.answered.settled;
      rests =
          passed-rests (owner_of_kept c.self.inside) c.args.name.now c.in_ok-command.command c.in_ok-command.ensures.value
          (waited_for p.After-pending) c.self.invariant.at_work (whole_for p.After-pending) (some_of _ _ c.if-pending-eq0.false c.pending.ensures)
          c.finish_step-2.new.self c.finish_step-2.ensures.passed c.begin.new.self.state c.in-Answered.ensures.answered.at_once
          c.in-Answered.ensures.answered.steps;
      refused =
          on_refusal c.in-Answered.reply (λ same. ap (λ (owner : Owner). owner.state) same ∙ c.finish_step-2.ensures.passed
          ∙ ap (λ (owner : Owner). state_turned c.args.name.now owner.state) c.self.view_is) c.in-Answered.ensures.unchanged;
    }

pub returns-in-Answered-clause-kept : goal.returns-in-Answered-clause-kept
returns-in-Answered-clause-kept c =
    let p = goal.at.returns-in-Answered-clause-kept c in
    kept p.After-begin (waited_for p.After-pending) (whole_for p.After-pending)

pub returns-in-Running-clause-last : goal.returns-in-Running-clause-last
returns-in-Running-clause-last c =
    let p = goal.at.returns-in-Running-clause-last c in (
      λ never. absurd (false≢true never),
      λ last.
          absurd (passed-more (owner_of_kept c.self.inside) c.args.name.now c.in_ok-command.command c.in_ok-command.ensures.value
          (waited_for p.After-pending) c.self.invariant.at_work (whole_for p.After-pending) (some_of _ _ c.if-pending-eq0.false c.pending.ensures)
          c.finish_step-2.new.self c.finish_step-2.ensures.passed c.in-Running.ensures.running.takes_turns
          (subst (λ (owner : Owner). IsLastTurn c.args.name.now owner) (sym c.self.view_is) last)),
    )

pub returns-in-Running-clause-kept : goal.returns-in-Running-clause-kept
returns-in-Running-clause-kept c =
    let p = goal.at.returns-in-Running-clause-kept c in
    kept p.After-begin (waited_for p.After-pending) (whole_for p.After-pending)
