use Rattle.std.proofs.Common.{None, subst, sym}
use Rattle.lj_session.specs.UserState.{UserState, IsAtWork}
use Rattle.lj_session.proofs.AtWork.{at_work-rested}
use Rattle.lj_session.proofs.owner.Owner.new.Goals as goal

pub invariant_of-result : goal.invariant_of-result
invariant_of-result c = record {
  at_work = subst (λ (state : UserState). IsAtWork None state) (sym c.restart_steps.ensures.rested) (at_work-rested c.args.state);
  some = tt;
}
