use Rattle.std.proofs.Common.{◌≤◌, ◌^◌, refl, unsigned_abs, subst, arith}
use Rattle.lj_session.proofs.Reach.{none_pending_near}
use Rattle.lj_session.proofs.live_session.LiveSession.new.Goals as goal

pub invariant_of-result : goal.invariant_of-result
invariant_of-result c = record {
  symbols = c.requires.symbols;
  saved = rw c.requires.branches tt;
  near = none_pending_near c.args.sim.sim.step c.args.sim.sim.dir 0 refl
      (subst (λ z. unsigned_abs z ≤ 10 ^ 12) c.step-most.ensures.value c.step-most.ensures.most);
  few = omega arith;
}
