use Rattle.std.proofs.Common.{sym, ap, subst}
use Rattle.lj_session.specs.UserState.{Reached, used_by}
use Rattle.lj_session.proofs.Reaching.{reached-empty}
use Rattle.lj_session.proofs.state.UserState.new.Goals as goal

pub invariant_of-result : goal.invariant_of-result
invariant_of-result c =
    let none = ap (λ es. record { quota = c.args.quota; sessions = es }) c.new.ensures.empty in
    record { counted = ap used_by (sym none); reached = subst Reached (sym none) (reached-empty c.args.quota) }
