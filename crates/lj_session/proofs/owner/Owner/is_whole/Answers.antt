use Rattle.std.proofs.Common.{◌≡◌, true, ◌∙◌, sym, subst}
use Rattle.lj_session.specs.KeptOwners.{owner_of_kept}
use Rattle.lj_session.specs.Owner.{Owner, has_pending}
use Rattle.lj_session.proofs.OwnerSteps.{whole-pending}
use Rattle.lj_session.proofs.owner.Owner.is_whole.Goals as goal

pub returns-clause-pending : goal.returns-clause-pending
returns-clause-pending c = λ t. subst (λ (owner : Owner). has_pending owner c.args.name.now ≡ true) c.self.view_is
    (whole-pending (owner_of_kept c.self.inside) c.args.name.now (sym c.is_whole.ensures ∙ t) c.self.invariant.at_work)
