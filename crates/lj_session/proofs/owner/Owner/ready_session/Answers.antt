use Rattle.std.proofs.Common.{◌≡◌, true, List, ℕ, Some, ◌∙◌, ap, sym, subst}
use Rattle.std.specs.Option.{option_copied}
use Rattle.lj_session.specs.KeptOwners.{owner_of_kept}
use Rattle.lj_session.specs.Owner.{Owner, has_pending}
use Rattle.lj_session.specs.UserState.{is_whole_in, loaded_names}
use Rattle.lj_session.proofs.Firsts.{find-passes}
use Rattle.lj_session.proofs.OwnerSteps.{whole-pending}
use Rattle.lj_session.proofs.owner.Owner.ready_session.Goals as goal

-- the session that is found is whole
whole : (c : goal.After-copy) → is_whole_in c.self.inside.state c.copy.result ≡ true
whole c = find-passes (is_whole_in c.self.inside.state) (loaded_names c.self.inside.state) c.copy.result
    (sym c.first_whole.ensures ∙ ap option_copied c.in_ok-first_whole.was ∙ ap (λ (n : List ℕ). Some n) (sym c.copy.ensures))

pub returns-clause-whole : goal.returns-clause-whole
returns-clause-whole c = subst (λ (owner : Owner). is_whole_in owner.state c.copy.result ≡ true) c.self.view_is (whole c)

pub returns-clause-pending : goal.returns-clause-pending
returns-clause-pending c = subst (λ (owner : Owner). has_pending owner c.copy.result ≡ true) c.self.view_is
    (whole-pending (owner_of_kept c.self.inside) c.copy.result (whole c) c.self.invariant.at_work)
