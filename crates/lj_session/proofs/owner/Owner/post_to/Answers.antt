use Rattle.std.proofs.Common.{◌∙◌, ap, refl, slice_get, subst, sym}
use Rattle.lj_base.specs.declared.names.Label.{Label}
use Rattle.lj_session.specs.KeptOwners.{owner_of_kept}
use Rattle.lj_session.specs.Owner.{Owner, with_state}
use Rattle.lj_session.specs.UserState.{UserState, IsAtWork, loaded_names, pending_in, with_passed, with_session_changed}
use Rattle.lj_session.proofs.AtWork.{at_work-to}
use Rattle.lj_session.proofs.OwnerSteps.{pending-changed, turns-kept, turns-some}
use Rattle.lj_session.proofs.owner.Owner.post_to.Goals as goal

pub invariant_of-self : goal.invariant_of-self
invariant_of-self c =
    let old = c.self.inside.state in
    let waiting = c.self.inside.waiting in
    let name = c.requires.first.name in
    let passed = with_passed c.args.to in
    let posted = c.post_to.ensures.posted name (ap (λ (o : Owner). slice_get (loaded_names o.state) c.args.cursor.now.session) c.self.view_is ∙ c.requires.first.named) in record {
      at_work = subst (λ (state : UserState). IsAtWork waiting state) (sym posted)
          (at_work-to waiting old name c.args.to c.self.invariant.at_work);
      some = turns-some waiting old c.post_to.new.self (λ command is. turns-kept old c.post_to.new.self command c.post_to.ensures.user
          (λ other waits. ap (λ (state : UserState). pending_in state other) posted
          ∙ pending-changed old name passed (λ session. refl) other)) c.self.invariant.some;
    }

pub returns-clause-noted : goal.returns-clause-noted
returns-clause-noted c =
    let old = c.self.inside in
    let passed = with_passed c.args.to in
    let posted = c.post_to.ensures.posted c.requires.first.name
    (ap (λ (o : Owner). slice_get (loaded_names o.state) c.args.cursor.now.session) c.self.view_is ∙ c.requires.first.named) in
    ap (λ (state : UserState). with_state state (owner_of_kept old)) (posted
    ∙ ap (λ n. with_session_changed n passed old.state) (sym (ap (λ (l : Label). l.session) c.requires.first.label)))
    ∙ ap (λ (o : Owner). with_state (with_session_changed c.args.cursor.now.label.session passed o.state) o) c.self.view_is
