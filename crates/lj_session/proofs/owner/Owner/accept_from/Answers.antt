use Rattle.std.proofs.Common.{◌≡◌, Option, ◌∙◌, ap, refl, subst, sym}
use Rattle.lj_step.specs.OpenSteps.{tile_number_of}
use Rattle.lj_session.specs.UserState.{LiveSession, UserState, IsAtWork, pending_in, with_session_changed, with_tile_in}
use Rattle.lj_session.specs.declared.command.Command.{Command}
use Rattle.lj_session.specs.KeptOwners.{IsOwner}
use Rattle.lj_session.proofs.AtWork.{at_work-taken}
use Rattle.lj_session.proofs.OwnerSteps.{either-way, pending-changed, turns-kept, turns-some}
use Rattle.lj_session.proofs.owner.Owner.accept_from.Goals as goal

pub invariant_of-self : goal.invariant_of-self
invariant_of-self c = either-way c.accept_from.result c.accept_from.ensures.taken c.accept_from.ensures.unchanged taken unchanged
  where
    old : UserState
    old = c.self.inside.state

    waiting : Option Command
    waiting = c.self.inside.waiting

    tile : LiveSession → LiveSession
    tile = with_tile_in (tile_number_of c.args.done.now)

    taken : c.accept_from.new.self ≡ with_session_changed c.name.result.now.label.session tile old
        → IsOwner (record { state = c.accept_from.new.self; user = c.self.inside.user; waiting = waiting })
    taken is = record {
      at_work = subst (λ (state : UserState). IsAtWork waiting state) (sym is)
          (at_work-taken waiting old c.name.result.now.label.session (tile_number_of c.args.done.now) c.self.invariant.at_work);
      some = turns-some waiting old c.accept_from.new.self (λ command w. turns-kept old c.accept_from.new.self command c.accept_from.ensures.user
          (λ other waits. ap (λ (state : UserState). pending_in state other) is ∙ pending-changed old c.name.result.now.label.session tile (λ session. refl) other))
          c.self.invariant.some;
    }

    unchanged : c.accept_from.new.self ≡ old
        → IsOwner (record { state = c.accept_from.new.self; user = c.self.inside.user; waiting = waiting })
    unchanged is = subst (λ (state : UserState). IsOwner (record { state = state; user = c.self.inside.user; waiting = waiting }))
        (sym is) c.self.invariant
