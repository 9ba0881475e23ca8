use Rattle.std.proofs.Common.{◌≡◌, refl, ap, ◌∙◌, subst}
use Rattle.lj_session.specs.UserState.{LiveSession, next_tile}
use Rattle.lj_session.proofs.live_session.LiveSession.next_tile.Goals as goal

pub returns-clause-value : goal.returns-clause-value
returns-clause-value c =
    let same = subst (λ (h : LiveSession). record h { passed = c.self.inside.passed } ≡ h) c.self.view_is refl in
    c.next_tile_past.ensures.value ∙ ap next_tile same
