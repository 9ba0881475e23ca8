use Rattle.std.proofs.Common.{[], ◌∷◌, refl, sym, ◌∙◌, subst}
use Rattle.lj_access.specs.UserRows.{Ticket}
use Rattle.lj_visit.specs.Events.{Happens}
use Rattle.lj_visit.specs.Events.Event.{entered, left}
use Rattle.lj_visit.proofs.Happening.{Happens-more, err_holds}
use Rattle.lj_visit.proofs.visiting.admit.Goals as goal

pub returns-then-is_err : goal.returns-then-is_err
returns-then-is_err g c =
    let failed = sym c.is_err.ensures.value ∙ c.if-is_err.true in
    let begun = err_holds c.welcome.result _ failed c.welcome.ensures.begun in
    let state = c.in-Ok.lent.state in
    let was = g.B.Backend.events c.args.backend.now in
    let inside = g.B.Backend.events c.enter.new.self in
    let is = g.B.Backend.events c.leave.new.self in
    let leaves = subst (λ (t : Ticket). Happens inside is (left t state ∷ [])) c.in-Ok.ensures.ticket c.leave.ensures in (
      refl,
      begun.0,
      begun.1,
      begun.2,
      err_holds c.welcome.result _ failed c.welcome.ensures.risen,
      state,
      c.holds_bytes.result,
      c.holds_bytes.ensures,
      Happens-more was inside is (entered c.args.ticket.ticket c.holds_bytes.result state ∷ [])
          (left c.args.ticket.ticket state ∷ []) c.in-Ok.ensures.entered leaves,
    )
