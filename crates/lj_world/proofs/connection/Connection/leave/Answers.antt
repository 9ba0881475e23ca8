use Rattle.std.proofs.Common.{◌≡◌, sym, ap, ◌∙◌, subst, None, IsSomeAnd, slice_get}
use Rattle.lj_session.specs.UserState.{UserState, with_steps_restarted}
use Rattle.lj_session.specs.Owner.{Owner}
use Rattle.lj_access.specs.UserRows.{Ticket, HasEntered, with_row_changed, with_home}
use Rattle.lj_world.specs.Machine.{inside}
use Rattle.lj_world.specs.contracts.connection.Connection.{the_view}
use Rattle.lj_world.specs.Connections.{IsDone}
use Rattle.lj_world.specs.KnownConnections.{HasRow}
use Rattle.lj_world.specs.ConnectionStates.{state_of}
use Rattle.lj_world.proofs.ConnectionSteps.{none_there, leaves, has_entered, at_ok}
use Rattle.lj_world.proofs.connection.Connection.leave.Goals as goal

pub returns : goal.returns
returns c =
    let connection = the_view c.self.inside in
    let owns : connection.state ≡ inside c.in-Inside.owner = ap state_of c.in-Inside.is in
    let row : HasRow c.args.directory.now connection = subst (HasRow c.args.directory.now) (sym c.self.view_is) c.requires in
    let idle : c.in-Inside.owner.waiting ≡ None =
    none_there c.in-Inside.owner.waiting (sym c.is_waiting.ensures.value ∙ c.if-is_waiting.false) in
    let kept = rw c.in-Inside.is at c.self.invariant in
    let ticket : c.in-Some.ticket ≡ record { user = c.self.inside.user; number = c.self.inside.number } = cc in
    let P : Ticket → Type 0 = λ t. IsSomeAnd (slice_get c.args.directory.now t.user) (HasEntered t.number) in
    let entered : P c.in-Some.ticket =
    subst P (sym ticket) (has_entered connection c.args.directory.now c.in-Inside.owner owns row) in
    let home = at_ok c.leave-refused.result _ (c.leave-refused.ensures.entered.1 entered) c.leave-refused.ensures.home in
    let owner : c.in-Inside-replace.owner ≡ c.in-Inside.owner = cc in
    let state : c.into_state.result ≡ with_steps_restarted c.in-Inside.owner.state =
    c.into_state.ensures.state ∙ ap (λ (o : Owner). with_steps_restarted o.state) owner in
    let Q : Ticket → UserState → Type 0 =
    λ t s. c.leave-refused.new.self ≡ with_row_changed t.user (with_home s) c.args.directory.now in
    let now : Q (record { user = c.self.inside.user; number = c.self.inside.number }) (with_steps_restarted c.in-Inside.owner.state) =
    subst (λ t. Q t (with_steps_restarted c.in-Inside.owner.state)) ticket (subst (Q c.in-Some.ticket) state home) in
    rw (← c.self.view_is, now, c.replace.ensures.after)
    (leaves connection c.args.directory.now c.args.book.now c.withdraw.new.self c.in-Inside.owner owns idle
    (subst IsDone (sym c.self.view_is) (c.is_done.ensures.0 c.if-not-is_done.false)) c.withdraw.ensures)
