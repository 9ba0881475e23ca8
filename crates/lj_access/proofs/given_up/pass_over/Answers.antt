use Rattle.std.proofs.Common.{ap, ◌∙◌, sym}
use Rattle.std.specs.Result.{IsOk}
use Rattle.lj_access.specs.UserRows.{with_home, with_row_changed}
use Rattle.lj_access.proofs.Passing.{entered_next, ok_holds, ok_is_no_error, passed_once}
use Rattle.lj_access.proofs.given_up.pass_over.Goals.{After-leave}
use Rattle.lj_access.proofs.given_up.pass_over.Goals as goal

-- the ticket has entered, so it may leave
leaves : (c : After-leave) → IsOk c.leave.result
leaves c =
    let entered = entered_next c.args.directory.now c.args.ticket.user c.args.ticket.number c.requires in
    c.leave.ensures.entered.1 (rw c.in-Some.ensures.lent entered)

pub unreachable-requires-then-is_err : goal.unreachable-requires-then-is_err
unreachable-requires-then-is_err c =
    ok_is_no_error c.leave.result (leaves (goal.at.unreachable-requires-then-is_err c).After-leave)
    (sym c.is_err.ensures.value ∙ c.if-is_err.true)

pub returns : goal.returns
returns c =
    let home = ok_holds c.leave.result _ (leaves (goal.at.returns c).After-leave) c.leave.ensures.home in
    home ∙ ap (with_row_changed c.args.ticket.user (with_home c.in-Some.state)) c.in-Some.ensures.lent
    ∙ passed_once c.args.directory.now c.args.ticket.user c.in-Some.state c.in-Some.ensures.state
