use Rattle.std.proofs.Common.{◌≡◌, ap, arith, slice_get, Some, subst, sym, ◌∙◌}
use Rattle.std.specs.List.{remove}
use Rattle.lj_access.specs.Passing.{IsNextTicket, passed_over}
use Rattle.lj_access.specs.UserRows.{with_row_changed}
use Rattle.lj_access.proofs.Passing.{Passes, keeps_all, keeps_less, next_within, read_next}
use Rattle.lj_access.proofs.given_up.GivenUp.pass.Goals.{After-remove-ticket}
use Rattle.lj_access.proofs.given_up.GivenUp.pass.Goals as goal

-- the ticket that is taken out is the one that is next
taken : (c : After-remove-ticket) → (slice_get c.loop-at.self c.in-Some.at ≡ Some c.remove-ticket.result)
    × IsNextTicket c.loop-at.directory c.args.user c.remove-ticket.result
taken c =
    read_next c.loop-at.self c.self.inside.tickets.items c.in-Some.at c.loop-at.directory c.args.user c.remove-ticket.result
    c.self.view_is c.in-Some.ensures.next c.remove-ticket.ensures.value

pub loop-at-init : goal.loop-at-init
loop-at-init c = keeps_all c.args.user c.args.directory.now c.args.self.now

pub remove-ticket-requires : goal.remove-ticket-requires
remove-ticket-requires c =
    let items = c.self.inside.tickets.items in
    let next = c.in-Some.ensures.next in
    let within = next_within c.loop-at.self items c.in-Some.at c.loop-at.directory c.args.user c.self.view_is next in
    omega (arith, within)

pub pass_over-requires : goal.pass_over-requires
pass_over-requires c = (taken (goal.at.pass_over-requires c).After-remove-ticket).1.enters

pub loop-at-preserved : goal.loop-at-preserved
loop-at-preserved c =
    let next = taken (goal.at.loop-at-preserved c).After-remove-ticket in
    let over = c.pass_over.ensures ∙ ap (λ n. with_row_changed n passed_over c.loop-at.directory) next.1.own in
    let left = ap (λ others. remove others c.in-Some.at) (sym c.self.view_is) ∙ sym c.remove-ticket.ensures.items in
    subst (Passes c.args.user c.args.directory.now c.pass_over.new.directory c.args.self.now) left
    (keeps_less c.args.user c.args.directory.now c.loop-at.directory c.pass_over.new.directory c.args.self.now c.loop-at.self
    c.in-Some.at c.remove-ticket.result c.loop-at.invariant next.0 next.1 over)
