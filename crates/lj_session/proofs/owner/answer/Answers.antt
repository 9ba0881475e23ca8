use Rattle.std.proofs.Common.{◌≡◌, sym, subst, arith}
use Rattle.lj_session.specs.declared.command.Command.{Command}
use Rattle.lj_session.specs.UserState.{UserState, steps_before, turns_before}
use Rattle.lj_session.specs.Owner.{IsSettled}
use Rattle.lj_session.specs.Begins.{OnRefusal}
use Rattle.lj_session.proofs.AtWork.{at_work-performed, steps-performed}
use Rattle.lj_session.proofs.Others.{refused-unchanged, settled-performed}
use Rattle.lj_session.proofs.owner.answer.Goals as goal

none_pending : (state : UserState) (command : Command) → turns_before state command ≡ 0 → steps_before state command ≡ 0
none_pending state command none = omega (arith, none)

pub returns-clause-settled : goal.returns-clause-settled
returns-clause-settled c =
    subst (IsSettled c.perform_from.new.self) (sym c.replied.ensures)
    (settled-performed c.args.state.now c.perform_from.new.self c.args.command.now c.perform_from.result c.perform_from.ensures.performs
    (none_pending c.args.state.now c.args.command.now c.requires.at_once))

pub returns-clause-at_work : goal.returns-clause-at_work
returns-clause-at_work c =
    at_work-performed c.args.state.now c.perform_from.new.self c.args.command.now c.perform_from.result
    c.perform_from.ensures.performs c.perform_from.ensures.unchanged c.requires.at_work

pub returns-clause-steps : goal.returns-clause-steps
returns-clause-steps c =
    steps-performed c.args.state.now c.perform_from.new.self c.args.command.now c.perform_from.result
    c.perform_from.ensures.performs c.perform_from.ensures.unchanged

pub returns-clause-unchanged : goal.returns-clause-unchanged
returns-clause-unchanged c =
    subst (λ r. OnRefusal r (c.perform_from.new.self ≡ c.args.state.now)) (sym c.replied.ensures)
    (refused-unchanged (c.perform_from.new.self ≡ c.args.state.now) c.args.state.now c.perform_from.new.self c.args.command.now
    c.perform_from.result c.perform_from.ensures.performs c.perform_from.ensures.unchanged)
