use Rattle.std.proofs.Common.{Option, ◌∙◌, ap, subst}
use Rattle.lj_session.specs.declared.command.Command.{Command}
use Rattle.lj_session.specs.UserState.{IsAtWork}
use Rattle.lj_session.specs.Owner.{Owner}
use Rattle.lj_session.proofs.owner.Owner.begin_from.Goals as goal

pub answer-requires-clause-at_work : goal.answer-requires-clause-at_work
answer-requires-clause-at_work c =
    subst (λ (waiting : Option Command). IsAtWork waiting c.self.inside.state)
    (ap (λ (owner : Owner). owner.waiting) c.self.view_is ∙ c.requires.idle) c.self.invariant.at_work
