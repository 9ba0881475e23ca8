use Rattle.std.proofs.Common.{refl, ap, ◌∙◌}
use Rattle.lj_session.specs.UserState.{index_waited_for}
use Rattle.lj_session.specs.Turns.{waits_for}
use Rattle.lj_session.proofs.Holding.{none-before}
use Rattle.lj_session.proofs.state.UserState.perform_from.Goals as goal

pub show-requires-clause-index : goal.show-requires-clause-index
unfolding waits_for
show-requires-clause-index c = rw c.copy.ensures (c.requires.index ∙ ap (index_waited_for c.args.self.now) c.in-Show.is)

pub show-requires-clause-pending : goal.show-requires-clause-pending
unfolding waits_for
show-requires-clause-pending c =
    rw c.copy.ensures (none-before c.args.self.now c.args.command.now c.in-Show.name (rw c.in-Show.is refl) c.requires.at_once)
