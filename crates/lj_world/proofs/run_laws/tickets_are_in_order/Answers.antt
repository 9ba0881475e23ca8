use Rattle.lj_world.proofs.Values.{tickets_in_order}
use Rattle.lj_world.proofs.run_laws.tickets_are_in_order.Goals as goal

pub returns : goal.returns
returns c = tickets_in_order c.pending_command_laws.ensures
