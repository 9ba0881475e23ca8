use Rattle.lj_wire.proofs.Alone.{reached_alone}
use Rattle.lj_wire.proofs.stream_laws.state_is_reached_alone.Goals as goal

pub returns : goal.returns
returns c = reached_alone c.commands_are_items.ensures c.args.state.now c.len.ensures.reached
