use Rattle.lj_wire.proofs.Alone.{as_items}
use Rattle.lj_wire.proofs.stream_laws.commands_are_items.Goals as goal

pub returns : goal.returns
returns c = as_items
