use Rattle.lj_wire.proofs.Counts.{announced-most}
use Rattle.lj_wire.proofs.stream_laws.body_is_bounded.Goals as goal

pub returns : goal.returns
returns c = announced-most
