use Rattle.lj_wire.proofs.Existence.{some_splitting}
use Rattle.lj_wire.proofs.stream_laws.some_splitting.Goals as goal

pub returns : goal.returns
returns c = some_splitting
