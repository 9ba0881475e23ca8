use Rattle.lj_wire.proofs.Turns.{told_alike}
use Rattle.lj_wire.proofs.stream_laws.alike_is_told.Goals as goal

pub returns : goal.returns
returns c = told_alike
