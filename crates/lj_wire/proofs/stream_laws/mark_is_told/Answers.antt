use Rattle.lj_wire.proofs.Marks.{marked}
use Rattle.lj_wire.proofs.stream_laws.mark_is_told.Goals as goal

pub returns : goal.returns
returns c = marked
