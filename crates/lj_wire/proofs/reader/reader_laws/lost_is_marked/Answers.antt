use Rattle.lj_wire.proofs.Handed.{lost_answered}
use Rattle.lj_wire.proofs.reader.reader_laws.lost_is_marked.Goals as goal

pub returns : goal.returns
returns c = lost_answered
