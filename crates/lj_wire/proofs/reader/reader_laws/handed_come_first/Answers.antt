use Rattle.lj_wire.proofs.Handed.{come_first}
use Rattle.lj_wire.proofs.reader.reader_laws.handed_come_first.Goals as goal

pub returns : goal.returns
returns c = come_first
