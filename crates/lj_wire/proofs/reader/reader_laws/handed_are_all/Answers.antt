use Rattle.lj_wire.proofs.Handed.{are_all}
use Rattle.lj_wire.proofs.reader.reader_laws.handed_are_all.Goals as goal

pub returns : goal.returns
returns c = are_all
