use Rattle.lj_wire.proofs.Splitting.{splits_once}
use Rattle.lj_wire.proofs.stream_laws.one_splitting.Goals as goal

pub returns : goal.returns
returns c = splits_once
