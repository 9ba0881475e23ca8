use Rattle.lj_wire.proofs.Bodies.{lost_answered}
use Rattle.lj_wire.proofs.stream_laws.body_missing_is_marked.Goals as goal

pub returns : goal.returns
returns c = lost_answered
