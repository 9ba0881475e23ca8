use Rattle.lj_wire.proofs.Turns.{waits_on, left_goes_on}
use Rattle.lj_wire.proofs.stream_laws.waiting_goes_on.Goals as goal

pub returns : goal.returns
returns c = record { whole = waits_on; left = left_goes_on }
