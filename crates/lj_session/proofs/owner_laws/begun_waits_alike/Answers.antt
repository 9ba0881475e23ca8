use Rattle.lj_session.proofs.Waiting.{begins_alike}
use Rattle.lj_session.proofs.owner_laws.begun_waits_alike.Goals as goal

pub returns : goal.returns
returns c = begins_alike
