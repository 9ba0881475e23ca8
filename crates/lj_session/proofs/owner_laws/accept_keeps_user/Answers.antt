use Rattle.lj_session.proofs.Waiting.{taken_user}
use Rattle.lj_session.proofs.owner_laws.accept_keeps_user.Goals as goal

pub returns : goal.returns
returns c = taken_user
