use Rattle.lj_session.proofs.Waiting.{rested_user}
use Rattle.lj_session.proofs.owner_laws.restart_keeps_user.Goals as goal

pub returns : goal.returns
returns c = rested_user
