use Rattle.lj_session.proofs.Waiting.{posted_user}
use Rattle.lj_session.proofs.owner_laws.posted_keeps_user.Goals as goal

pub returns : goal.returns
returns c = posted_user
