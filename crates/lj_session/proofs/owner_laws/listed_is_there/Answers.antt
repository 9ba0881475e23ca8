use Rattle.lj_session.proofs.Listing.{listed}
use Rattle.lj_session.proofs.owner_laws.listed_is_there.Goals as goal

pub returns : goal.returns
returns c = listed
