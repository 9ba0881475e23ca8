use Rattle.lj_visit.proofs.LastVisits.{one_prefix}
use Rattle.lj_visit.proofs.visit_laws.visits_are_one_prefix.Goals as goal

pub returns : goal.returns
returns c = one_prefix
