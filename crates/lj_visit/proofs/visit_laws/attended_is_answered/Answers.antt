use Rattle.lj_visit.proofs.Folding.{answered}
use Rattle.lj_visit.proofs.visit_laws.attended_is_answered.Goals as goal

pub returns : goal.returns
returns c = answered
