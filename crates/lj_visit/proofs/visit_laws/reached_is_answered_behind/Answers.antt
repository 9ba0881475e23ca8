use Rattle.lj_visit.proofs.Behind.{behind_reached}
use Rattle.lj_visit.proofs.visit_laws.reached_is_answered_behind.Goals as goal

pub returns : goal.returns
returns c = behind_reached c.commands_are_items.ensures
