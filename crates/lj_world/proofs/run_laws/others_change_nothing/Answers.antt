use Rattle.lj_world.proofs.OthersUnchanged.{others_leave}
use Rattle.lj_world.proofs.run_laws.others_change_nothing.Goals as goal

pub returns : goal.returns
returns c = others_leave
