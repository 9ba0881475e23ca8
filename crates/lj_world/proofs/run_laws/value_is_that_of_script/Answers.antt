use Rattle.lj_world.proofs.Values.{value_is_of_script}
use Rattle.lj_world.proofs.run_laws.value_is_that_of_script.Goals as goal

pub returns : goal.returns
returns c = value_is_of_script c.mark_is_told.ensures c.pending_command_laws.ensures
