use Rattle.lj_world.proofs.RunExists.{runs_exist}
use Rattle.lj_world.proofs.run_laws.each_list_has_a_run.Goals as goal

pub returns : goal.returns
returns c = runs_exist
