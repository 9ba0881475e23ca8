use Rattle.lj_world.proofs.AgreeingScripts.{scripts_agree}
use Rattle.lj_world.proofs.run_laws.agreeing_scripts_agree_in_texts.Goals as goal

pub returns : goal.returns
returns c = scripts_agree
