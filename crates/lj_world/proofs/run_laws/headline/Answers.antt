use Rattle.lj_world.proofs.AgreeingScripts.{headline_from}
use Rattle.lj_world.proofs.run_laws.headline.Goals as goal

pub returns : goal.returns
returns c = headline_from c.replies_are_first_texts.ensures c.agreeing_scripts_agree_in_texts.ensures
