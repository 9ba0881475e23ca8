use Rattle.lj_task.proofs.SameLemmas.{none_in_either}
use Rattle.lj_task.proofs.blocks.either.Goals as goal

pub returns : goal.returns
returns c = none_in_either c.args.a c.args.b c.fits-a.0 c.fits-b.0
