use Rattle.lj_task.proofs.SameLemmas.{none_between}
use Rattle.lj_task.proofs.blocks.differences.Goals as goal

pub returns : goal.returns
returns c = none_between c.args.a c.args.b c.fits-a.0 c.fits-b.0
