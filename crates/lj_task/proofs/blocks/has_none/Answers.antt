use Rattle.std.proofs.Common.{slice_index}
use Rattle.lj_task.proofs.SameLemmas.{none_of_four}
use Rattle.lj_task.proofs.blocks.has_none.Goals as goal

pub returns : goal.returns
returns c = none_of_four (slice_index c.args.v 0) (slice_index c.args.v 1) (slice_index c.args.v 2) (slice_index c.args.v 3)
