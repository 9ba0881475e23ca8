use Rattle.std.specs.Prelude.{length}
use Rattle.lj_queue.proofs.spares.Spares.clear.Given as goal

abbrev pub decreases-loop-dropped : goal.decreases-loop-dropped
decreases-loop-dropped g l = length l.list.results
