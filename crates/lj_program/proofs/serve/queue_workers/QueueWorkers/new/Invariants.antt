use Rattle.std.proofs.Common.{vec_len}
use Rattle.lj_program.proofs.serve.queue_workers.QueueWorkers.new.Given as goal

abbrev pub decreases-loop-share : goal.decreases-loop-share
decreases-loop-share g l = vec_len l.shares
