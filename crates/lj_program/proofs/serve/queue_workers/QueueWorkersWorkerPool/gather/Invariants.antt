use Rattle.std.specs.Prelude.{◌≡◌, ◌+◌, sum, vec_len}
use Rattle.std.specs.List.{sum_by}
use Rattle.lj_program.proofs.serve.queue_workers.QueueWorkersWorkerPool.gather.Given as goal

abbrev pub invariant-loop-share : goal.invariant-loop-share
invariant-loop-share g l =
    sum_by (λ state. state.0) l.states.items + sum l.shares.items ≡ sum_by (λ state. state.0) l.fn.states.items

abbrev pub decreases-loop-share : goal.decreases-loop-share
decreases-loop-share g l = vec_len l.states
