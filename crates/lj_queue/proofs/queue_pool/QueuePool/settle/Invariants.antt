use Rattle.std.specs.Vec.Iter.{into_iter_items}
use Rattle.lj_queue.specs.Settling.{GathersPasses}
use Rattle.lj_queue.proofs.queue_pool.QueuePool.settle.Given as goal

abbrev pub invariant-loop-pass : goal.invariant-loop-pass
invariant-loop-pass g l =
    GathersPasses g.L.PoolIdentity.table g.L.PoolIdentity.passes l.fn.passes.items (into_iter_items l.pass-iterator) l.all
    l.settled.pushed l.settled.popped
