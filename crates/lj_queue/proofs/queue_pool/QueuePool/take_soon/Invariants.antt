use Rattle.std.specs.Prelude.{◌≡◌}
use Rattle.lj_queue.proofs.queue_pool.QueuePool.take_soon.Given as goal

abbrev pub invariant-loop : goal.invariant-loop
invariant-loop g l = record {
  pass : l.pass ≡ l.fn.pass;
}
