use Rattle.std.proofs.Common.{◌≡◌}
use Rattle.lj_queue.specs.PoolPass.{IsSameLink}
use Rattle.lj_queue.proofs.queue_link.QueueLinkPoolLinkQueueClosed.push_some.Given as goal

abbrev pub invariant-loop-here : goal.invariant-loop-here
invariant-loop-here g l = IsSameLink l.fn.self l.self × (l.self.last ≡ l.fn.self.last)
