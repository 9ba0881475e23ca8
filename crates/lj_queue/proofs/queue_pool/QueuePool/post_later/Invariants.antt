use Rattle.std.specs.Prelude.{◌≡◌, ◌≤◌}
use Rattle.lj_queue.specs.NoRoom.{boxes_in}
use Rattle.lj_queue.proofs.queue_pool.QueuePool.post_later.Given as goal

abbrev pub invariant-loop : goal.invariant-loop
invariant-loop g l = record {
  next : (goal.iterator-loop g).can_next l.iterator';
  finite : (goal.iterator-loop g).is_finite l.iterator';
  poster : l.poster ≡ record l.fn.poster { next = l.poster.next };
  boxes : boxes_in l.fn.poster.next ≤ boxes_in l.poster.next;
}
