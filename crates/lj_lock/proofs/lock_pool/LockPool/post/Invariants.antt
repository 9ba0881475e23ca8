use Rattle.std.specs.Prelude.{◌≡◌}
use Rattle.lj_lock.proofs.lock_pool.LockPool.post.Given as goal

abbrev pub invariant-loop : goal.invariant-loop
invariant-loop g l = record {
  next : (goal.iterator-loop g).can_next l.iterator';
  finite : (goal.iterator-loop g).is_finite l.iterator';
  boxed : l.boxed ≡ l.fn.boxed;
}
