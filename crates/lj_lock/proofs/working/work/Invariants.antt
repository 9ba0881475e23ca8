use Rattle.std.specs.Prelude.{◌≤◌}
use Rattle.lj_lock.proofs.working.work.Given as goal

abbrev pub invariant-loop : goal.invariant-loop
invariant-loop g l =
    (goal.iterator-loop g).can_next l.iterator' × (goal.iterator-loop g).is_finite l.iterator' × (l.fn.share ≤ l.share)
