use Rattle.std.specs.Prelude.{◌≡◌, ◌-◌, ◌≤◌}
use Rattle.lj_queue.specs.PoolPass.{PopsFor}
use Rattle.lj_queue.proofs.queue_worker.work_queue.Given as goal

abbrev pub invariant-loop : goal.invariant-loop
invariant-loop g l = record {
  next : (goal.iterator-loop g).can_next l.iterator';
  finite : (goal.iterator-loop g).is_finite l.iterator';
  number : l.counted.number ≡ l.fn.pass.number;
  rises : l.fn.share ≤ l.share;
  pops : PopsFor (l.share - l.fn.share) (g.G.Gate.sends_back l.fn.gate) l.fn.pass l.counted;
}
