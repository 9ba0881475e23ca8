use Rattle.std.proofs.Common.{◌≡◌, ℕ, take, true}
use Rattle.std.specs.List.{All}
use Rattle.lj_task.specs.Task.{Task}
use Rattle.lj_end.specs.Seen.{ArePosted, StaysClosed}
use Rattle.lj_end.proofs.pool.PoolEnd.post_some.Given as goal

abbrev pub invariant-loop-here : goal.invariant-loop-here
invariant-loop-here g l = record {
  posted : ArePosted (take l.here l.tasks) (g.Self.PoolEnd.seen l.initial.self) (g.Self.PoolEnd.seen l.self);
  kept : g.Self.PoolEnd.uncounted l.self ≡ g.Self.PoolEnd.uncounted l.initial.self;
  shown : g.Self.PoolEnd.uncounted l.initial.self ≡ true → g.Self.PoolEnd.last l.self ≡ g.Self.PoolEnd.last l.initial.self;
  stays : StaysClosed (g.Self.PoolEnd.seen l.initial.self) (g.Self.PoolEnd.seen l.self);
  own : (user : ℕ) → All (λ (task : Task). task.name.label.user ≡ user) l.tasks
      → g.Self.PoolEnd.for_others l.self user ≡ g.Self.PoolEnd.for_others l.initial.self user;
}
