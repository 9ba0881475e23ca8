use Rattle.std.proofs.Common.{◌≡◌, ◌<◌, ◌≤◌, length, true, false}
use Rattle.lj_engine.specs.Coming.{GoesOn, tiles_coming}
use Rattle.lj_engine.proofs.running.poll_all.Given as goal

abbrev pub invariant-loop : goal.invariant-loop
invariant-loop g l = record {
  goes : GoesOn l.initial.owner (g.P.PoolEnd.seen l.initial.pool) l.owner (g.P.PoolEnd.seen l.pool);
  fewer : l.some ≡ true → tiles_coming l.owner < tiles_coming l.initial.owner;
  owes : length (g.P.PoolEnd.seen l.pool).owed ≤ length (g.P.PoolEnd.seen l.initial.pool).owed;
  counted : g.P.PoolEnd.uncounted l.initial.pool ≡ false → g.P.PoolEnd.uncounted l.pool ≡ false;
  own : g.P.PoolEnd.for_others l.pool l.initial.owner.number ≡ g.P.PoolEnd.for_others l.initial.pool l.initial.owner.number;
}
