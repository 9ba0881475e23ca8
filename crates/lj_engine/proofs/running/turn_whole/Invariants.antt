use Rattle.std.proofs.Common.{◌≡◌, false}
use Rattle.lj_engine.specs.Coming.{GoesOn, turns_coming}
use Rattle.lj_engine.proofs.running.turn_whole.Given as goal

abbrev pub invariant-loop-name : goal.invariant-loop-name
invariant-loop-name g l = record {
  goes : GoesOn l.initial.owner (g.P.PoolEnd.seen l.initial.pool) l.owner (g.P.PoolEnd.seen l.pool);
  counted : g.P.PoolEnd.uncounted l.initial.pool ≡ false → g.P.PoolEnd.uncounted l.pool ≡ false;
  own : g.P.PoolEnd.for_others l.pool l.initial.owner.number ≡ g.P.PoolEnd.for_others l.initial.pool l.initial.owner.number;
}

abbrev pub decreases-loop-name : goal.decreases-loop-name
decreases-loop-name g l = turns_coming l.owner
