use Rattle.std.proofs.Common.{◌≡◌, ◌+◌, ◌-◌, ◌*◌, false}
use Rattle.lj_end.specs.declared.pool.TheConstants.{MAX_STRAYS}
use Rattle.lj_engine.specs.Coming.{tiles_coming}
use Rattle.lj_engine.proofs.Going.{GoesOnAmong}
use Rattle.lj_engine.proofs.running.fetch_down.Given as goal

abbrev pub invariant-loop-owner : goal.invariant-loop-owner
invariant-loop-owner g l = record {
  among : GoesOnAmong l.strays l.initial.owner (g.P.PoolEnd.seen l.initial.pool) l.owner (g.P.PoolEnd.seen l.pool);
  counted : g.P.PoolEnd.uncounted l.initial.pool ≡ false → g.P.PoolEnd.uncounted l.pool ≡ false;
  own : g.P.PoolEnd.for_others l.pool l.initial.owner.number ≡ g.P.PoolEnd.for_others l.initial.pool l.initial.owner.number;
}

abbrev pub decreases-loop-owner : goal.decreases-loop-owner
decreases-loop-owner g l = 5000 * tiles_coming l.owner + (MAX_STRAYS - l.strays)
