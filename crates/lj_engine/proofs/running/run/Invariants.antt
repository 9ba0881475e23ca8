use Rattle.std.proofs.Common.{◌≡◌, ◌+◌, ◌-◌, ◌*◌, false}
use Rattle.lj_end.specs.declared.pool.TheConstants.{MAX_STRAYS}
use Rattle.lj_engine.specs.Coming.{turns_coming, tiles_coming, posts_coming}
use Rattle.lj_engine.proofs.Going.{GoesOnAmong}
use Rattle.lj_engine.proofs.running.run.Given as goal

abbrev pub invariant-loop-name : goal.invariant-loop-name
invariant-loop-name g l = record {
  among : GoesOnAmong l.strays l.initial.owner (g.P.PoolEnd.seen l.initial.pool) l.owner (g.P.PoolEnd.seen l.pool);
  counted : g.P.PoolEnd.uncounted l.initial.pool ≡ false → g.P.PoolEnd.uncounted l.pool ≡ false;
  own : g.P.PoolEnd.for_others l.pool l.initial.owner.number ≡ g.P.PoolEnd.for_others l.initial.pool l.initial.owner.number;
}

abbrev pub decreases-loop-name : goal.decreases-loop-name
decreases-loop-name g l = 5000 * turns_coming l.owner + 5000 * tiles_coming l.owner + posts_coming l.owner + (MAX_STRAYS - l.strays)
