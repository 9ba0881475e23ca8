use Rattle.std.proofs.Common.{◌≡◌, ◌+◌, ◌-◌, None, false}
use Rattle.lj_wire.specs.declared.line_limits.TheConstants.{MAX_ITEMS}
use Rattle.lj_engine.specs.Gathering.{Gathers, NonePending}
use Rattle.lj_engine.specs.Serving.{Serving}
use Rattle.lj_engine.proofs.Flushing.{StaysReady}
use Rattle.lj_engine.proofs.serving.serve_lines.Given as goal

abbrev pub invariant-items : goal.invariant-items
invariant-items g l = record {
  serving :
      Serving l.fn.state l.initial.lines l.lines (g.W.Sink.contents l.initial.writer) (g.W.Sink.contents l.writer)
      (g.P.PoolEnd.seen l.initial.pool) (g.P.PoolEnd.seen l.pool) l.owner.state;
  gathers : Gathers l.owner (g.P.PoolEnd.seen l.pool).owed;
  idle : l.owner.waiting ≡ None;
  quiet : l.has_pending ≡ false → NonePending l.owner.state;
  number : l.owner.number ≡ l.user;
  faults : g.W.Sink.faults l.writer ≡ g.W.Sink.faults l.initial.writer;
  ready : StaysReady l.lines (g.W.Sink.unflushed l.initial.writer) (g.W.Sink.unflushed l.writer);
  counted : g.P.PoolEnd.uncounted l.initial.pool ≡ false → g.P.PoolEnd.uncounted l.pool ≡ false;
  own : g.P.PoolEnd.for_others l.pool l.user ≡ g.P.PoolEnd.for_others l.initial.pool l.user;
  quota : l.owner.state.quota ≡ l.fn.state.quota;
}

abbrev pub decreases-items : goal.decreases-items
decreases-items g l = MAX_ITEMS + 1 - l.lines.items
