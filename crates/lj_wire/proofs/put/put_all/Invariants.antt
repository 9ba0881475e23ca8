use Rattle.std.proofs.Common.{◌≡◌, ◌≤◌, ◌-◌, length, take}
use Rattle.std.specs.Io.KnownBytes.{Appends}
use Rattle.lj_wire.proofs.put.put_all.Given as goal

-- the first bytes are written
abbrev pub invariant-loop-at : goal.invariant-loop-at
invariant-loop-at g l = record {
  within : l.at ≤ length l.bytes;
  begun : Appends (g.W.Sink.contents l.fn.sink) (g.W.Sink.contents l.sink) (take l.at l.bytes);
  counted : g.W.Sink.faults l.sink ≡ g.W.Sink.faults l.fn.sink;
}

abbrev pub decreases-loop-at : goal.decreases-loop-at
decreases-loop-at g l = length l.bytes - l.at
