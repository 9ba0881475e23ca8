use Rattle.std.proofs.Common.{◌≡◌, Some, length, drop, ◌-◌}
use Rattle.std.specs.Io.KnownBytes.{Keeps, append_known}
use Rattle.lj_wire.proofs.held_writing.HeldWriting.send.Given as goal

abbrev pub invariant-loop-self : goal.invariant-loop-self
invariant-loop-self g l = record {
  kept :
      Keeps (append_known (g.W.Writes.contents l.initial.self.counted_writer.writer) (drop l.initial.self.sent l.initial.self.bytes.items))
      (append_known (g.W.Writes.contents l.self.counted_writer.writer) (drop l.self.sent l.self.bytes.items));
  counted : Some l.self.counted_writer.faults ≡ Some l.initial.self.counted_writer.faults;
}

abbrev pub decreases-loop-self : goal.decreases-loop-self
decreases-loop-self g l = length l.self.bytes.items - l.self.sent
