use Rattle.lj_wire.specs.declared.line_limits.TheConstants.{LONG_LINE_BYTES}
use Rattle.std.proofs.Common.{◌-◌}
use Rattle.lj_wire.proofs.Passing.{Passing}
use Rattle.lj_wire.proofs.reader.source_input.Input.skip_line.Given as goal

abbrev pub invariant-loop-seen : goal.invariant-loop-seen
invariant-loop-seen g l = Passing l.fn.self l.self l.seen

abbrev pub decreases-loop-seen : goal.decreases-loop-seen
decreases-loop-seen g l = LONG_LINE_BYTES - l.seen
