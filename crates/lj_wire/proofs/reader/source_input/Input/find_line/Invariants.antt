use Rattle.std.proofs.Common.{◌≡◌, ◌-◌, length}
use Rattle.std.specs.Io.KnownBytes.{Keeps}
use Rattle.lj_wire.specs.Input.{bytes_untaken}
use Rattle.lj_wire.proofs.Passing.{Searched}
use Rattle.lj_wire.proofs.reader.source_input.Input.find_line.Given as goal

-- what is read is not yet taken
abbrev pub invariant-reads : goal.invariant-reads
invariant-reads g l = record {
  kept : Keeps (bytes_untaken l.fn.self) (bytes_untaken l.self);
  errors : l.self.errors ≡ l.fn.self.errors;
  searched : Searched l.fn.self l.self;
}

abbrev pub decreases-reads : goal.decreases-reads
decreases-reads g l = 257 - length l.self.held
