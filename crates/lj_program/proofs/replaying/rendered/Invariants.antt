use Rattle.std.proofs.Common.{◌≡◌, take}
use Rattle.std.specs.List.{flat_map}
use Rattle.lj_program.specs.Printed.{printed_among}
use Rattle.lj_program.proofs.replaying.rendered.Given as goal

-- the first entries are printed
abbrev pub invariant-loop-entry : goal.invariant-loop-entry
invariant-loop-entry l = l.bytes.items ≡ flat_map (printed_among l.names) (take l.entry-index l.entries)
