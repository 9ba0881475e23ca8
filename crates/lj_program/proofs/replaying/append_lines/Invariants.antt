use Rattle.std.proofs.Common.{◌≡◌, ◌++◌}
use Rattle.lj_program.specs.Printed.{head, headed, printed_entry}
use Rattle.lj_program.proofs.replaying.append_lines.Given as goal

-- what is printed, and then the lines that are left, are the whole reply
abbrev pub invariant-loop-line : goal.invariant-loop-line
invariant-loop-line l =
    l.bytes.items ++ headed (head l.name l.entry.connection) l.line-iterator
    ≡ l.fn.bytes.items ++ printed_entry l.name l.entry
