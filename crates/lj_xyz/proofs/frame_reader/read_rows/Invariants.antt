use Rattle.std.proofs.Common.{◌≡◌, ◌-◌}
use Rattle.std.specs.Option.{option_copied}
use Rattle.lj_xyz.specs.Cursor.{left_of}
use Rattle.lj_xyz.specs.Reading.{rows_in}
use Rattle.lj_xyz.proofs.ReaderLaws.{with_front}
use Rattle.lj_xyz.proofs.frame_reader.read_rows.Given as goal

abbrev pub invariant-loop : goal.invariant-loop
invariant-loop l =
    with_front l.rows.items (rows_in (option_copied l.symbols) (l.atoms - l.counter) (left_of l.lines))
    ≡ rows_in (option_copied l.symbols) l.atoms (left_of l.fn.lines)
