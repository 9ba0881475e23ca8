use Rattle.std.specs.Option.{option_copied}
use Rattle.std.proofs.lemmas.Result.{err_from_is_err_and}
use Rattle.lj_xyz.specs.Cursor.{left_of}
use Rattle.lj_xyz.specs.Reading.{rows_in}
use Rattle.lj_xyz.proofs.ReaderLaws.{rows_go_on, rows_end, rows_done}
use Rattle.lj_xyz.proofs.frame_reader.read_rows.Goals as goal

pub returns-in_err-row : goal.returns-in_err-row
returns-in_err-row c =
    let symbols = option_copied c.args.symbols in
    let p = err_from_is_err_and c.from_residual-in_err-row.result c.from_residual-in_err-row.ensures.1 in
    rw (p.1, p.2) (rows_end symbols c.loop.rows.items c.args.atoms c.loop.counter (left_of c.loop.lines)
    c.in_err-row.field-0.0 (rows_in symbols c.args.atoms (left_of c.args.lines.now)) c.loop-test.true
    c.in_err-row.ensures c.loop.invariant)

pub loop-preserved : goal.loop-preserved
loop-preserved c =
    let symbols = option_copied c.args.symbols in
    rw c.in_ok-push.ensures.items (rows_go_on symbols c.loop.rows.items c.args.atoms c.loop.counter
    (left_of c.loop.lines) (left_of c.read_row.new.lines) c.in_ok-row.row
    (rows_in symbols c.args.atoms (left_of c.args.lines.now)) c.loop-test.true c.in_ok-row.ensures c.loop.invariant)

pub returns : goal.returns
returns c =
    let symbols = option_copied c.args.symbols in
    rw c.new.ensures (rows_done symbols c.loop.rows.items c.args.atoms c.loop.counter (left_of c.loop.lines)
    (rows_in symbols c.args.atoms (left_of c.args.lines.now)) c.loop-test.false c.loop.invariant)
