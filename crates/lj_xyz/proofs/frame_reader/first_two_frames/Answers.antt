use Rattle.std.specs.Option.{option_copied}
use Rattle.std.proofs.lemmas.Result.{err_from_is_err_and}
use Rattle.lj_xyz.specs.Cursor.{left_of}
use Rattle.lj_xyz.specs.Bodies.{pair}
use Rattle.lj_xyz.specs.Lines.{lines_of}
use Rattle.lj_xyz.proofs.ReadingLaws.{reads_two}
use Rattle.lj_xyz.proofs.ReadLaws.{fails_first, fails_second}
use Rattle.lj_xyz.proofs.frame_reader.first_two_frames.Goals as goal

pub returns-in_err-first : goal.returns-in_err-first
returns-in_err-first c =
    let symbols = option_copied c.args.symbols in
    let p = err_from_is_err_and c.from_residual.result c.from_residual.ensures.1 in
    rw (p.1, p.2) (fails_first symbols pair (lines_of c.args.text.now) c.in_err-first.field-0.0
    (rw c.new-lines.ensures at c.in_err-first.ensures))

pub returns-in_err-second : goal.returns-in_err-second
returns-in_err-second c =
    let symbols = option_copied c.args.symbols in
    let p = err_from_is_err_and c.from_residual-in_err-second.result c.from_residual-in_err-second.ensures.1 in
    rw (p.1, p.2) (fails_second symbols (lines_of c.args.text.now) c.in_ok-first.first (left_of c.read_frame.new.lines)
    c.in_err-second.field-0.0 (rw c.new-lines.ensures at c.in_ok-first.ensures)
    (rw c.len.ensures.rows at c.in_err-second.ensures))

pub returns : goal.returns
returns c =
    let symbols = option_copied c.args.symbols in
    reads_two symbols (lines_of c.args.text.now) c.in_ok-first.first c.in_ok-second.second
    (left_of c.read_frame.new.lines) (left_of c.read_frame-2.new.lines)
    (rw c.new-lines.ensures at c.in_ok-first.ensures) (rw c.len.ensures.rows at c.in_ok-second.ensures)
