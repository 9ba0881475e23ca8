use Rattle.std.specs.Option.{option_copied}
use Rattle.lj_xyz.specs.Cursor.{left_of}
use Rattle.lj_xyz.specs.Lines.{lines_of}
use Rattle.lj_xyz.proofs.ReadLaws.{gives_one}
use Rattle.lj_xyz.proofs.frame_reader.first_frame.Goals as goal

pub returns : goal.returns
returns c =
    gives_one (option_copied c.args.symbols) (lines_of c.args.text.now) (left_of c.read_frame.new.lines)
    c.read_frame.result (rw c.new-lines.ensures at c.read_frame.ensures)
