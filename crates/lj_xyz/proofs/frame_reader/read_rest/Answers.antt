use Rattle.std.proofs.Common.{List, [], ◌∷◌}
use Rattle.std.specs.Option.{option_copied}
use Rattle.std.proofs.lemmas.Result.{IfOk-weaker}
use Rattle.lj_xyz.specs.declared.atom_row.AtomRow.{AtomRow}
use Rattle.lj_xyz.specs.Lines.{lines_of}
use Rattle.lj_xyz.specs.Bodies.{rest}
use Rattle.lj_xyz.proofs.ReadLaws.{frames_stand, fault_stands, one_count}
use Rattle.lj_xyz.proofs.frame_reader.read_rest.Goals as goal

abbrev view : List AtomRow → List (List AtomRow)
view rows = rows ∷ []

pub returns-clause-frame : goal.returns-clause-frame
returns-clause-frame c = frames_stand _ view rest _ c.first_frame.result c.first_frame.ensures

pub returns-clause-fault : goal.returns-clause-fault
returns-clause-fault c = fault_stands _ view rest _ c.first_frame.result c.first_frame.ensures

pub returns-clause-count : goal.returns-clause-count
returns-clause-count c =
    let symbols = option_copied c.args.symbols in
    IfOk-weaker c.first_frame.result _ _ (λ rows. one_count symbols (lines_of c.args.text.now) rows)
    (frames_stand symbols view rest (lines_of c.args.text.now) c.first_frame.result c.first_frame.ensures)
