use Rattle.std.proofs.Common.{List, [], ◌∷◌}
use Rattle.std.specs.Option.{option_copied}
use Rattle.std.proofs.lemmas.Result.{IfOk-weaker}
use Rattle.lj_xyz.specs.declared.atom_row.AtomRow.{AtomRow}
use Rattle.lj_xyz.specs.declared.atom_row.FramePair.{FramePair}
use Rattle.lj_xyz.specs.Lines.{lines_of}
use Rattle.lj_xyz.specs.Bodies.{pair}
use Rattle.lj_xyz.proofs.ReadLaws.{frames_stand, fault_stands, pair_counts}
use Rattle.lj_xyz.proofs.frame_reader.read_pair.Goals as goal

abbrev view : FramePair → List (List AtomRow)
view frames = frames.first ∷ frames.second ∷ []

pub returns-clause-frames : goal.returns-clause-frames
returns-clause-frames c = frames_stand _ view pair _ c.first_two_frames.result c.first_two_frames.ensures

pub returns-clause-fault : goal.returns-clause-fault
returns-clause-fault c = fault_stands _ view pair _ c.first_two_frames.result c.first_two_frames.ensures

pub returns-clause-count : goal.returns-clause-count
returns-clause-count c =
    IfOk-weaker c.first_two_frames.result _ _ (λ frames both. both.0)
    (pair_counts (option_copied c.args.symbols) (lines_of c.args.text.now) _ c.first_two_frames.ensures)

pub returns-clause-same_count : goal.returns-clause-same_count
returns-clause-same_count c =
    IfOk-weaker c.first_two_frames.result _ _ (λ frames both. both.1)
    (pair_counts (option_copied c.args.symbols) (lines_of c.args.text.now) _ c.first_two_frames.ensures)
