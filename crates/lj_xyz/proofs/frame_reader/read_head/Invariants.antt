use Rattle.std.proofs.Common.{◌≡◌, length}
use Rattle.lj_xyz.specs.Lines.{lines_of}
use Rattle.lj_xyz.specs.Reading.{head_in}
use Rattle.lj_xyz.proofs.frame_reader.read_head.Given as goal

abbrev pub invariant-loop-line : goal.invariant-loop-line
invariant-loop-line l =
    head_in l.position l.lines.taken (lines_of l.lines.rest.now)
    ≡ head_in l.position l.fn.lines.taken (lines_of l.fn.lines.rest.now)

abbrev pub decreases-loop-line : goal.decreases-loop-line
decreases-loop-line l = length (lines_of l.lines.rest.now)
