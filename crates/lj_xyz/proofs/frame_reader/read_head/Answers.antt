use Rattle.std.proofs.Common.{length, ap, arith}
use Rattle.lj_xyz.specs.Lines.{lines_of}
use Rattle.lj_xyz.specs.Cursor.{left_of}
use Rattle.lj_xyz.specs.Reading.{head_in}
use Rattle.lj_xyz.proofs.ReaderLaws.{head_goes_on, head_ends, head_missing}
use Rattle.lj_xyz.proofs.frame_reader.read_head.Goals as goal

pub returns-in-Some-split_word : goal.returns-in-Some-split_word
returns-in-Some-split_word c =
    head_ends c.args.position (left_of c.loop-line.lines) (left_of c.next_line.new.self)
    c.in-Some.line.now c.in-Some-split_word.word.now _ c.count_or_fault.result
    (head_in c.args.position c.args.lines.now.taken (lines_of c.args.lines.now.rest.now))
    (record { lines = c.in-Some.ensures.line.0; taken = c.in-Some.ensures.line.1 })
    c.in-Some-split_word.ensures c.count_or_fault.ensures c.loop-line.invariant

pub loop-line-smaller : goal.loop-line-smaller
loop-line-smaller c = omega (arith, ap length c.in-Some.ensures.line.0)

pub loop-line-preserved : goal.loop-line-preserved
loop-line-preserved c =
    head_goes_on c.args.position (left_of c.loop-line.lines) (left_of c.next_line.new.self) c.in-Some.line.now
    (head_in c.args.position c.args.lines.now.taken (lines_of c.args.lines.now.rest.now))
    (record { lines = c.in-Some.ensures.line.0; taken = c.in-Some.ensures.line.1 })
    c.in_default-split_word.ensures c.loop-line.invariant

pub returns : goal.returns
returns c =
    head_missing c.args.position (left_of c.loop-line.lines) (left_of c.next_line.new.self) c.missing.result
    (head_in c.args.position c.args.lines.now.taken (lines_of c.args.lines.now.rest.now))
    c.in_default.ensures.line.0 c.in_default.ensures.line.1 c.missing.ensures c.loop-line.invariant
