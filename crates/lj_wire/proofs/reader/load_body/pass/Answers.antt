use Rattle.lj_wire.proofs.Passing.{counting_start, counting_more}
use Rattle.lj_wire.proofs.reader.load_body.pass.Goals as goal

pub loop-left-init : goal.loop-left-init
loop-left-init g c =
    counting_start c.args.input.now c.take_held.new.input c.args.count _
    c.take_held.ensures.count c.take_held.ensures.taken

pub loop-left-preserved : goal.loop-left-preserved
loop-left-preserved g c =
    let taken = c.take_held-in-loop-left.ensures in
    counting_more c.args.input.now c.loop-left.input c.read_more.new.self c.take_held-in-loop-left.new.input
    c.args.count c.loop-left.left _ _
    c.loop-left.invariant c.in_ok-read_more.ensures.grown c.in_ok-read_more.ensures.counted taken.count
    taken.taken c.loop-left-test.true
