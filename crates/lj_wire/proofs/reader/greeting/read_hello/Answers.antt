use Rattle.std.proofs.Common.{◌≤◌, length, take, ap, ◌∙◌, arith}
use Rattle.lj_wire.specs.declared.reader.buffer.TheConstants.{MAX_HELD_BYTES}
use Rattle.lj_wire.specs.declared.reader.source_input.Front.TheVariants as front
use Rattle.lj_wire.specs.ItemSteps.{Finds, SearchesFor}
use Rattle.lj_wire.proofs.Greeting.{greeted}
use Rattle.lj_wire.proofs.Wholes.{line_taken}
use Rattle.lj_wire.proofs.reader.greeting.read_hello.Goals as goal

pub returns-in-Line-clause-hello : goal.returns-in-Line-clause-hello
returns-in-Line-clause-hello g c =
    let old = c.args.input.now in
    let mid = c.find_line.new.self in
    let new = c.take.new.self in
    let count = c.in-Line.count in
    let line = c.split_at.result.0.now in
    let found : Finds old (front.Line count) mid = rw c.in-Line.is at c.in_ok-count.ensures.found in
    let searched : SearchesFor old (front.Line count) mid = rw c.in-Line.is at c.in_ok-count.ensures.searched in
    let bounded : length mid.held ≤ MAX_HELD_BYTES =
    omega (arith, c.held.ensures.bounded, ap length c.held.ensures.value) in
    let taken = line_taken old mid new count line found.0 found.1
    (c.split_at.ensures.front ∙ ap (take count) c.held.ensures.value) bounded c.take.ensures in
    greeted old mid new line count _ taken c.split_at.ensures.front_len searched c.take.ensures
    c.parse_hello-hello.ensures
