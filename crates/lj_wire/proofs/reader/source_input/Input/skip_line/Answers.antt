use Rattle.lj_wire.specs.declared.line_limits.TheConstants.{LONG_LINE_BYTES}
use Rattle.std.proofs.Common.{◌-◌, ◌≤◌, ◌≡◌, min, ◌∷◌, ◌++◌, length, take, ap, arith}
use Rattle.lj_wire.specs.Streams.{LacksLineFeed}
use Rattle.lj_wire.proofs.Passing.{passing_feed, passing_more}
use Rattle.lj_wire.proofs.reader.source_input.Input.skip_line.Goals as goal

pub returns-in-Some-clause-skipped : goal.returns-in-Some-clause-skipped
returns-in-Some-clause-skipped g c =
    let grown = c.read_more.new.self in
    let wanted = c.min-wanted.result in
    let held = ap length c.held.ensures.value in
    let low : wanted ≤ LONG_LINE_BYTES - c.loop-seen.seen = omega (arith, c.min-wanted.ensures) in
    let within : wanted ≤ length grown.held = omega (arith, c.min-wanted.ensures, held) in
    let front : take wanted grown.held ≡ c.in-Some.line.now ++ 10 ∷ c.in-Some.field-0-1.now =
    rw (← c.held-in-loop-seen.ensures.value, ← c.split_at.ensures.front) c.in-Some.ensures.0 in
    passing_feed c.args.self.now c.loop-seen.self grown c.take.new.self c.loop-seen.seen _ wanted
    c.in-Some.line.now c.in-Some.field-0-1.now
    c.loop-seen.invariant c.in_ok-read_more.ensures.grown low within front c.in-Some.ensures.1 c.take.ensures

pub loop-seen-preserved : goal.loop-seen-preserved
loop-seen-preserved g c =
    let grown = c.read_more.new.self in
    let wanted = c.min-wanted.result in
    let held = ap length c.held.ensures.value in
    let is : wanted ≡ min (LONG_LINE_BYTES - c.loop-seen.seen) (length grown.held) = rw (← held) c.min-wanted.ensures in
    let one : LacksLineFeed (take wanted grown.held) =
    rw (← c.held-in-loop-seen.ensures.value, ← c.split_at.ensures.front) c.in_default.ensures in
    passing_more c.args.self.now c.loop-seen.self grown c.take-in-loop-seen.new.self c.loop-seen.seen _ wanted
    c.loop-seen.invariant c.in_ok-read_more.ensures.grown c.in_ok-read_more.ensures.counted c.loop-seen-test.true is
    one c.take-in-loop-seen.ensures
