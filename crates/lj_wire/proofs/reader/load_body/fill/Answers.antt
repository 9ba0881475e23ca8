use Rattle.std.proofs.Common.{arith, ◌-◌, length, sym, ◌∙◌, subst, rules}
use Rattle.lj_wire.specs.Input.{TakesBytes}
use Rattle.lj_wire.proofs.Buffers.{filled_more}
use Rattle.lj_wire.proofs.Taking.{TakesBytes-trans}
use Rattle.lj_wire.proofs.reader.load_body.fill.Goals as goal

pub loop-at-preserved : goal.loop-at-preserved
loop-at-preserved g c =
    let at = c.loop-at.at in
    let buf = c.loop-at.buf in
    let count = c.in_ok-count.count in
    let bytes = c.read_into.new.buf in
    let i = c.loop-at.invariant in
    let fits = c.in_ok-count.ensures.bound in
    record {
      within = search rules;
      taken = subst (TakesBytes c.args.input.now c.read_into.new.self)
          (sym (filled_more buf bytes at (length buf - at) count i.within fits))
          (TakesBytes-trans c.args.input.now c.loop-at.input c.read_into.new.self _ _ i.taken c.in_ok-count.ensures.taken);
      held = λ _. c.in_ok-count.ensures.held;
      errors = c.in_ok-count.ensures.counted ∙ i.errors;
      reads_for = λ enough. absurd (omega (arith, c.loop-at-test.true, (i.reads_for (search rules)).0));
    }
