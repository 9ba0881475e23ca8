use Rattle.std.proofs.Common.{arith}
use Rattle.lj_fixed.proofs.WholeNumbers.{step_of}
use Rattle.lj_fixed.proofs.whole.digits_value.Goals as goal

pub overflow_mul-value : goal.overflow_mul-value
overflow_mul-value c =
    let step = step_of c.args.digits.now c.loop-digit.digit-index c.requires c.loop-digit-test.true in
    omega (arith, step.value, step.fits, c.loop-digit.invariant)

pub overflow_add-value : goal.overflow_add-value
overflow_add-value c =
    let step = step_of c.args.digits.now c.loop-digit.digit-index c.requires c.loop-digit-test.true in
    omega (arith, step.value, step.fits, c.loop-digit.invariant, c.from.ensures)

pub loop-digit-preserved : goal.loop-digit-preserved
loop-digit-preserved c =
    let step = step_of c.args.digits.now c.loop-digit.digit-index c.requires c.loop-digit-test.true in
    omega (arith, step.value, c.loop-digit.invariant, c.from.ensures)
