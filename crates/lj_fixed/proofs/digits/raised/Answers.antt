-- Beyond the table of powers every number but 0 is above the limit.
use Rattle.std.proofs.Common.{◌<◌, arith}
use Rattle.lj_fixed.proofs.Leading.{twenty_tens}
use Rattle.lj_fixed.proofs.digits.raised.Goals as goal

pub returns-in_err-power_of_ten : goal.returns-in_err-power_of_ten
returns-in_err-power_of_ten c =
    let some : 0 < c.args.number = omega arith in
    rw c.from_residual.ensures (twenty_tens _ _ some c.in_err-power_of_ten.ensures)
