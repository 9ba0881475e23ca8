-- The divisor is the power below, and a number over a power beyond the table is less than a half.
use Rattle.lj_fixed.proofs.Rounding.{ten-pow_pos}
use Rattle.lj_fixed.proofs.Leading.{lowered_is, lowered_away}
use Rattle.lj_fixed.proofs.digits.lowered.Goals as goal

pub nonzero_div-result : goal.nonzero_div-result
nonzero_div-result c = rw c.in-Some.ensures (ten-pow_pos _)

pub returns-in-Some : goal.returns-in-Some
returns-in-Some c = lowered_is _ _ _ c.requires.power c.in-Some.ensures

pub returns-in-None : goal.returns-in-None
returns-in-None c = lowered_away _ _ c.requires.number c.in-None.ensures
