use Rattle.std.proofs.Common.{◌≡◌, ◌++◌, take}
use Rattle.lj_fixed.specs.Millionths.{last_digits}
use Rattle.lj_fixed.proofs.printing.push_six_digits.Given as goal

abbrev pub invariant-loop-power : goal.invariant-loop-power
invariant-loop-power l = l.text.bytes ≡ l.fn.text.bytes ++ take l.power-index (last_digits 6 l.number)
