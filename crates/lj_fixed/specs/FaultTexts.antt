-- The texts of faults.
use Rattle.std.specs.Prelude.{ℕ, List, codes}
use Rattle.lj_fixed.specs.declared.numbers.NumberFault.{NumberFault}
use Rattle.lj_fixed.specs.declared.numbers.NumberFault.TheVariants.{BadNumber, OutOfRange}

-- the text of a fault of a decimal word
abbrev pub fault_text : NumberFault → List ℕ
fault_text BadNumber = codes "not a decimal number"
fault_text OutOfRange = codes "a number beyond a million file units"
