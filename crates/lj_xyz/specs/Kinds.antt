-- The fault of a coordinate that is no nano.
use Rattle.lj_fixed.specs.declared.numbers.NumberFault.{NumberFault}
use Rattle.lj_fixed.specs.declared.numbers.NumberFault.TheVariants.{BadNumber, OutOfRange}
use Rattle.lj_xyz.specs.declared.xyz_fault.XyzKind.{XyzKind}
use Rattle.lj_xyz.specs.declared.xyz_fault.XyzKind.TheVariants as kind

-- the kind of this fault in a body
abbrev pub number_fault_kind : NumberFault → XyzKind
number_fault_kind BadNumber = kind.Number
number_fault_kind OutOfRange = kind.Range
