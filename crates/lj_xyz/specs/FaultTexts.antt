-- The texts of faults.
use Rattle.std.specs.Prelude.{ℕ, List, ◌++◌, codes}
use Rattle.std.specs.Fmt.{decimal}
use Rattle.lj_xyz.specs.declared.xyz_fault.XyzError.{XyzError}
use Rattle.lj_xyz.specs.declared.xyz_fault.XyzError.TheVariants.{Fault, Memory}
use Rattle.lj_xyz.specs.declared.xyz_fault.XyzFault.{XyzFault}
use Rattle.lj_xyz.specs.declared.xyz_fault.XyzKind.{XyzKind}
use Rattle.lj_xyz.specs.declared.xyz_fault.XyzKind.TheVariants.{Count, Short, Symbol, Species, Number, Range, Pair}

-- the text of a kind of fault
abbrev pub kind_text : XyzKind → List ℕ
kind_text Count = codes "no number of atoms"
kind_text Short = codes "a line is missing or too short"
kind_text Symbol = codes "not a symbol"
kind_text Species = codes "a symbol of neither species"
kind_text Number = codes "not a decimal number"
kind_text Range = codes "a coordinate out of range"
kind_text Pair = codes "no second frame of as many atoms"

-- the text of a fault: its line and its kind
abbrev pub fault_text : XyzFault → List ℕ
fault_text fault = codes "line " ++ decimal fault.line ++ codes ": " ++ kind_text fault.kind

-- the text of an error
abbrev pub error_text : XyzError → List ℕ
error_text (Fault fault) = fault_text fault
error_text Memory = codes "out of memory"
