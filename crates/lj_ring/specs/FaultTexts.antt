-- The texts of faults.
use Rattle.std.specs.Prelude.{ℕ, List, ◌++◌, codes}
use Rattle.std.specs.Fmt.{decimal}
use Rattle.lj_ring.specs.declared.mixes.ClassFault.{ClassFault}
use Rattle.lj_ring.specs.declared.mixes.ClassFault.TheVariants.{Scale, Weight}
use Rattle.lj_ring.specs.declared.mixes.MixFault.{MixFault}
use Rattle.lj_ring.specs.declared.scales.ScaleFault.{ScaleFault}
use Rattle.lj_ring.specs.declared.scales.ScaleFault.TheVariants.{Edge, Sigma, StepFactor}

-- the text of a fault of a scale
abbrev pub fault_text : ScaleFault → List ℕ
fault_text Edge = codes "the edge is not 10^6 to 10^15 nano"
fault_text Sigma = codes "sigma is below 2^-16 of the edge, or a fifth of it or more"
fault_text StepFactor = codes "the step factor is not 1 to 2^24"

-- the text of a fault of a class
abbrev pub class_fault_text : ClassFault → List ℕ
class_fault_text (Scale fault) = fault_text fault
class_fault_text Weight = codes "the weight is not 1 to 65536"

-- the text of a fault of a mixture: which class is refused, and why
abbrev pub mix_fault_text : MixFault → List ℕ
mix_fault_text fault = codes "class " ++ decimal fault.class ++ codes ": " ++ class_fault_text fault.fault
