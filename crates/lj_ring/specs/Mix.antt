-- Mixtures of two species of atoms, and the class of each pair of atoms: how the two interact.
use Rattle.std.specs.Prelude.{ℕ, ◌&&◌, ◌||◌, Bool, nat_le, ℤ, Result, Ok, Err, if◌then◌else◌}
use Rattle.lj_ring.specs.declared.mixes.TheConstants.{MAX_WEIGHT, WHOLE_WEIGHT}
use Rattle.lj_ring.specs.declared.mixes.Class.{Class}
use Rattle.lj_ring.specs.declared.mixes.ClassFault.{ClassFault}
use Rattle.lj_ring.specs.declared.mixes.ClassFault.TheVariants.{Scale as OfScale, Weight}
use Rattle.lj_ring.specs.declared.mixes.MixFault.{MixFault}
use Rattle.lj_ring.specs.declared.mixes.Species.{Species}
use Rattle.lj_ring.specs.declared.mixes.Species.TheVariants.{First, Second}
use Rattle.lj_ring.specs.declared.scales.ScaleFault.{ScaleFault}
use Rattle.lj_ring.specs.Scale.{Scale, scale_of, is_in_cutoff, IsScale}

-- a mixture: the classes of two atoms of the first species, of one of each, and of two of the second
pub data Mix : Type 0 where
  mixed : Class → Class → Class → Mix

-- the class of two atoms by their species, in either order
abbrev pub class_of : Mix → Species → Species → Class
class_of (mixed first unlike second) First First = first
class_of (mixed first unlike second) First Second = unlike
class_of (mixed first unlike second) Second First = unlike
class_of (mixed first unlike second) Second Second = second

-- the edge of the box
abbrev pub edge_of : Mix → ℕ
edge_of mix = (class_of mix First First).scale.edge

-- the class of a scale whose energies have the whole weight
abbrev pub whole_class : Scale → Class
whole_class units = record { scale = units; weight = WHOLE_WEIGHT }

-- the mixture in which all atoms are alike
abbrev pub pure_mix : Scale → Mix
pure_mix units = mixed (whole_class units) (whole_class units) (whole_class units)

-- two atoms of some species interact at this squared distance
abbrev pub can_interact : Mix → ℕ → Bool
can_interact mix s =
    is_in_cutoff (class_of mix First First).scale s
    || is_in_cutoff (class_of mix First Second).scale s
    || is_in_cutoff (class_of mix Second Second).scale s

-- a mixture by which no pair that interacts lies half the box apart
abbrev pub IsMixture : Mix → Type 0
IsMixture mix = (a b : Species) → IsScale (class_of mix a b).scale

-- a weight is 1 to 65536
abbrev pub is_weight : ℕ → Bool
is_weight weight = nat_le 1 weight && nat_le weight MAX_WEIGHT

-- the class of a scale and a weight, or the fault of the scale before that of the weight
abbrev pub class_from : Result Scale ScaleFault → ℕ → Result Class ClassFault
class_from (Err fault) weight = Err (OfScale fault)
class_from (Ok units) weight = if is_weight weight then Ok (record { scale = units; weight = weight }) else Err Weight

-- the class of an edge, a sigma, a step factor and a weight
abbrev pub class_of_numbers : ℤ → ℤ × ℕ × ℕ → Result Class ClassFault
class_of_numbers edge numbers = class_from (scale_of edge numbers.0 numbers.1) numbers.2

-- a class, or its fault with the number of the class
abbrev pub class_at : ℕ → Result Class ClassFault → Result Class MixFault
class_at number (Ok class) = Ok class
class_at number (Err fault) = Err (record { class = number; fault = fault })

-- the mixture of three classes, or their first fault
abbrev pub mixture_from : Result Class MixFault → Result Class MixFault → Result Class MixFault → Result Mix MixFault
mixture_from (Err fault) unlike second = Err fault
mixture_from (Ok first) (Err fault) second = Err fault
mixture_from (Ok first) (Ok unlike) (Err fault) = Err fault
mixture_from (Ok first) (Ok unlike) (Ok second) = Ok (mixed first unlike second)

-- the mixture of an edge and each class's sigma, step factor and weight, or its first fault, class by class
abbrev pub mixture_of : ℤ → (first unlike second : ℤ × ℕ × ℕ) → Result Mix MixFault
mixture_of edge first unlike second =
    mixture_from (class_at 1 (class_of_numbers edge first)) (class_at 2 (class_of_numbers edge unlike))
    (class_at 3 (class_of_numbers edge second))
