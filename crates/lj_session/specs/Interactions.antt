-- The atoms of a load: their mixture, which of them are of the second species, and the reply.
use Rattle.std.specs.Prelude.{ℕ, ◌+◌, ◌*◌, Bool, ℤ, pos, List, [], ◌∷◌, Option, Some, None, Result, Ok, Err, if◌then◌else◌}
use Rattle.std.specs.Option.{unwrap_or}
use Rattle.lj_ring.specs.declared.mixes.ClassFault.{ClassFault}
use Rattle.lj_ring.specs.declared.mixes.ClassFault.TheVariants as class
use Rattle.lj_ring.specs.declared.mixes.MixFault.{MixFault}
use Rattle.lj_ring.specs.declared.scales.ScaleFault.{ScaleFault}
use Rattle.lj_ring.specs.declared.scales.ScaleFault.TheVariants as scale
use Rattle.lj_ring.specs.Mix.{Mix, mixture_of, pure_mix}
use Rattle.lj_ring.specs.Scale.{Scale, scale_of}
use Rattle.lj_task.specs.Species.{Composition}
use Rattle.lj_xyz.specs.declared.atom_row.AtomRow.{AtomRow}
use Rattle.lj_xyz.specs.Symbols.{SymbolPair, is_second}
use Rattle.lj_session.specs.declared.refusal.Refusal.{Refusal}
use Rattle.lj_session.specs.declared.refusal.Refusal.TheVariants.{Edge, Sigma, StepFactor, Weight}
use Rattle.lj_session.specs.declared.reply.Reply.{Reply}
use Rattle.lj_session.specs.declared.reply.Reply.TheVariants.{Loaded, LoadedMix}
use Rattle.lj_session.specs.declared.interactions.ClassNumbers.{ClassNumbers}
use Rattle.lj_session.specs.declared.interactions.Interactions.{Interactions}
use Rattle.lj_session.specs.declared.interactions.Interactions.TheVariants.{Pure, Mixed}

-- the number, or 0, which is neither an edge nor a sigma, a step factor or a weight, for a word that does not parse
abbrev pub nano_or_zero : Option ℤ → ℤ
nano_or_zero nano = unwrap_or nano (pos 0)

-- sigma, step factor and weight of a class
abbrev pub numbers_of : ClassNumbers → ℤ × ℕ × ℕ
numbers_of class = (nano_or_zero class.sigma, unwrap_or class.step_factor 0, unwrap_or class.weight 0)

-- the refusal of a scale
abbrev pub scale_refusal : ScaleFault → Refusal
scale_refusal scale.Edge = Edge
scale_refusal scale.Sigma = Sigma
scale_refusal scale.StepFactor = StepFactor

-- the refusal of a class
abbrev pub class_refusal : ClassFault → Refusal
class_refusal (class.Scale fault) = scale_refusal fault
class_refusal class.Weight = Weight

-- the refusal of a mixture: that of its first class that is refused
abbrev pub mix_refusal : MixFault → Refusal
mix_refusal fault = class_refusal fault.fault

-- the mixture of one species, or the fault of its scale as a refusal
abbrev pub pure_or_refusal : Result Scale ScaleFault → Result Mix Refusal
pure_or_refusal (Ok units) = Ok (pure_mix units)
pure_or_refusal (Err fault) = Err (scale_refusal fault)

-- a mixture, or its fault as a refusal
abbrev pub mixture_or_refusal : Result Mix MixFault → Result Mix Refusal
mixture_or_refusal (Ok mix) = Ok mix
mixture_or_refusal (Err fault) = Err (mix_refusal fault)

-- the mixture of a box of this edge, or the first of edge, and of sigma, step factor and weight of each class in turn,
-- that is out of range
abbrev pub mix_of_interactions : ℤ → Interactions → Result Mix Refusal
mix_of_interactions edge (Pure sigma step_factor) =
    pure_or_refusal (scale_of edge (nano_or_zero sigma) (unwrap_or step_factor 0))
mix_of_interactions edge (Mixed symbols first unlike second) =
    mixture_or_refusal (mixture_of edge (numbers_of first) (numbers_of unlike) (numbers_of second))

-- the symbols that the atoms of the first frame must have, or None if they can have any
abbrev pub symbols_of : Interactions → Option SymbolPair
symbols_of (Pure sigma step_factor) = None
symbols_of (Mixed symbols first unlike second) = Some symbols

-- the places of a list where a test holds, as a set: the bit of a place is 1 where it does
abbrev pub places_where : {A : Type 0} → (A → Bool) → List A → ℕ
places_where test [] = 0
places_where test (x ∷ xs) = (if test x then 1 else 0) + 2 * places_where test xs

-- the atoms of a frame whose symbol is the second of two
abbrev pub species_bits_among : SymbolPair → List AtomRow → ℕ
species_bits_among symbols rows = places_where (λ row. is_second symbols row.symbol) rows

-- the atoms of a frame that are of the second species; without symbols, none
abbrev pub species_bits_of : Option SymbolPair → List AtomRow → ℕ
species_bits_of None rows = 0
species_bits_of (Some symbols) rows = species_bits_among symbols rows

-- the composition of a frame's atoms
abbrev pub composition_of : Mix → Option SymbolPair → List AtomRow → Composition
composition_of mix symbols rows = record { mix = mix; species_bits = species_bits_of symbols rows }

-- the reply once this many atoms are loaded
abbrev pub load_reply : Interactions → List ℕ → ℕ → Reply
load_reply (Pure sigma step_factor) name atoms = Loaded name atoms
load_reply (Mixed symbols first unlike second) name atoms = LoadedMix name atoms
