-- The bits of the atoms of the second species, and the class of two atoms.
use Rattle.std.specs.Prelude.{ℕ, ◌==◌, Bool, if◌then◌else◌}
use Rattle.std.specs.Int.{bit_at}
use Rattle.lj_ring.specs.declared.mixes.Class.{Class}
use Rattle.lj_ring.specs.declared.mixes.Species.{Species}
use Rattle.lj_ring.specs.declared.mixes.Species.TheVariants.{First, Second}
use Rattle.lj_ring.specs.Mix.{Mix, class_of}

-- i is in a set of numbers: bit i of the set is 1
abbrev pub is_in : ℕ → ℕ → Bool
is_in set i = bit_at set i == 1

-- the second species, or the first
abbrev pub species_if : Bool → Species
species_if second = if second then Second else First

-- the species of atom i, by the bits of the atoms of the second species
abbrev pub species_at : ℕ → ℕ → Species
species_at species_bits i = species_if (is_in species_bits i)

-- the composition of a simulation: its mixture, and the bits of the atoms of the second species
pub record Composition : Type 0 where
  pub mix : Mix
  pub species_bits : ℕ

-- the class of two atoms, by their numbers
abbrev pub class_between : Composition → ℕ → ℕ → Class
class_between c i j = class_of c.mix (species_at c.species_bits i) (species_at c.species_bits j)
