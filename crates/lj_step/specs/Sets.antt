-- Sets of atoms as numbers: bit i of the number is 1 if atom i is in the set.
use Rattle.std.specs.Prelude.{ℕ, ◌+◌, ◌*◌, ◌/◌, ◌%◌, ◌^◌, List, [], ◌∷◌}
use Rattle.lj_task.specs.declared.blocks.TheConstants.{BLOCK}

-- the part of a set in block b: one bit for each of the block's atoms
abbrev pub species_bits_in : ℕ → ℕ → ℕ
species_bits_in species_bits b = species_bits / 2 ^ (BLOCK * b) % 2 ^ BLOCK

-- the set that has these parts in its blocks
abbrev pub number_of_bits : List ℕ → ℕ
number_of_bits [] = 0
number_of_bits (species_bits ∷ others) = number_of_bits others * 2 ^ 64 + species_bits % 2 ^ 64
