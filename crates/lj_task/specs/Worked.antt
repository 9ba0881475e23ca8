-- Worked examples: two atoms 1.5 sigma apart in a box of 256 sigma, as one block and as two.
use Rattle.std.specs.Prelude.{◌≡◌, ◌∷◌, [], ℕ, true, pos, negsuc, List, refl}
use Rattle.lj_ring.specs.declared.coordinates.Place.{Place}
use Rattle.lj_ring.specs.Mix.{pure_mix}
use Rattle.lj_ring.specs.Scale.{Scale}
use Rattle.lj_table.specs.Entries.{push_entry, energy_entry}
use Rattle.lj_task.specs.declared.task_name.Kind.{Kind}
use Rattle.lj_task.specs.declared.task_name.Kind.TheVariants.{Force, Energy}
use Rattle.lj_task.specs.Pushes.{push}
use Rattle.lj_task.specs.Species.{Composition}
use Rattle.lj_task.specs.Tiles.{push_sum, tile_force, tile_energy, force_tile, energy_tile}
use Rattle.lj_task.specs.Task.{Task, task_force, task_second, task_energy}

-- an edge of 256, sigma 1, and a step factor of 2^17 in units of 2^-32
abbrev pub dimer_units : Scale
dimer_units = record { edge = 256000000000; sigma = 16777216; step_factor = 131072 }

-- two atoms of one species
abbrev pub dimer : Composition
dimer = record { mix = pure_mix dimer_units; species_bits = 0 }

-- a place on the x axis
abbrev pub on_x : ℕ → Place
on_x x = record { x = x; y = 0; z = 0 }

-- the first atom alone
abbrev pub left : List Place
left = on_x 0 ∷ []

-- the second atom alone
abbrev pub right : List Place
right = on_x 25165824 ∷ []

-- both atoms
abbrev pub both : List Place
both = on_x 0 ∷ on_x 25165824 ∷ []

-- a task of session `a` of user 0 at step 0
abbrev pub task_of : Kind → ℕ → ℕ → List Place → List Place → Task
task_of kind bi bj first second = record {
  name = record { label = record { user = 0; session = 97 ∷ [] }; step = pos 0; kind = kind; bi = bi; bj = bj };
  mix = pure_mix dimer_units;
  a = record { places = first; species_bits = 0 };
  b = record { places = second; species_bits = 0 };
}

-- in one block each atom is pushed by the other and not by itself
pub one_block_left : task_force (task_of Force 0 0 both both) 0 ≡ record { x = 589; y = 0; z = 0 }
unfolding push_sum push push_entry
one_block_left = refl

pub one_block_right : task_force (task_of Force 0 0 both both) 1 ≡ record { x = 4294966707; y = 0; z = 0 }
unfolding push_sum push push_entry
one_block_right = refl

-- a force task of two blocks gives the sums of the first, and those of the second
pub two_blocks : task_force (task_of Force 1 3 left right) 0 ≡ record { x = 589; y = 0; z = 0 }
unfolding push_sum push push_entry
two_blocks = refl

pub second_block : task_second (task_of Force 1 3 left right) 0 ≡ record { x = 4294966707; y = 0; z = 0 }
unfolding push_sum push push_entry
second_block = refl

-- for one block twice the two sums are the same
pub one_block_second : task_second (task_of Force 0 0 both both) 1 ≡ record { x = 4294966707; y = 0; z = 0 }
unfolding push_sum push push_entry
one_block_second = refl

-- the pair counts once, in one block and in two
pub one_block_energy : task_energy (task_of Energy 0 0 both both) ≡ negsuc 5349131
unfolding task_energy energy_entry
one_block_energy = refl

pub two_blocks_energy : task_energy (task_of Energy 0 1 left right) ≡ negsuc 5349131
unfolding task_energy energy_entry
two_blocks_energy = refl

-- a tile of two blocks has its pairs in both orders
pub tile_both_ways : force_tile 0 1 70 3 ≡ true
tile_both_ways = refl

-- the value for this frame of the tile of their block with itself, and of a tile without a pair of them
pub tile_left : tile_force dimer both (force_tile 0 0) 0 ≡ record { x = 589; y = 0; z = 0 }
unfolding push_sum push push_entry
tile_left = refl

pub tile_of_others : tile_force dimer both (force_tile 0 1) 0 ≡ record { x = 0; y = 0; z = 0 }
unfolding push_sum push push_entry
tile_of_others = refl

pub tile_pair : tile_energy dimer both (energy_tile 0 0) ≡ negsuc 5349131
unfolding energy_entry
tile_pair = refl
