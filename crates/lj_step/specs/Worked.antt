-- Worked examples: two atoms 1.5 sigma apart in a box of 256 sigma, the frames of the first two steps, the measures
-- after the second, and the way back.
use Rattle.std.specs.Prelude.{◌≡◌, ◌∷◌, [], ℕ, pos, negsuc, List, refl}
use Rattle.lj_ring.specs.declared.coordinates.Place.{Place}
use Rattle.lj_task.specs.Species.{Composition}
use Rattle.lj_table.specs.Entries.{push_entry, energy_entry}
use Rattle.lj_ring.specs.Mix.{pure_mix}
use Rattle.lj_task.specs.Pushes.{push}
use Rattle.lj_step.specs.Motion.{Simulation, opening, next_simulation, steps, reversal, with_tug, force, momentum, kinetic}
use Rattle.lj_step.specs.Motion.{potential}

-- a place on the x axis
abbrev pub on_x : ℕ → Place
on_x x = record { x = x; y = 0; z = 0 }

-- atoms of one species: an edge of 256, sigma 1, and a step factor of 2^17 in units of 2^-32
abbrev pub dimer_atoms : Composition
dimer_atoms = record { mix = pure_mix (record { edge = 256000000000; sigma = 16777216; step_factor = 131072 }); species_bits = 0 }

-- at rest, 1.5 sigma apart
abbrev pub dimer_frame : List Place
dimer_frame = on_x 0 ∷ on_x 25165824 ∷ []

abbrev pub dimer : Simulation
dimer = opening dimer_frame dimer_frame

-- after n steps
unfoldable pub after : ℕ → Simulation
after n = steps dimer_atoms n dimer

pub after_one : (after 1).cur ≡ on_x 589 ∷ on_x 25165235 ∷ []
unfolding after push force push_entry
after_one = refl

pub after_two : (after 2).cur ≡ on_x 1774 ∷ on_x 25164050 ∷ []
unfolding after push force push_entry
after_two = refl

pub kinetic_after_two : kinetic (after 2) ≡ 2808450
unfolding after push force push_entry
kinetic_after_two = refl

pub potential_after_two : potential dimer_atoms (after 2).cur ≡ negsuc 5399726
unfolding after push force push_entry energy_entry
potential_after_two = refl

pub momentum_after_two : momentum (after 2) ≡ record { x = pos 0; y = pos 0; z = pos 0 }
unfolding after push force push_entry
momentum_after_two = refl

-- reversed after two steps, the simulation is at step 1 again, and two more steps go past the start
pub back_at_one : (reversal (after 2)).cur ≡ on_x 589 ∷ on_x 25165235 ∷ []
unfolding after push force push_entry
back_at_one = refl

pub back_past_opening : (steps dimer_atoms 2 (reversal (after 2))).cur ≡ dimer_frame
unfolding after push force push_entry
back_past_opening = refl

-- a tug of 5 along x at step 1 shows in the next step
pub tugged_then_stepped : (next_simulation dimer_atoms (with_tug 0 (record { x = pos 5; y = pos 0; z = pos 0 }) (after 1))).cur
    ≡ on_x 1779 ∷ on_x 25164050 ∷ []
unfolding after push force push_entry
tugged_then_stepped = refl
