-- The energies of lists and of rows of pairs of places, one of each block of a task.
use Rattle.std.specs.Prelude.{ℕ, ℤ, pos, ◌+ℤ◌, List, [], ◌∷◌, if◌then◌else◌}
use Rattle.lj_ring.specs.Ring.{int_sum_below}
use Rattle.lj_ring.specs.declared.coordinates.Place.{Place}
use Rattle.lj_ring.specs.declared.mixes.Class.{Class}
use Rattle.lj_ring.specs.declared.mixes.Species.{Species}
use Rattle.lj_ring.specs.declared.mixes.Species.TheVariants.{First, Second}
use Rattle.lj_ring.specs.Mix.{class_of}
use Rattle.lj_task.specs.Pushes.{energy}
use Rattle.lj_task.specs.Species.{is_in}
use Rattle.lj_task.specs.Tiles.{place_at}
use Rattle.lj_task.specs.Task.{Task}
use Rattle.lj_tile.specs.Rows.{energy_row}
use Rattle.lj_tile.specs.Pairs.{first_of, second_of}
pub use Rattle.lj_fixed.specs.Decimal.{signed_number}

-- the energy of a pair of one class
abbrev pub pair_energy : Class → (a b : List Place) → ℕ → ℤ
pair_energy k a b pair = energy k (place_at a (first_of pair)) (place_at b (second_of pair))

-- the sum of the energies of the pairs of a list, of one class
unfoldable pub list_energy : Class → (a b : List Place) → List ℕ → ℤ
list_energy k a b [] = pos 0
list_energy k a b (pair ∷ pairs) = pair_energy k a b pair +ℤ list_energy k a b pairs

-- the sum of the energies of two lists, each of one class
abbrev pub lists_energy : Task → (k l : Class) → (ps qs : List ℕ) → ℤ
lists_energy w k l ps qs = list_energy k w.a.places w.b.places ps +ℤ list_energy l w.a.places w.b.places qs

-- the sum of the energies of two lists of pairs whose first atoms are of one species, with atoms of the first species in the first
-- list and of the second in the other
abbrev pub energy_with_both : Task → Species → (firsts seconds : List ℕ) → ℤ
energy_with_both w own firsts seconds = lists_energy w (class_of w.mix own First) (class_of w.mix own Second) firsts seconds

-- the energy of a row that is in a set, and 0 of any other row
abbrev pub chosen_row : Task → ℕ → ℕ → ℤ
chosen_row w rows t = if is_in rows t then energy_row w t else pos 0

-- the sum of the energies of the rows below n that are in a set
abbrev pub rows_energy : Task → ℕ → ℕ → ℤ
rows_energy w rows n = int_sum_below n (chosen_row w rows)
