-- The sums of a task's pairs of atoms i < j, i in the first block and j in the second, row by row of the first.
use Rattle.std.specs.Prelude.{ℕ, ◌≡◌, ℤ, pos, List, length}
use Rattle.lj_ring.specs.Ring.{ring_sum, int_sum_below}
use Rattle.lj_ring.specs.declared.mixes.Class.{Class}
use Rattle.lj_ring.specs.declared.coordinates.Place.{Place}
use Rattle.lj_ring.specs.Scale.{Scale}
use Rattle.lj_task.specs.declared.pushes.Push.{Push}
use Rattle.lj_task.specs.Pushes.{no_push}
use Rattle.lj_task.specs.Species.{is_in}
use Rattle.lj_task.specs.Tiles.{place_at, chosen_push, chosen_energy}
use Rattle.lj_task.specs.Task.{Task, are_in_order, class_in}

-- the push by place s of the second block on place t of the first if the atom of s is the later one, else none
abbrev pub ordered_push : Task → ℕ → ℕ → Push
ordered_push w t s = chosen_push (class_in w t s).scale (are_in_order w t s) (place_at w.a.places t) (place_at w.b.places s)

-- the push by place t of the first block on place s of the second if the atom of s is the later one, else none
abbrev pub push_back : Task → ℕ → ℕ → Push
push_back w t s = chosen_push (class_in w t s).scale (are_in_order w t s) (place_at w.b.places s) (place_at w.a.places t)

-- the ring sum of the pushes on place t of the first block by the first n places of the second
abbrev pub sum_on_first : Task → ℕ → ℕ → Push
sum_on_first w t n = record {
  x = ring_sum n (λ s. (ordered_push w t s).x);
  y = ring_sum n (λ s. (ordered_push w t s).y);
  z = ring_sum n (λ s. (ordered_push w t s).z);
}

-- the ring sum of the pushes on place s of the second block by the first n places of the first
abbrev pub sum_on_second : Task → ℕ → ℕ → Push
sum_on_second w s n = record {
  x = ring_sum n (λ t. (push_back w t s).x);
  y = ring_sum n (λ t. (push_back w t s).y);
  z = ring_sum n (λ t. (push_back w t s).z);
}

-- the energy of place t of the first block with place s of the second
abbrev pub energy_of : Task → ℕ → ℕ → ℤ
energy_of w t s = chosen_energy (class_in w t s) (are_in_order w t s) (place_at w.a.places t) (place_at w.b.places s)

-- the push and the energy of places t and s are 0
pub record IsSilent (w : Task) (t s : ℕ) : Type 0 where
  pub there : ordered_push w t s ≡ no_push
  pub back : push_back w t s ≡ no_push
  pub energy : energy_of w t s ≡ pos 0

-- the push by place s of a block on an atom `here`, if the place is in a set
abbrev pub push_in : Scale → ℕ → Place → List Place → ℕ → Push
push_in u set here places s = chosen_push u (is_in set s) here (place_at places s)

-- the ring sum of the pushes by the first n places
abbrev pub pushes_in : Scale → ℕ → Place → List Place → ℕ → Push
pushes_in u set here places n = record {
  x = ring_sum n (λ s. (push_in u set here places s).x);
  y = ring_sum n (λ s. (push_in u set here places s).y);
  z = ring_sum n (λ s. (push_in u set here places s).z);
}

-- the energy of place t of the first block with the later atoms of the second
abbrev pub energy_row : Task → ℕ → ℤ
energy_row w t = int_sum_below (length w.b.places) (energy_of w t)

-- the energy of an atom `here` with place s of a block, if the place is in a set
abbrev pub energy_in : Class → ℕ → Place → List Place → ℕ → ℤ
energy_in class set here places s = chosen_energy class (is_in set s) here (place_at places s)

-- the sum of the energies with the first n places
abbrev pub energies_in : Class → ℕ → Place → List Place → ℕ → ℤ
energies_in class set here places n = int_sum_below n (energy_in class set here places)
