-- The push and the energy of a pair of atoms.
use Rattle.std.specs.Prelude.{ℕ, ◌+◌, ◌%◌, ◌^◌, ℤ, pos, ◌*ℤ◌, int_div}
use Rattle.lj_ring.specs.declared.coordinates.Place.{Place}
use Rattle.lj_ring.specs.Ring.{image, squared_distance, ring_residue, ring_difference}
use Rattle.lj_ring.specs.Scale.{Scale}
use Rattle.lj_ring.specs.declared.mixes.Class.{Class}
use Rattle.lj_table.specs.Entries.{push_at, energy_at, weighted_energy}
use Rattle.lj_task.specs.declared.pushes.Push.{Push}

-- the push that is 0
abbrev pub no_push : Push
no_push = record { x = 0; y = 0; z = 0 }

-- a push along one axis on the ring: table entry times step factor times image over 2^56, toward zero
abbrev pub push_along : Scale → ℤ → ℤ → ℕ
push_along u entry image = ring_residue (int_div (entry *ℤ pos u.step_factor *ℤ image) (pos (2 ^ 56)))

-- the push on an atom at p by an atom at q: along the images of p - q, and 0 where the pair does not interact
unfoldable pub push : Scale → Place → Place → Push
push u p q =
    let entry = push_at u (squared_distance p q) in
    record {
      x = push_along u entry (image p.x q.x);
      y = push_along u entry (image p.y q.y);
      z = push_along u entry (image p.z q.z);
    }

-- the energy of a pair times the weight of its class, in units of 2^-24 ε and toward zero: 0 where it does not interact
abbrev pub energy : Class → Place → Place → ℤ
energy k p q = weighted_energy k.weight (energy_at k.scale (squared_distance p q))

-- the push in the opposite direction
abbrev pub opposite_push : Push → Push
opposite_push p = record { x = ring_difference 0 p.x; y = ring_difference 0 p.y; z = ring_difference 0 p.z }

-- the sum of two pushes on the ring
abbrev pub sum_of_pushes : Push → Push → Push
sum_of_pushes a b = record { x = (a.x + b.x) % 2 ^ 32; y = (a.y + b.y) % 2 ^ 32; z = (a.z + b.z) % 2 ^ 32 }
