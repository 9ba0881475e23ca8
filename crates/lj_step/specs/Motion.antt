-- The motion of a simulation: the reversible Störmer-Verlet step in whole numbers, and its measures.
use Rattle.std.specs.Prelude.{ℕ, zero, suc, ◌+◌, ◌-◌, ◌*◌, ◌%◌, ◌^◌, ◌==◌, ℤ, pos, ◌+ℤ◌, ◌-ℤ◌, neg_ℤ, List, length, map}
use Rattle.std.specs.Prelude.{slice_set, if◌then◌else◌}
use Rattle.std.specs.List.{range_with_len}
use Rattle.lj_ring.specs.declared.coordinates.Place.{Place}
use Rattle.lj_ring.specs.Ring.{image, squared_distance, ring_residue, sum_below, ring_sum, int_sum_below}
use Rattle.lj_task.specs.Species.{Composition, class_between}
use Rattle.lj_task.specs.declared.pushes.Push.{Push}
use Rattle.lj_task.specs.Pushes.{push, no_push, energy}
pub use Rattle.lj_task.specs.Tiles.{place_at}

-- a simulation: the places of all atoms at `step`, and those at `step - dir`, where dir is 1 forward and -1 backward
pub record Simulation : Type 0 where
  pub prev : List Place
  pub cur : List Place
  pub step : ℤ
  pub dir : ℤ

-- a simulation begins with two frames at step 0, forward
abbrev pub opening : List Place → List Place → Simulation
opening prev cur = record { prev = prev; cur = cur; step = pos 0; dir = pos 1 }

-- the push on atom i by atom j, and none if they are the same atom
abbrev pub push_of : Composition → List Place → ℕ → ℕ → Push
push_of u frame i j =
    if j == i then no_push else push (class_between u i j).scale (place_at frame i) (place_at frame j)

-- the ring sum of the pushes on atom i by all other atoms
unfoldable pub force : Composition → List Place → ℕ → Push
force u frame i = record {
  x = ring_sum (length frame) (λ j. (push_of u frame i j).x);
  y = ring_sum (length frame) (λ j. (push_of u frame i j).y);
  z = ring_sum (length frame) (λ j. (push_of u frame i j).z);
}

-- the next coordinate on an axis: 2 cur - prev + push on the ring
abbrev pub next_coordinate : ℕ → ℕ → ℕ → ℕ
next_coordinate prev cur push = (2 * cur + (2 ^ 32 - prev) + push) % 2 ^ 32

-- the next place of an atom
abbrev pub next_place : Place → Place → Push → Place
next_place prev cur push = record {
  x = next_coordinate prev.x cur.x push.x;
  y = next_coordinate prev.y cur.y push.y;
  z = next_coordinate prev.z cur.z push.z;
}

-- the next place of atom i under the pushes of all other atoms
abbrev pub moved_place : Composition → List Place → List Place → ℕ → Place
moved_place u prev cur i = next_place (place_at prev i) (place_at cur i) (force u cur i)

-- the frame after cur
abbrev pub next_frame : Composition → List Place → List Place → List Place
next_frame u prev cur = map (moved_place u prev cur) (range_with_len 0 (length cur))

-- one step
abbrev pub next_simulation : Composition → Simulation → Simulation
next_simulation u sim =
    record { prev = sim.cur; cur = next_frame u sim.prev sim.cur; step = sim.step +ℤ sim.dir; dir = sim.dir }

-- n steps
abbrev pub steps : Composition → ℕ → Simulation → Simulation
steps u zero sim = sim
steps u (suc n) sim = steps u n (next_simulation u sim)

-- the motion reversed: the frames change places
abbrev pub reversal : Simulation → Simulation
reversal sim = record { prev = sim.cur; cur = sim.prev; step = sim.step -ℤ sim.dir; dir = neg_ℤ sim.dir }

-- a displacement, in ring units along each axis
pub record Displacement : Type 0 where
  pub x : ℤ
  pub y : ℤ
  pub z : ℤ

-- a tug adds a displacement per step to atom i: its previous place is moved back by it
abbrev pub with_tug : ℕ → Displacement → Simulation → Simulation
with_tug i d sim =
    let p = place_at sim.prev i in
    let back : Place =
    record { x = ring_residue (pos p.x -ℤ d.x); y = ring_residue (pos p.y -ℤ d.y); z = ring_residue (pos p.z -ℤ d.z) } in
    record sim { prev = slice_set sim.prev i back }

-- the momentum: the sums over all atoms of the images of cur - prev
abbrev pub momentum : Simulation → Displacement
momentum sim =
    let n = length sim.cur in
    record {
      x = int_sum_below n (λ i. image (place_at sim.cur i).x (place_at sim.prev i).x);
      y = int_sum_below n (λ i. image (place_at sim.cur i).y (place_at sim.prev i).y);
      z = int_sum_below n (λ i. image (place_at sim.cur i).z (place_at sim.prev i).z);
    }

-- the kinetic number: the sum of the squares of the same images over all atoms and axes
abbrev pub kinetic : Simulation → ℕ
kinetic sim = sum_below (length sim.cur) (λ i. squared_distance (place_at sim.cur i) (place_at sim.prev i))

-- the potential: the sum of the energies of all pairs of atoms i < j, in units of 2^-24 ε
abbrev pub potential : Composition → List Place → ℤ
potential u frame =
    int_sum_below (length frame) (λ j.
    int_sum_below j (λ i. energy (class_between u i j) (place_at frame i) (place_at frame j)))
