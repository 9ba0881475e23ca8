-- A task and its value.
use Rattle.std.specs.Prelude.{ℕ, ◌+◌, ◌*◌, ◌==◌, ◌≡◌, ◌<◌, ◌≤◌, Bool, not, nat_lt, ℤ, length}
use Rattle.lj_ring.specs.Ring.{int_sum_below}
use Rattle.lj_ring.specs.declared.mixes.Class.{Class}
use Rattle.lj_ring.specs.Mix.{Mix, class_of}
use Rattle.lj_task.specs.declared.pushes.Push.{Push}
use Rattle.lj_task.specs.declared.task_name.TaskName.{TaskName}
use Rattle.lj_task.specs.declared.blocks.TheConstants.{BLOCK, MAX_BLOCKS}
use Rattle.lj_task.specs.Block.{Block}
use Rattle.lj_task.specs.Species.{species_at}
use Rattle.lj_task.specs.Tiles.{place_at, push_sum, chosen_energy}

-- the value of a task: its name, the mixture of its simulation, and its two blocks
pub record Task : Type 0 where
  pub name : TaskName
  pub mix : Mix
  pub a : Block
  pub b : Block

-- the number of the atom at place t of block n
abbrev pub atom : ℕ → ℕ → ℕ
atom n t = BLOCK * n + t

-- place t of the first block and place s of the second hold different atoms
abbrev pub are_apart : Task → ℕ → ℕ → Bool
are_apart w t s = not (atom w.name.bi t == atom w.name.bj s)

-- the atom at place t of the first block has a lesser number than the one at place s of the second
abbrev pub are_in_order : Task → ℕ → ℕ → Bool
are_in_order w t s = nat_lt (atom w.name.bi t) (atom w.name.bj s)

-- the class of place t of the first block and place s of the second
abbrev pub class_in : Task → ℕ → ℕ → Class
class_in w t s = class_of w.mix (species_at w.a.species_bits t) (species_at w.b.species_bits s)

-- the value of a force task for place t of its first block: the ring sum of the pushes by the second's other atoms
abbrev pub task_force : Task → ℕ → Push
task_force w t = push_sum (class_in w t) (place_at w.a.places t) w.b.places (are_apart w t)

-- its value for place s of its second block: the ring sum of the pushes by the first's other atoms
abbrev pub task_second : Task → ℕ → Push
task_second w s = push_sum (λ t. class_in w t s) (place_at w.b.places s) w.a.places (λ t. are_apart w t s)

-- the value of an energy task: the sum of the energies of the pairs i < j, i in the first block and j in the second
unfoldable pub task_energy : Task → ℤ
task_energy w =
    int_sum_below (length w.b.places) (λ s.
    int_sum_below (length w.a.places) (λ t.
    chosen_energy (class_in w t s) (are_in_order w t s) (place_at w.a.places t) (place_at w.b.places s)))

-- a task's blocks have 1 to 64 places and are in order, and a block with itself is the same twice
pub record IsTask (w : Task) : Type 0 where
  pub some_first : 1 ≤ length w.a.places
  pub some_second : 1 ≤ length w.b.places
  pub most_first : length w.a.places ≤ BLOCK
  pub most_second : length w.b.places ≤ BLOCK
  pub first_index : w.name.bi < MAX_BLOCKS
  pub second_index : w.name.bj < MAX_BLOCKS
  pub diagonal : w.name.bi ≡ w.name.bj → w.a ≡ w.b
  pub in_order : w.name.bi ≤ w.name.bj
