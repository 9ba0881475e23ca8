-- The partial sums of an open step, over the tiles that are in.
use Rattle.std.specs.Prelude.{ℕ, ◌+◌, ◌*◌, ◌^◌, ◌<◌, ◌≤◌, ◌≡◌, ◌/◌, ◌⊎◌, Bool, true, false, ℤ, pos, unsigned_abs, List}
use Rattle.std.specs.Prelude.{length, slice_index_or, vec_capacity, count_by, min, max, Option, Some, None, if◌then◌else◌}
use Rattle.lj_ring.specs.declared.coordinates.Place.{Place}
use Rattle.lj_ring.specs.Ring.{ring_sum, int_sum_below}
use Rattle.lj_task.specs.declared.blocks.TheConstants.{BLOCK}
use Rattle.lj_task.specs.Species.{Composition, class_between}
use Rattle.lj_task.specs.declared.pushes.Push.{Push}
use Rattle.lj_task.specs.declared.task_name.Kind.{Kind}
use Rattle.lj_task.specs.declared.task_name.Kind.TheVariants.{Force, Energy}
use Rattle.lj_task.specs.Pushes.{no_push, sum_of_pushes, energy}
use Rattle.lj_task.specs.Task.{Task, task_force, task_second}
use Rattle.lj_step.specs.Motion.{place_at, push_of}
use Rattle.lj_step.specs.declared.partial.Partial.{Partial}
use Rattle.lj_step.specs.OpenSteps.{blocks, tile_number, tile_number_of, is_tile, cover}

-- the number of the tile of a pair of atoms, in either order
abbrev pub pair_number : ℕ → ℕ → ℕ
pair_number i j = tile_number (min (i / BLOCK) (j / BLOCK)) (max (i / BLOCK) (j / BLOCK))

-- the flag of the tile of a pair of atoms
abbrev pub is_pair_awaited : List Bool → ℕ → ℕ → Bool
is_pair_awaited awaited i j = slice_index_or awaited (pair_number i j) false

-- the push on atom i by atom j so far: none while the tile of the pair is awaited
abbrev pub push_so_far : Composition → List Place → List Bool → ℕ → ℕ → Push
push_so_far u frame awaited i j = if is_pair_awaited awaited i j then no_push else push_of u frame i j

-- the ring sum of the pushes on atom i by the tiles that are in
unfoldable pub force_so_far : Composition → List Place → List Bool → ℕ → Push
force_so_far u frame awaited i = record {
  x = ring_sum (length frame) (λ j. (push_so_far u frame awaited i j).x);
  y = ring_sum (length frame) (λ j. (push_so_far u frame awaited i j).y);
  z = ring_sum (length frame) (λ j. (push_so_far u frame awaited i j).z);
}

-- the energy of the pair i < j so far: 0 while its tile is awaited
abbrev pub energy_so_far_of : Composition → List Place → List Bool → ℕ → ℕ → ℤ
energy_so_far_of u frame awaited i j =
    if is_pair_awaited awaited i j then pos 0 else energy (class_between u i j) (place_at frame i) (place_at frame j)

-- the sum of the energies of the tiles that are in
unfoldable pub energy_so_far : Composition → List Place → List Bool → ℤ
energy_so_far u frame awaited =
    int_sum_below (length frame) (λ j. int_sum_below j (λ i. energy_so_far_of u frame awaited i j))

-- a partial step has memory for `count` atoms
pub record HasCapacity (count : ℕ) (p : Partial) : Type 0 where
  pub pushes : length p.pushes.items ≡ count
  pub awaited : length p.awaited.items ≡ BLOCK * blocks count
  pub tiles : BLOCK * blocks count ≤ vec_capacity p.tiles
  pub arcs : blocks count ≤ vec_capacity p.arcs

-- the tiles, flags and sums of an open step are those of the tiles that are in
pub record IsOpen (u : Composition) (frame : List Place) (p : Partial) (kind : Kind) : Type 0 where
  pub tiles : p.tiles.items ≡ cover u frame
  pub within : (k : ℕ) → slice_index_or p.awaited.items k false ≡ true → is_tile u frame k ≡ true
  pub left : p.left ≡ count_by (λ awaited. awaited) p.awaited.items
  pub pushes : kind ≡ Force → (i : ℕ) → i < length frame
      → slice_index_or p.pushes.items i no_push ≡ force_so_far u frame p.awaited.items i
  pub energy : kind ≡ Energy → p.energy ≡ energy_so_far u frame p.awaited.items
  pub size : unsigned_abs p.energy + p.left * 2 ^ 63 ≤ 2 ^ 75

abbrev pub IsPartial : Composition → List Place → Partial → Option Kind → Type 0
IsPartial u frame p None = Unit {0}
IsPartial u frame p (Some kind) = IsOpen u frame p kind

-- the atom is not one of the first `places` of block b
abbrev pub IsOutside : ℕ → ℕ → ℕ → Type 0
IsOutside b places i = (i < tile_number b 0) ⊎ (tile_number b places ≤ i)

-- the sum for place t in a list of sums
abbrev pub sum_of : List Push → ℕ → Push
sum_of sums t = slice_index_or sums t no_push

-- sums t with from ≤ t < until are added to those of atoms start + t, and the others are unchanged
pub record HasPartAdded (start from until : ℕ) (sums : ℕ → Push) (old new : List Push) : Type 0 where
  pub count : length new ≡ length old
  pub part : (t : ℕ) → from ≤ t → t < until → slice_index_or new (start + t) no_push
      ≡ sum_of_pushes (slice_index_or old (start + t) no_push) (sums t)
  pub others : (i : ℕ) → (i < start + from) ⊎ (start + until ≤ i)
      → slice_index_or new i no_push ≡ slice_index_or old i no_push

-- sums are added to those of the atoms of a block, one for each of its places, and the others are unchanged
pub record HasBlockAdded (b places : ℕ) (sums : ℕ → Push) (old new : List Push) : Type 0 where
  pub count : length new ≡ length old
  pub block : (t : ℕ) → t < places → slice_index_or new (tile_number b t) no_push
      ≡ sum_of_pushes (slice_index_or old (tile_number b t) no_push) (sums t)
  pub others : (i : ℕ) → IsOutside b places i → slice_index_or new i no_push ≡ slice_index_or old i no_push

-- the sums of a force task are added to those of its two blocks' atoms, once if they are the same block, and the others
-- are unchanged
pub record HasAdded (work : Task) (old new : List Push) : Type 0 where
  pub count : length new ≡ length old
  pub first : work.name.kind ≡ Force → (t : ℕ) → t < length work.a.places
      → slice_index_or new (tile_number work.name.bi t) no_push
      ≡ sum_of_pushes (slice_index_or old (tile_number work.name.bi t) no_push) (task_force work t)
  pub second : work.name.kind ≡ Force → work.name.bi < work.name.bj → (s : ℕ) → s < length work.b.places
      → slice_index_or new (tile_number work.name.bj s) no_push
      ≡ sum_of_pushes (slice_index_or old (tile_number work.name.bj s) no_push) (task_second work s)
  pub others : (i : ℕ) → IsOutside work.name.bi (length work.a.places) i
      → IsOutside work.name.bj (length work.b.places) i
      → slice_index_or new i no_push ≡ slice_index_or old i no_push

-- a task is of an awaited tile of a partial step, which has a sum for each of its atoms, and its energy can be added
pub record CanAdd (work : Task) (p : Partial) : Type 0 where
  pub awaited : tile_number_of work < length p.awaited.items
  pub left : 1 ≤ p.left
  pub first : tile_number work.name.bi (length work.a.places) ≤ length p.pushes.items
  pub second : tile_number work.name.bj (length work.b.places) ≤ length p.pushes.items
  pub size : unsigned_abs p.energy + 2 ^ 63 ≤ 2 ^ 75

-- a partial step keeps its kind, its tiles and the memory for both lists
pub record HasKeptTiles (old new : Partial) : Type 0 where
  pub kind : new.kind ≡ old.kind
  pub arcs : vec_capacity new.arcs ≡ vec_capacity old.arcs
  pub tiles : new.tiles.items ≡ old.tiles.items
  pub capacity : vec_capacity new.tiles ≡ vec_capacity old.tiles
