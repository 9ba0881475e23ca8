-- An open step: its cover by tiles of two blocks, the tasks of these tiles, and which of them are still awaited.
use Rattle.std.specs.Prelude.{ℕ, ◌+◌, ◌*◌, ◌-◌, ◌/◌, ◌%◌, ◌≡◌, ◌&&◌, ◌==◌, not, if◌then◌else◌, Bool, true, false, nat_le, nat_lt, List, length}
use Rattle.std.specs.Prelude.{map, count_by, slice_index_or, slice_set, slice_get, Option, Some, None}
use Rattle.std.specs.List.{range_with_len, filter}
use Rattle.std.specs.Option.{option_map, option_map_or}
use Rattle.lj_ring.specs.declared.coordinates.Place.{Place}
use Rattle.lj_task.specs.declared.blocks.TheConstants.{BLOCK}
use Rattle.lj_task.specs.Species.{Composition}
use Rattle.lj_ring.specs.Mix.{can_interact}
use Rattle.lj_ring.specs.Arcs.{arcs_of, squared_gap}
use Rattle.lj_base.specs.declared.names.Label.{Label}
use Rattle.lj_task.specs.declared.task_name.Kind.{Kind}
use Rattle.lj_task.specs.declared.task_name.Kind.TheVariants.{Force, Energy}
use Rattle.lj_task.specs.Tiles.{Tile, force_tile, energy_tile}
use Rattle.lj_task.specs.Block.{Block}
use Rattle.lj_task.specs.Frames.{frame_block}
use Rattle.lj_task.specs.Task.{Task}
use Rattle.lj_step.specs.Motion.{Simulation}
use Rattle.lj_step.specs.Sim.{Sim, OpenStep}
use Rattle.lj_step.specs.Sets.{species_bits_in}

-- how many blocks a count of atoms has, the last one perhaps not full
abbrev pub blocks : ℕ → ℕ
blocks count = (count + (BLOCK - 1)) / BLOCK

-- the number of the tile of two blocks
abbrev pub tile_number : ℕ → ℕ → ℕ
tile_number bi bj = BLOCK * bi + bj

abbrev pub first_block : ℕ → ℕ
first_block k = k / BLOCK

abbrev pub second_block : ℕ → ℕ
second_block k = k % BLOCK

-- the places of a block of a frame
abbrev pub block : List Place → ℕ → List Place
block frame b = frame_block frame b

-- a block of a frame: its places, and which of them are of atoms of the second species
abbrev pub sites_of : Composition → List Place → ℕ → Block
sites_of u frame b = record { places = block frame b; species_bits = species_bits_in u.species_bits b }

-- a tile number is that of two blocks in order, both among the blocks of `count` atoms
abbrev pub is_in_order : ℕ → ℕ → Bool
is_in_order count k = nat_lt (second_block k) (blocks count) && nat_le (first_block k) (second_block k)

-- no pair of atoms of two blocks can interact: the gap between their arcs is out of reach, or both are the same block
-- of one atom
unfoldable pub is_out_of_reach : Composition → List Place → ℕ → Bool
is_out_of_reach u frame k =
    let a = block frame (first_block k) in
    let b = block frame (second_block k) in
    if first_block k == second_block k then length a == 1 else not (can_interact u.mix (squared_gap (arcs_of a) (arcs_of b)))

-- a step over a frame has a tile of this number
abbrev pub is_tile : Composition → List Place → ℕ → Bool
is_tile u frame k = is_in_order (length frame) k && not (is_out_of_reach u frame k)

-- the cover of a step: the numbers of its tiles, in order of the first block, then of the second
abbrev pub cover : Composition → List Place → List ℕ
cover u frame = filter (is_tile u frame) (range_with_len 0 (BLOCK * blocks (length frame)))

-- for each tile number, whether a step over a frame has that tile
abbrev pub all_awaited : Composition → List Place → List Bool
all_awaited u frame = map (is_tile u frame) (range_with_len 0 (BLOCK * blocks (length frame)))

-- how many tiles the open step has
abbrev pub tiles_in : Composition → List Place → Option OpenStep → ℕ
tiles_in u frame None = 0
tiles_in u frame (Some p) = length (cover u frame)

abbrev pub tiles_of : Sim → ℕ
tiles_of live = tiles_in live.composition live.sim.cur live.part

-- the pairs of atoms that a tile covers
abbrev pub tile_of : Kind → ℕ → Tile
tile_of Force k = force_tile (first_block k) (second_block k)
tile_of Energy k = energy_tile (first_block k) (second_block k)

-- the tiles of a step, in the order of its tasks
abbrev pub cover_tiles : Kind → Composition → List Place → List Tile
cover_tiles kind u frame = map (tile_of kind) (cover u frame)

-- the task of a tile of the present step
abbrev pub tile_task : Sim → Label → Kind → ℕ → Task
tile_task live label kind k = record {
  name = record { label = label; step = live.sim.step; kind = kind; bi = first_block k; bj = second_block k };
  mix = live.composition.mix;
  a = sites_of live.composition live.sim.cur (first_block k);
  b = sites_of live.composition live.sim.cur (second_block k);
}

-- the number of the tile of a task, by its blocks
abbrev pub tile_number_of : Task → ℕ
tile_number_of work = tile_number work.name.bi work.name.bj

-- the i-th task of the open step, if there is one
abbrev pub task_of_open : Sim → Label → ℕ → Option OpenStep → Option Task
task_of_open live label i None = None
task_of_open live label i (Some p) =
    option_map (tile_task live label p.kind) (slice_get (cover live.composition live.sim.cur) i)

abbrev pub task_at : Sim → Label → ℕ → Option Task
task_at live label i = task_of_open live label i live.part

-- an open step that awaits all its tiles
abbrev pub opened_step : Kind → Composition → List Place → OpenStep
opened_step kind u frame = record { kind = kind; awaited = all_awaited u frame }

-- the open step awaits the tile of this number
abbrev pub is_number_awaited : OpenStep → ℕ → Bool
is_number_awaited p k = slice_index_or p.awaited k false

-- the open step awaits the i-th tile of its cover
abbrev pub is_tile_awaited_in : Composition → List Place → ℕ → Option OpenStep → Bool
is_tile_awaited_in u frame i None = false
is_tile_awaited_in u frame i (Some p) = option_map_or (is_number_awaited p) (slice_get (cover u frame) i) false

abbrev pub is_tile_awaited : Sim → ℕ → Bool
is_tile_awaited live i = is_tile_awaited_in live.composition live.sim.cur i live.part

-- the task is that of a tile that the open step awaits; no task is if no step is open
abbrev pub IsAwaitedTaskIn : Sim → Label → Task → Option OpenStep → Type 0
IsAwaitedTaskIn live label work None = ⊥
IsAwaitedTaskIn live label work (Some p) =
    (is_number_awaited p (tile_number_of work) ≡ true) × (work ≡ tile_task live label p.kind (tile_number_of work))

abbrev pub IsAwaitedTask : Sim → Label → Task → Type 0
IsAwaitedTask live label work = IsAwaitedTaskIn live label work live.part

-- the open step after one more tile is in
abbrev pub with_tile : ℕ → Option OpenStep → Option OpenStep
with_tile k None = None
with_tile k (Some p) = Some (record { kind = p.kind; awaited = slice_set p.awaited k false })

-- how many tiles are awaited
abbrev pub tiles_left : OpenStep → ℕ
tiles_left p = count_by (λ awaited. awaited) p.awaited

-- the kind of the open step, if there is one
abbrev pub kind_of : Option OpenStep → Option Kind
kind_of None = None
kind_of (Some p) = Some p.kind

-- a step is open, and all its tiles are in
abbrev pub is_whole : Option OpenStep → Bool
is_whole None = false
is_whole (Some p) = nat_le (tiles_left p) 0

-- a simulation with no step open
abbrev pub with_step_closed : Sim → Simulation → Sim
with_step_closed live sim = record { composition = live.composition; sim = sim; part = None }
