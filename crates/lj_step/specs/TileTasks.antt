-- The tasks of a step have the values of the tiles of its cover.
use Rattle.std.specs.Prelude.{ℕ, ◌<◌, ◌≡◌, false, List, length, slice_index_or, Option, Some, None}
use Rattle.lj_ring.specs.declared.coordinates.Place.{Place}
use Rattle.lj_task.specs.Species.{Composition}
use Rattle.lj_task.specs.declared.task_name.Kind.{Kind}
use Rattle.lj_task.specs.declared.task_name.Kind.TheVariants.{Force, Energy}
use Rattle.lj_task.specs.Pushes.{no_push}
use Rattle.lj_task.specs.Tiles.{Tile, tile_force, tile_energy, IsForceCover, IsEnergyCover}
use Rattle.lj_task.specs.Task.{Task, atom, task_force, task_second, task_energy}
use Rattle.lj_step.specs.Sim.{Sim, OpenStep}
use Rattle.lj_step.specs.OpenSteps.{cover_tiles, tiles_of}
use Rattle.lj_step.specs.Sums.{IsOutside}

-- a task has the value of a force tile on a frame: its sum at each place of its two blocks is the tile's push on that
-- atom, and the tile pushes no other atom
pub record HasForces (u : Composition) (frame : List Place) (tile : Tile) (work : Task) : Type 0 where
  pub kind : work.name.kind ≡ Force
  pub first : (t : ℕ) → t < length work.a.places
      → task_force work t ≡ tile_force u frame tile (atom work.name.bi t)
  pub second : work.name.bi < work.name.bj → (s : ℕ) → s < length work.b.places
      → task_second work s ≡ tile_force u frame tile (atom work.name.bj s)
  pub others : (i : ℕ) → i < length frame → IsOutside work.name.bi (length work.a.places) i
      → IsOutside work.name.bj (length work.b.places) i → tile_force u frame tile i ≡ no_push

-- a task has the value of an energy tile on a frame: its sum is the tile's energy
pub record HasEnergy (u : Composition) (frame : List Place) (tile : Tile) (work : Task) : Type 0 where
  pub kind : work.name.kind ≡ Energy
  pub energy : task_energy work ≡ tile_energy u frame tile

-- a task has the value of a tile of a kind
abbrev pub HasValue : Kind → Composition → List Place → Tile → Task → Type 0
HasValue Force u frame tile work = HasForces u frame tile work
HasValue Energy u frame tile work = HasEnergy u frame tile work

-- tiles are a cover for sums of a kind
abbrev pub IsCover : Kind → Composition → List Place → List Tile → Type 0
IsCover Force u frame tiles = IsForceCover u frame tiles
IsCover Energy u frame tiles = IsEnergyCover u frame tiles

-- the i-th of a list of tiles
abbrev pub tile_at : List Tile → ℕ → Tile
tile_at tiles i = slice_index_or tiles i (λ i j. false)

-- a task has the value of the i-th tile of the open step
abbrev pub HasValueIn : Sim → ℕ → Task → Option OpenStep → Type 0
HasValueIn live i work None = ⊥
HasValueIn live i work (Some p) =
    HasValue p.kind live.composition live.sim.cur (tile_at (cover_tiles p.kind live.composition live.sim.cur) i) work

abbrev pub HasTileValue : Sim → ℕ → Task → Type 0
HasTileValue live i work = HasValueIn live i work live.part

-- the tiles of the open step, as many as its tasks, are a cover of its kind
pub record IsStepCover (live : Sim) (p : OpenStep) : Type 0 where
  pub count : length (cover_tiles p.kind live.composition live.sim.cur) ≡ tiles_of live
  pub cover : IsCover p.kind live.composition live.sim.cur (cover_tiles p.kind live.composition live.sim.cur)

abbrev pub IsCoveredIn : Sim → Option OpenStep → Type 0
IsCoveredIn live None = Unit {0}
IsCoveredIn live (Some p) = IsStepCover live p

abbrev pub IsCovered : Sim → Type 0
IsCovered live = IsCoveredIn live live.part
