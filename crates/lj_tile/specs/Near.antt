-- A quick test of which places are out of reach, by the coordinates of a block in grains.
use Rattle.std.specs.Prelude.{ℕ, Bool, ◌+◌, ◌*◌, ◌^◌, ◌≡◌, ◌<◌, ◌≤◌, false, List, length, slice_index}
use Rattle.lj_ring.specs.declared.coordinates.Place.{Place}
use Rattle.lj_ring.specs.Ring.{IsOnRing, place_at}
use Rattle.lj_task.specs.declared.blocks.TheConstants.{BLOCK}
use Rattle.lj_tile.specs.declared.near.Bounds.{Bounds}
use Rattle.lj_tile.specs.declared.near.Columns.{Columns}
use Rattle.lj_tile.specs.declared.near.Lanes.{Lanes}
use Rattle.lj_tile.specs.Grains.{grains, grains_apart, square_unit}

-- the s-th lanes have the place in grains
pub record IsLane (grain : ℕ) (lanes : Lanes) (s : ℕ) (p : Place) : Type 0 where
  pub x : slice_index lanes.x s ≡ grains grain p.x
  pub y : slice_index lanes.y s ≡ grains grain p.y
  pub z : slice_index lanes.z s ≡ grains grain p.z
  pub ring : IsOnRing p

-- the lanes have the places in grains
abbrev pub HasLanes : ℕ → Lanes → List Place → Type 0
HasLanes grain lanes places = (s : ℕ) → s < length places → IsLane grain lanes s (place_at places s)

-- a place lies within the bounds
pub record IsInside (bounds : Bounds) (p : Place) : Type 0 where
  pub x : grains_apart (grains 16 p.x) bounds.x.middle ≤ bounds.x.half
  pub y : grains_apart (grains 16 p.y) bounds.y.middle ≤ bounds.y.half
  pub z : grains_apart (grains 16 p.z) bounds.z.middle ≤ bounds.z.half
  pub ring : IsOnRing p

-- no pair interacts from the squared distance `reach - 3` on, in units of 2^16 square grains
abbrev pub IsReach : (ℕ → Bool) → ℕ → ℕ → Type 0
IsReach interact grain reach = (s : ℕ) → reach * square_unit grain ≤ s + 3 * square_unit grain → interact s ≡ false

-- no pair interacts from 2048 grains on
abbrev pub SpansFew : (ℕ → Bool) → ℕ → Type 0
SpansFew interact grain = (s : ℕ) → 2 ^ 11 * 2 ^ grain * (2 ^ 11 * 2 ^ grain) ≤ s → interact s ≡ false

-- the columns are those of the places, and no pair interacts beyond their reach
pub record HasColumns (interact : ℕ → Bool) (columns : Columns) (places : List Place) : Type 0 where
  pub grain : columns.grain ≤ 16
  pub reach : IsReach interact columns.grain columns.reach
  pub few : columns.grain < 16 → SpansFew interact columns.grain
  pub most : length places ≤ BLOCK
  pub fine : HasLanes columns.grain columns.fine places
  pub whole : HasLanes 16 columns.whole places
