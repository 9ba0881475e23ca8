-- The drift of a simulation, and steps and energies by the sums of tiles.
use Rattle.std.specs.Prelude.{ℕ, ◌%◌, ◌^◌, ◌<◌, ◌≡◌, ℤ, pos, ◌+ℤ◌, List, [], ◌∷◌, length, map, sum_by}
use Rattle.std.specs.List.{range_with_len}
use Rattle.lj_ring.specs.declared.coordinates.Place.{Place}
use Rattle.lj_ring.specs.Ring.{ring_sum}
pub use Rattle.lj_ring.specs.Ring.{IsOnRing, ring_difference}
use Rattle.lj_task.specs.Species.{Composition}
pub use Rattle.lj_ring.specs.Mix.{IsMixture}
use Rattle.lj_task.specs.declared.pushes.Push.{Push}
pub use Rattle.lj_task.specs.Pushes.{opposite_push}
use Rattle.lj_task.specs.Tiles.{Tile, tile_force, tile_energy}
use Rattle.lj_step.specs.Motion.{Simulation, place_at, next_place}

-- each place of a frame lies on the ring
abbrev pub IsFrameOnRing : List Place → Type 0
IsFrameOnRing frame = (i : ℕ) → i < length frame → IsOnRing (place_at frame i)

-- both frames have one count of atoms, and their places lie on the ring
pub record IsWellFormed (sim : Simulation) : Type 0 where
  pub same : length sim.prev ≡ length sim.cur
  pub prev : IsFrameOnRing sim.prev
  pub cur : IsFrameOnRing sim.cur

-- the drift along one axis: the sum on the ring of cur - prev over all atoms
abbrev pub drift_along : (Place → ℕ) → Simulation → ℕ
drift_along axis sim =
    ring_sum (length sim.cur) (λ i. ring_difference (axis (place_at sim.cur i)) (axis (place_at sim.prev i)))

-- the drift along each axis
unfoldable pub drift : Simulation → Push
drift sim = record { x = drift_along (λ p. p.x) sim; y = drift_along (λ p. p.y) sim; z = drift_along (λ p. p.z) sim }

-- the sum on the ring of the values of tiles, for atom i
unfoldable pub tiles_force : Composition → List Place → List Tile → ℕ → Push
tiles_force u frame tiles i = record {
  x = sum_by (λ tile. (tile_force u frame tile i).x) tiles % 2 ^ 32;
  y = sum_by (λ tile. (tile_force u frame tile i).y) tiles % 2 ^ 32;
  z = sum_by (λ tile. (tile_force u frame tile i).z) tiles % 2 ^ 32;
}

-- one step by the sums of tiles
abbrev pub next_simulation_by : Composition → List Tile → Simulation → Simulation
next_simulation_by u tiles sim = record {
  prev = sim.cur;
  cur =
      map (λ i. next_place (place_at sim.prev i) (place_at sim.cur i) (tiles_force u sim.cur tiles i))
      (range_with_len 0 (length sim.cur));
  step = sim.step +ℤ sim.dir;
  dir = sim.dir;
}

-- the sum of the values of energy tiles
abbrev pub tiles_energy : Composition → List Place → List Tile → ℤ
tiles_energy u frame [] = pos 0
tiles_energy u frame (tile ∷ tiles) = tile_energy u frame tile +ℤ tiles_energy u frame tiles
