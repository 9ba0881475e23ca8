-- Tiles, into which a step over all pairs of atoms is divided, and covers: lists of tiles that have each interacting
-- pair once.
use Rattle.std.specs.Prelude.{ℕ, ◌/◌, ◌==◌, ◌&&◌, ◌||◌, ◌≡◌, ◌≢◌, ◌<◌, ◌≤◌, Bool, true, false, not, nat_lt, ℤ, pos, List}
use Rattle.std.specs.Prelude.{length, count_by, if◌then◌else◌}
use Rattle.lj_ring.specs.declared.coordinates.Place.{Place}
use Rattle.lj_ring.specs.Ring.{squared_distance, ring_sum, int_sum_below}
pub use Rattle.lj_ring.specs.Ring.{place_at}
use Rattle.lj_ring.specs.declared.mixes.Class.{Class}
use Rattle.lj_ring.specs.Scale.{Scale, is_in_cutoff}
use Rattle.lj_task.specs.declared.blocks.TheConstants.{BLOCK}
use Rattle.lj_task.specs.declared.pushes.Push.{Push}
use Rattle.lj_task.specs.Pushes.{push, no_push, energy}
use Rattle.lj_task.specs.Species.{Composition, class_between}

-- the push on an atom at p by the atom at q if the pair is chosen, else none
abbrev pub chosen_push : Scale → Bool → Place → Place → Push
chosen_push u chosen p q = if chosen then push u p q else no_push

-- the energy of a pair if it is chosen, else 0
abbrev pub chosen_energy : Class → Bool → Place → Place → ℤ
chosen_energy k chosen p q = if chosen then energy k p q else pos 0

-- the ring sum of the pushes on an atom at p by the chosen atoms of a list, each by its class
unfoldable pub push_sum : (ℕ → Class) → Place → List Place → (ℕ → Bool) → Push
push_sum class p places chosen = record {
  x = ring_sum (length places) (λ j. (chosen_push (class j).scale (chosen j) p (place_at places j)).x);
  y = ring_sum (length places) (λ j. (chosen_push (class j).scale (chosen j) p (place_at places j)).y);
  z = ring_sum (length places) (λ j. (chosen_push (class j).scale (chosen j) p (place_at places j)).z);
}

-- a tile: a set of ordered pairs of atoms, by their numbers
abbrev pub Tile : Type 0
Tile = ℕ → ℕ → Bool

-- the value of a force tile on a frame, for atom i: the ring sum of the pushes of its pairs (i, j)
abbrev pub tile_force : Composition → List Place → Tile → ℕ → Push
tile_force c frame tile i = push_sum (class_between c i) (place_at frame i) frame (tile i)

-- the value of an energy tile on a frame: the sum of the energies of its pairs i < j
abbrev pub tile_energy : Composition → List Place → Tile → ℤ
tile_energy c frame tile =
    int_sum_below (length frame) (λ j.
    int_sum_below j (λ i. chosen_energy (class_between c i j) (tile i j) (place_at frame i) (place_at frame j)))

-- how many tiles of a list contain the pair
abbrev pub times : ℕ → ℕ → List Tile → ℕ
times i j tiles = count_by (λ tile. tile i j) tiles

-- atoms i and j of a frame interact
abbrev pub are_near : Composition → List Place → ℕ → ℕ → Bool
are_near c frame i j = is_in_cutoff (class_between c i j).scale (squared_distance (place_at frame i) (place_at frame j))

-- a cover for forces: each ordered pair of different atoms lies in one tile if it interacts, and else in one at most
pub record IsForceCover (c : Composition) (frame : List Place) (tiles : List Tile) : Type 0 where
  pub near : (i j : ℕ) → i < length frame → j < length frame → i ≢ j → are_near c frame i j ≡ true
      → times i j tiles ≡ 1
  pub far : (i j : ℕ) → i < length frame → j < length frame → i ≢ j → are_near c frame i j ≡ false
      → times i j tiles ≤ 1
  pub itself : (i : ℕ) → i < length frame → times i i tiles ≡ 0

-- a cover for energies: the same for the pairs i < j
pub record IsEnergyCover (c : Composition) (frame : List Place) (tiles : List Tile) : Type 0 where
  pub near : (i j : ℕ) → i < j → j < length frame → are_near c frame i j ≡ true → times i j tiles ≡ 1
  pub far : (i j : ℕ) → i < j → j < length frame → are_near c frame i j ≡ false → times i j tiles ≤ 1

-- the block of an atom
abbrev pub block_of : ℕ → ℕ
block_of i = i / BLOCK

-- one atom is in block bi and the other in block bj
abbrev pub are_between : ℕ → ℕ → ℕ → ℕ → Bool
are_between bi bj i j = block_of i == bi && block_of j == bj || block_of i == bj && block_of j == bi

-- the force tile of two blocks: the pairs of different atoms, one in each, in both orders
abbrev pub force_tile : ℕ → ℕ → Tile
force_tile bi bj i j = are_between bi bj i j && not (i == j)

-- the energy tile of two blocks: the pairs i < j, i in the first and j in the second
abbrev pub energy_tile : ℕ → ℕ → Tile
energy_tile bi bj i j = block_of i == bi && block_of j == bj && nat_lt i j
