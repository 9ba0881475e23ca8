-- Sets of rows of a task, and the sets of places that a row is paired with.
use Rattle.std.specs.Prelude.{ℕ, Bool, true, false, ◌≡◌, ◌<◌, ◌≤◌, length}
use Rattle.std.specs.Int.{bit_at}
use Rattle.lj_ring.specs.declared.mixes.Species.{Species}
use Rattle.lj_ring.specs.declared.mixes.Species.TheVariants.{First, Second}
use Rattle.lj_task.specs.Species.{is_in, species_at}
use Rattle.lj_task.specs.Task.{Task, are_in_order}
use Rattle.lj_task.specs.declared.blocks.TheConstants.{BLOCK}
use Rattle.lj_tile.specs.Rows.{IsSilent}

-- row t is of a place of the first block whose atom is of one species
pub record IsSpeciesRow (w : Task) (own : Species) (t : ℕ) : Type 0 where
  pub within : t < length w.a.places
  pub species : species_at w.a.species_bits t ≡ own

-- each row of a set is of such a place
abbrev pub AreSpeciesRows : Task → Species → ℕ → Type 0
AreSpeciesRows w own set = (t : ℕ) → bit_at set t ≡ 1 → IsSpeciesRow w own t

-- row t has no pair with a push or an energy
abbrev pub IsSilentRow : Task → ℕ → Type 0
IsSilentRow w t = (s : ℕ) → s < length w.b.places → IsSilent w t s

-- a row is in one of two sets, or in none and silent
pub data IsOfOne (one other t : ℕ) (silent : Type 0) : Type 0 where
  of_one : bit_at one t ≡ 1 → bit_at other t ≡ 0 → IsOfOne one other t silent
  of_other : bit_at one t ≡ 0 → bit_at other t ≡ 1 → IsOfOne one other t silent
  of_none : bit_at one t ≡ 0 → bit_at other t ≡ 0 → silent → IsOfOne one other t silent

-- the rows of a task in two sets, by the species of their atoms; each other row is silent
pub record AreRowsBySpecies (w : Task) (one other : ℕ) : Type 0 where
  pub firsts : AreSpeciesRows w First one
  pub seconds : AreSpeciesRows w Second other
  pub each : (t : ℕ) → t < length w.a.places → IsOfOne one other t (IsSilentRow w t)

-- a place is in none of two sets, and silent there; or it is in the one set, in order, and of the first species; or it is
-- in the other, in order, and of the second
pub data IsSplit (firsts seconds here s : ℕ) (ordered : Bool) (silent : Type 0) : Type 0 where
  in_none : is_in firsts s ≡ false → is_in seconds s ≡ false → silent → IsSplit firsts seconds here s ordered silent
  in_firsts : is_in firsts s ≡ true → is_in seconds s ≡ false → ordered ≡ true → species_at here s ≡ First
      → IsSplit firsts seconds here s ordered silent
  in_seconds : is_in firsts s ≡ false → is_in seconds s ≡ true → ordered ≡ true → species_at here s ≡ Second
      → IsSplit firsts seconds here s ordered silent

-- which of two sets place s of the second block is in: its pair with row t is silent, or it is in the set of its species
abbrev pub RowSplit : Task → ℕ → ℕ → ℕ → ℕ → Type 0
RowSplit w t firsts seconds s = IsSplit firsts seconds w.b.species_bits s (are_in_order w t s) (IsSilent w t s)

-- the places of the second block that row t is paired with, in two sets by the species of their atoms
pub record SplitRow (w : Task) (t firsts seconds : ℕ) : Type 0 where
  pub few : length w.b.places ≤ BLOCK
  pub first_within : (s : ℕ) → bit_at firsts s ≡ 1 → s < length w.b.places
  pub second_within : (s : ℕ) → bit_at seconds s ≡ 1 → s < length w.b.places
  pub split : (s : ℕ) → s < length w.b.places → RowSplit w t firsts seconds s
