-- Blocks of places, and when two lists of places are equal.
use Rattle.std.specs.Prelude.{ℕ, Bool, ◌==◌, ◌&&◌, List, slice_index}
use Rattle.std.specs.Ordering.{on, eq_of_both}
use Rattle.std.specs.Cmp.Lexicographic.{pointwise}
use Rattle.lj_ring.specs.declared.coordinates.Place.{Place}

-- two places have equal coordinates
abbrev pub is_same_place : Place → Place → Bool
is_same_place = eq_of_both (eq_of_both (on (λ p. p.x) ◌==◌) (on (λ p. p.y) ◌==◌)) (on (λ p. p.z) ◌==◌)

-- two lists have equal places, one by one
abbrev pub are_same_places : List Place → List Place → Bool
are_same_places = pointwise is_same_place

-- the value of a block: its places, and as bits which of them are of atoms of the second species
pub record Block : Type 0 where
  pub places : List Place
  pub species_bits : ℕ

-- no bit is set in four lanes
abbrev pub has_none : List ℕ → Bool
has_none v = slice_index v 0 == 0 && slice_index v 1 == 0 && (slice_index v 2 == 0 && slice_index v 3 == 0)

-- four lanes are equal, one by one
abbrev pub are_same_lanes : List ℕ → List ℕ → Bool
are_same_lanes v w =
    slice_index v 0 == slice_index w 0 && slice_index v 1 == slice_index w 1
    && (slice_index v 2 == slice_index w 2 && slice_index v 3 == slice_index w 3)
