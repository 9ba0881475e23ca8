-- The arcs of the ring that hold the atoms of a block, axis by axis, and the gaps between the arcs of two blocks.
use Rattle.std.specs.Prelude.{ℕ, zero, suc, ◌+◌, ◌-◌, ◌*◌, ◌≤◌, ◌<◌, ℤ, pos, ◌+ℤ◌, ◌-ℤ◌, nat_le, min, ◌||◌}
use Rattle.std.specs.Prelude.{unsigned_abs, List, length, if◌then◌else◌}
use Rattle.std.specs.Int.{int_min, int_max}
use Rattle.lj_ring.specs.declared.coordinates.Place.{Place}
use Rattle.lj_ring.specs.declared.arcs.Arc.{Arc}
use Rattle.lj_ring.specs.declared.arcs.Arcs.{Arcs}
use Rattle.lj_ring.specs.Ring.{image, ring_residue, ring_difference, place_at}

-- the least of 0 and f 0, .. f (n - 1)
abbrev pub least_below : ℕ → (ℕ → ℤ) → ℤ
least_below zero f = pos 0
least_below (suc n) f = int_min (least_below n f) (f n)

-- the greatest of 0 and f 0, .. f (n - 1)
abbrev pub greatest_below : ℕ → (ℕ → ℤ) → ℤ
greatest_below zero f = pos 0
greatest_below (suc n) f = int_max (greatest_below n f) (f n)

-- the image of atom i's coordinate from the first atom's
abbrev pub offset : (Place → ℕ) → List Place → ℕ → ℤ
offset axis places i = image (axis (place_at places i)) (axis (place_at places 0))

-- the arc of some atoms along one axis: from the least to the greatest image of a coordinate from the first atom's
abbrev pub arc_along : (Place → ℕ) → List Place → Arc
arc_along axis places =
    let lo = least_below (length places) (offset axis places) in
    let hi = greatest_below (length places) (offset axis places) in
    record { start = ring_residue (pos (axis (place_at places 0)) +ℤ lo); len = unsigned_abs (hi -ℤ lo) }

-- the arcs of some atoms
unfoldable pub arcs_of : List Place → Arcs
arcs_of places = record {
  x = arc_along (λ p. p.x) places;
  y = arc_along (λ p. p.y) places;
  z = arc_along (λ p. p.z) places;
}

-- a coordinate lies on an arc: it is at most `len` units after the start
abbrev pub IsOnArc : Arc → ℕ → Type 0
IsOnArc arc c = ring_difference c arc.start ≤ arc.len

-- a place lies on the arcs along each axis
pub record IsOn (arcs : Arcs) (place : Place) : Type 0 where
  pub x : IsOnArc arcs.x place.x
  pub y : IsOnArc arcs.y place.y
  pub z : IsOnArc arcs.z place.z

-- each of some places lies on the arcs
abbrev pub AreOn : Arcs → List Place → Type 0
AreOn arcs places = (i : ℕ) → i < length places → IsOn arcs (place_at places i)

-- the gap between two arcs, the shorter way round the ring: 0 where one begins on the other
abbrev pub gap : Arc → Arc → ℕ
gap a b =
    let d = ring_difference b.start a.start in
    let e = ring_difference a.start b.start in
    if nat_le d a.len || nat_le e b.len then 0 else min (d - a.len) (e - b.len)

-- the squared gap of two blocks: the sum of the squares of the gaps along each axis
abbrev pub squared_gap : Arcs → Arcs → ℕ
squared_gap a b = gap a.x b.x * gap a.x b.x + gap a.y b.y * gap a.y b.y + gap a.z b.z * gap a.z b.z
