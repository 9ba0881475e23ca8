-- The least and the greatest image of some places from the first one, as the code stores them.
use Rattle.std.specs.Prelude.{ℕ, pos, ◌+ℤ◌, ◌-ℤ◌, unsigned_abs, List}
use Rattle.std.specs.Int.{int_min, int_max}
use Rattle.lj_ring.specs.declared.coordinates.Place.{Place}
use Rattle.lj_ring.specs.declared.arcs.Arc.{Arc}
use Rattle.lj_ring.specs.declared.arcs.Span.{Span}
use Rattle.lj_ring.specs.declared.arcs.Spans.{Spans}
use Rattle.lj_ring.specs.Arcs.{greatest_below, least_below, offset}
use Rattle.lj_ring.specs.Ring.{image, ring_residue}

-- the span of the first n places along an axis
abbrev pub span_below : ℕ → (Place → ℕ) → List Place → Span
span_below n axis places = record {
  least = least_below n (offset axis places);
  greatest = greatest_below n (offset axis places);
}

-- the spans of the first n places along each axis
abbrev pub spans_below : ℕ → List Place → Spans
spans_below n places = record {
  x = span_below n (λ p. p.x) places;
  y = span_below n (λ p. p.y) places;
  z = span_below n (λ p. p.z) places;
}

-- a span widened to include the image of to - from
abbrev pub span_reaching : Span → ℕ → ℕ → Span
span_reaching span to from = record {
  least = int_min span.least (image to from);
  greatest = int_max span.greatest (image to from);
}

-- spans widened to include a place
abbrev pub wider_spans : Spans → Place → Place → Spans
wider_spans spans place first = record {
  x = span_reaching spans.x place.x first.x;
  y = span_reaching spans.y place.y first.y;
  z = span_reaching spans.z place.z first.z;
}

-- the arc from middle + least to middle + greatest
abbrev pub arc_over : Span → ℕ → Arc
arc_over span middle =
    record { start = ring_residue (pos middle +ℤ span.least); len = unsigned_abs (span.greatest -ℤ span.least) }
