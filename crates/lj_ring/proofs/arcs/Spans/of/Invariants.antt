use Rattle.std.proofs.Common.{ℕ, ◌≡◌, ◌<◌}
use Rattle.lj_ring.specs.Ring.{IsOnRing, place_at}
use Rattle.lj_ring.specs.Spans.{spans_below}
use Rattle.lj_ring.proofs.arcs.Spans.of.Given as goal

abbrev pub invariant-loop-place : goal.invariant-loop-place
invariant-loop-place l = record {
  reached : l.spans ≡ spans_below l.place-index l.places;
  on_ring : (k : ℕ) → k < l.place-index → IsOnRing (place_at l.places k);
}
