use Rattle.std.proofs.Common.{◌≡◌, arith, refl, subst, inl, inr}
use Rattle.std.proofs.lemmas.Bool.{cases_lt}
use Rattle.lj_ring.specs.Ring.{IsOnRing, place_at}
use Rattle.lj_ring.proofs.ArcLemmas.{next_spans}
use Rattle.lj_ring.proofs.arcs.Spans.of.Goals as goal

pub loop-place-preserved : goal.loop-place-preserved
loop-place-preserved c =
    let places = c.args.places.now in
    let n = c.loop-place.place-index in
    let here : IsOnRing (place_at places n) = c.with-spans.ensures.on_ring in
    record {
      reached =
          next_spans c.loop-place.spans c.with-spans.result places n c.args.first (place_at places n)
          c.loop-place.invariant.reached c.with-spans.ensures.value c.requires refl;
      on_ring = λ k in_n.
          elim (cases_lt k n) [
            | inl before ↦ c.loop-place.invariant.on_ring k before
            | inr last ↦ let e : n ≡ k = omega arith in subst (λ i. IsOnRing (place_at places i)) e here
          ];
    }
