use Rattle.std.proofs.Common.{refl, sym, subst}
use Rattle.lj_ring.specs.Arcs.{AreOn}
use Rattle.lj_ring.specs.Ring.{place_at}
use Rattle.lj_ring.proofs.ArcLemmas.{arcs_of_spans, on_arc_of}
use Rattle.lj_ring.proofs.arcs.Arcs.of.Goals as goal

pub returns-clause-value : goal.returns-clause-value
returns-clause-value c =
    arcs_of_spans c.of-spans.result c.args.places.now (place_at c.args.places.now 0)
    c.arc.result c.arc-2.result c.arc-3.result c.of-spans.ensures.value refl
    c.arc.ensures c.arc-2.ensures c.arc-3.ensures

pub returns-clause-on : goal.returns-clause-on
returns-clause-on c =
    let places = c.args.places.now in
    subst (λ arcs. AreOn arcs places)
    (sym (arcs_of_spans c.of-spans.result places (place_at places 0)
    c.arc.result c.arc-2.result c.arc-3.result c.of-spans.ensures.value refl
    c.arc.ensures c.arc-2.ensures c.arc-3.ensures))
    (on_arc_of places c.of-spans.ensures.on_ring)
