use Rattle.std.proofs.Common.{◌≡◌, [], ◌∷◌, ◌++◌, length, map, ap, ◌∙◌, arith}
use Rattle.std.specs.List.{range_with_len}
use Rattle.std.proofs.lemmas.List.FromFn.{length-map-range_with_len}
use Rattle.lj_ring.specs.Arcs.{arcs_of}
use Rattle.lj_step.specs.OpenSteps.{blocks}
use Rattle.lj_step.specs.KeptSims.{block_arcs}
use Rattle.lj_step.proofs.CoverLists.{map_range_more}
use Rattle.lj_step.proofs.partial.list_arcs.Goals as goal

pub push_reserved-requires : goal.push_reserved-requires
push_reserved-requires c =
    let count =
    ap length c.loop-index.invariant.arcs
    ∙ length-map-range_with_len (block_arcs c.args.frame.now) 0 c.loop-index.index in
    omega (arith, count, c.loop-index.invariant.room, c.requires.room)

pub loop-index-preserved : goal.loop-index-preserved
loop-index-preserved c =
    let made : c.of.result ≡ block_arcs c.args.frame.now c.loop-index.index =
    c.of.ensures.value ∙ ap arcs_of c.block.ensures in
    record {
      arcs = map_range_more (block_arcs c.args.frame.now) c.loop-index.index c.loop-index.arcs.items
          c.push_reserved.new.self.items c.loop-index.invariant.arcs
          (c.push_reserved.ensures.items ∙ ap (λ a. c.loop-index.arcs.items ++ a ∷ []) made);
      room = c.push_reserved.ensures.capacity ∙ c.loop-index.invariant.room;
    }

pub returns-clause-arcs : goal.returns-clause-arcs
returns-clause-arcs c =
    let all : c.loop-index.index ≡ blocks (length c.args.frame.now) = omega arith in
    c.loop-index.invariant.arcs ∙ ap (λ n. map (block_arcs c.args.frame.now) (range_with_len 0 n)) all
