use Rattle.std.proofs.Common.{◌≡◌, ◌==◌, nat_le, nat_lt, not, length, ap, sym, ◌∙◌, arith}
use Rattle.std.proofs.lemmas.Bool.Decides.{nat_tests}
use Rattle.std.proofs.lemmas.List.FromFn.{length-map-range_with_len}
use Rattle.lj_ring.specs.Arcs.{squared_gap}
use Rattle.lj_step.specs.OpenSteps.{blocks, tile_number, is_out_of_reach}
use Rattle.lj_step.specs.KeptSims.{block_arcs}
use Rattle.lj_step.proofs.Reach.{reach_of_one, reach_of_two, gap_at}
use Rattle.lj_step.proofs.cover.is_out_of_reach.Goals as goal

pub bounds-arcs-first : goal.bounds-arcs-first
bounds-arcs-first c =
    let count =
    ap length c.requires.arcs ∙ length-map-range_with_len (block_arcs c.args.frame.now) 0
    (blocks (length c.args.frame.now)) in omega (arith, count, c.requires.first)

pub bounds-arcs-second : goal.bounds-arcs-second
bounds-arcs-second c =
    let count =
    ap length c.requires.arcs ∙ length-map-range_with_len (block_arcs c.args.frame.now) 0
    (blocks (length c.args.frame.now)) in omega (arith, count, c.requires.second)

pub returns-then-first-second : goal.returns-then-first-second
returns-then-first-second c =
    let one =
    reach_of_one c.args.atoms.now c.args.frame.now c.args.first
    (omega (arith, c.requires.first, c.requires.most)) in
    ap (λ places. length places == 1) c.block.ensures
    ∙ sym one ∙ ap (λ b. is_out_of_reach c.args.atoms.now c.args.frame.now (tile_number c.args.first b))
    c.if-first-second.true

pub returns-else-first-second : goal.returns-else-first-second
returns-else-first-second c =
    let frame = c.args.frame.now in
    let gap = squared_gap (block_arcs frame c.args.first) (block_arcs frame c.args.second) in
    let gap_is =
    gap_at frame c.args.arcs.now c.args.first c.args.second c.squared_gap.result _ _ c.requires.arcs c.requires.first
    c.requires.second c.squared_gap.ensures.value in
    let two =
    reach_of_two c.args.atoms.now frame c.args.first c.args.second
    (omega (arith, c.requires.second, c.requires.most)) c.if-first-second.false in
    let turned : nat_le c.reach.result gap ≡ not (nat_lt gap c.reach.result) = grind (arith, nat_tests) in
    ap (nat_le c.reach.result) gap_is ∙ turned ∙ sym (ap not (rw c.mix.ensures at (c.reach.ensures.value gap))) ∙ sym two
