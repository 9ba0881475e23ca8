use Rattle.std.proofs.Common.{◌≡◌, ◌<◌, List, length, slice_index_or, sym, ap, ◌∙◌, rules, arith}
use Rattle.lj_task.specs.declared.pushes.Push.{Push}
use Rattle.lj_tile.specs.Pairs.{first_of}
use Rattle.lj_tile.proofs.PairSums.{pushes_next, pushes_of_one}
use Rattle.lj_tile.proofs.RowLemmas.{length_set}
use Rattle.lj_tile.proofs.pair_sums.add_all.Goals as goal

pub loop-i-init : goal.loop-i-init
loop-i-init c =
    let first : length c.args.sums.now.first ≡ 64 = search rules in
    let second : length c.args.sums.now.second ≡ 64 = search rules in
    record {
      first_room = c.add_eights-done.ensures.sums.firsts ∙ first;
      second_room = c.add_eights-done.ensures.sums.seconds ∙ second;
      sums = c.add_eights-done.ensures.sums;
    }

pub add-requires : goal.add-requires
add-requires c =
    let pair : c.at-pair.result ≡ slice_index_or c.args.pairs.now c.loop-i.i 0 = c.at-pair.ensures in
    let within = c.requires.pairs.first c.loop-i.i (omega (arith, c.len-i-end.ensures.value, c.loop-i-test.true)) in
    rw pair (omega (arith, within, c.args.blocks.now.of_blocks.most))

pub loop-i-preserved : goal.loop-i-preserved
loop-i-preserved c =
    let inside : c.loop-i.i < length c.args.pairs.now = omega (arith, c.len-i-end.ensures.value, c.loop-i-test.true) in
    let first = c.requires.pairs.first c.loop-i.i inside in
    let pair : c.at-pair.result ≡ slice_index_or c.args.pairs.now c.loop-i.i 0 = c.at-pair.ensures in
    let within : first_of c.at-pair.result < 64 = rw pair (omega (arith, first, c.args.blocks.now.of_blocks.most)) in
    record {
      first_room = ap (λ (l : List Push). length l) c.add.ensures.first ∙ length_set c.loop-i.sums.first _ _ ∙ c.loop-i.invariant.first_room;
      second_room = ap (λ (l : List Push). length l) c.add.ensures.second ∙ length_set c.loop-i.sums.second _ _ ∙ c.loop-i.invariant.second_room;
      sums =
          pushes_next c.args.scale.now c.args.blocks.now.first.now c.args.blocks.now.second.now c.args.pairs.now c.loop-i.i c.at-pair.result
          c.args.sums.now c.loop-i.sums c.add.new.sums c.loop-i.invariant.sums
          (pushes_of_one c.args.scale.now c.args.blocks.now.first.now c.args.blocks.now.second.now c.at-pair.result c.pair_push-push.result c.loop-i.sums
          c.add.new.sums (rw (sym c.first_of.ensures, sym c.second_of.ensures) c.pair_push-push.ensures.back)
          c.loop-i.invariant.first_room c.loop-i.invariant.second_room within
          (rw (sym c.first_of.ensures, sym c.second_of.ensures) c.pair_push-push.ensures.value)
          c.add.ensures.first c.add.ensures.second) inside c.at-pair.ensures;
    }
