use Rattle.std.proofs.Common.{◌≡◌, ◌<◌, ◌+◌, ℕ, List, length, drop, slice_index_or, refl, sym, ap, ◌∙◌, rules, arith}
use Rattle.std.proofs.lemmas.List.{get_or-drop, length-drop}
use Rattle.lj_ring.specs.declared.coordinates.Place.{Place}
use Rattle.lj_ring.specs.Scale.{Scale}
use Rattle.lj_task.specs.declared.pushes.Push.{Push}
use Rattle.lj_tile.proofs.RowLemmas.{length_set}
use Rattle.lj_task.specs.Pushes.{push, opposite_push}
use Rattle.lj_task.specs.Tiles.{place_at}
use Rattle.lj_tile.specs.Pairs.{first_of, second_of}
use Rattle.lj_task.proofs.Opposites.{push_back_is}
use Rattle.lj_tile.proofs.PairSums.{pushes_none, pushes_next, pushes_of_one, lane_push}
use Rattle.lj_tile.proofs.pair_sums.add_eight.Goals as goal

pub loop-k-init : goal.loop-k-init
loop-k-init c = record {
  first_room = search rules;
  second_room = search rules;
  sums = pushes_none c.args.scale.now c.args.blocks.now.first.now c.args.blocks.now.second.now c.args.sums.now;
}

pub add-requires : goal.add-requires
add-requires c =
    let pair : c.at.result ≡ slice_index_or c.args.pairs.now (c.args.at + c.loop-k.k) 0 = c.at.ensures in
    let within = c.requires.pairs.first (c.args.at + c.loop-k.k) (omega (arith, c.requires.within, c.loop-k-test.true)) in
    rw pair (omega (arith, within, c.args.blocks.now.of_blocks.most))

pub loop-k-preserved : goal.loop-k-preserved
loop-k-preserved c =
    let u : Scale = c.args.scale.now in
    let pair : ℕ = slice_index_or c.args.pairs.now (c.args.at + c.loop-k.k) 0 in
    let its : c.at.result ≡ pair = c.at.ensures in
    let inside : c.args.at + c.loop-k.k < length c.args.pairs.now = omega (arith, c.requires.within, c.loop-k-test.true) in
    let first = c.requires.pairs.first (c.args.at + c.loop-k.k) inside in
    let second = c.requires.pairs.second (c.args.at + c.loop-k.k) inside in
    let p : Place = place_at c.args.blocks.now.first.now (first_of pair) in
    let q : Place = place_at c.args.blocks.now.second.now (second_of pair) in
    let lane = c.pushes-eight.ensures c.loop-k.k p q c.loop-k-test.true (c.apart.ensures c.loop-k.k c.loop-k-test.true) in
    let value =
    lane_push c.pushes-eight.result.x c.pushes-eight.result.y c.pushes-eight.result.z c.pushes-eight.result c.loop-k.k (push u p q)
    refl refl refl lane in
    let back : push u q p ≡ opposite_push (push u p q) =
    push_back_is u p q c.step_factor-step_factor.ensures.near (c.args.blocks.now.of_blocks.first (first_of pair) first)
    (c.args.blocks.now.of_blocks.second (second_of pair) second) in
    record {
      first_room = ap (λ (l : List Push). length l) c.add.ensures.first ∙ length_set c.loop-k.sums.first _ _ ∙ c.loop-k.invariant.first_room;
      second_room =
          ap (λ (l : List Push). length l) c.add.ensures.second ∙ length_set c.loop-k.sums.second _ _
          ∙ c.loop-k.invariant.second_room;
      sums =
          pushes_next u c.args.blocks.now.first.now c.args.blocks.now.second.now (drop c.args.at c.args.pairs.now) c.loop-k.k pair c.args.sums.now
          c.loop-k.sums c.add.new.sums c.loop-k.invariant.sums
          (pushes_of_one u c.args.blocks.now.first.now c.args.blocks.now.second.now pair _ c.loop-k.sums c.add.new.sums
          (back ∙ ap opposite_push (sym value)) c.loop-k.invariant.first_room c.loop-k.invariant.second_room
          (omega (arith, first, c.args.blocks.now.of_blocks.most)) value
          (rw (sym its) c.add.ensures.first) (rw (sym its) c.add.ensures.second))
          (rw length-drop (omega (arith, c.requires.within, c.loop-k-test.true)))
          (sym (get_or-drop c.args.at c.args.pairs.now c.loop-k.k 0));
    }
