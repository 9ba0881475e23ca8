use Rattle.std.proofs.Common.{ℕ, ◌≡◌, ◌≤◌, Bool, false, [], ◌∷◌, ◌++◌, length, slice_index_or, vec_capacity, ap}
use Rattle.std.proofs.Common.{◌∙◌, arith}
use Rattle.std.specs.List.{range_with_len, filter}
use Rattle.lj_step.proofs.CoverLists.{one_kept, one_skipped, few_more}
use Rattle.lj_step.proofs.partial.list_tiles.Goals as goal
use Rattle.lj_step.proofs.partial.list_tiles.Goals.{then-is_awaited, else-is_awaited}

pub loop-number-preserved : goal.loop-number-preserved
loop-number-preserved c =
    let n = c.loop-number.number in
    let p : ℕ → Bool = λ k. slice_index_or c.args.awaited.now k false in
    let old = c.loop-number.tiles.items in
    elim c.if-is_awaited.branch [
      | then-is_awaited w ↦
          let pushed : c.if-is_awaited.tiles.items ≡ old ++ n ∷ [] =
          ap (λ v. v.items) w.tiles-is ∙ w.push_reserved.ensures.items ∙ ap (λ k. old ++ k ∷ []) w.of_number.ensures in
          record {
            tiles = one_kept p n old c.if-is_awaited.tiles.items c.loop-number.invariant.tiles w.if-is_awaited.true pushed;
            few = few_more n old c.if-is_awaited.tiles.items pushed c.loop-number.invariant.few;
            room = ap vec_capacity w.tiles-is ∙ w.push_reserved.ensures.capacity ∙ c.loop-number.invariant.room;
          }
      | else-is_awaited w ↦
          let kept : c.if-is_awaited.tiles.items ≡ old = ap (λ v. v.items) w.tiles-is in
          let few : length old ≤ n = c.loop-number.invariant.few in
          record {
            tiles = kept ∙ one_skipped p n old c.loop-number.invariant.tiles w.if-is_awaited.false;
            few = rw kept (omega arith);
            room = ap vec_capacity w.tiles-is ∙ c.loop-number.invariant.room;
          }
    ]

pub returns-clause-tiles : goal.returns-clause-tiles
returns-clause-tiles c =
    let all : c.loop-number.number ≡ length c.args.awaited.now = omega arith in
    c.loop-number.invariant.tiles
    ∙ ap (λ n. filter (λ k. slice_index_or c.args.awaited.now k false) (range_with_len 0 n)) all
