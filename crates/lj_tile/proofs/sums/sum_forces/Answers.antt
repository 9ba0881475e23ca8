use Rattle.std.proofs.Common.{◌≡◌, ◌<◌, length, slice_index_or, ap, sym, ◌∙◌, arith}
use Rattle.std.proofs.lemmas.Bool.{true≢false}
use Rattle.lj_task.specs.Block.{Block}
use Rattle.lj_task.specs.Pushes.{no_push, sum_of_pushes}
use Rattle.lj_tile.specs.Rows.{sum_on_first}
use Rattle.lj_tile.proofs.RowLemmas.{first_is, second_is, joined_is}
use Rattle.lj_tile.proofs.sums.sum_forces.Goals as goal

pub returns-else-has_one_block-clause-first : goal.returns-else-has_one_block-clause-first
returns-else-has_one_block-clause-first c t within =
    let other : c.args.task.now.name.bi ≡ c.args.task.now.name.bj → ⊥ =
    λ same. true≢false (sym (c.has_one_block.ensures.value.1 same) ∙ c.if-has_one_block.false) in
    let less : c.args.task.now.name.bi < c.args.task.now.name.bj = omega (arith, other, c.has_one_block.ensures.sound.in_order) in
    c.sum_pairs.ensures.first t within ∙ first_is c.args.task.now t c.has_one_block.ensures.sound less within

pub returns-else-has_one_block-clause-second : goal.returns-else-has_one_block-clause-second
returns-else-has_one_block-clause-second c less s within =
    c.sum_pairs.ensures.second s within ∙ second_is c.args.task.now s c.has_one_block.ensures.sound less

pub returns-then-has_one_block-clause-first : goal.returns-then-has_one_block-clause-first
returns-then-has_one_block-clause-first c t within =
    let w = c.args.task.now in
    let sound = c.has_one_block.ensures.sound in
    let same : w.name.bi ≡ w.name.bj = c.has_one_block.ensures.value.0 c.if-has_one_block.true in
    let also : t < length w.b.places =
    omega (arith, within, ap (λ (block : Block). length block.places) (sound.diagonal same)) in
    c.join.ensures.first t (omega (arith, within, sound.most_first))
    ∙ ap (λ p. sum_of_pushes p (slice_index_or c.sum_pairs.new.sums.second t no_push)) (c.sum_pairs.ensures.first t within)
    ∙ ap (sum_of_pushes (sum_on_first w t (length w.b.places))) (c.sum_pairs.ensures.second t also)
    ∙ joined_is w t sound same

pub returns-then-has_one_block-clause-second : goal.returns-then-has_one_block-clause-second
returns-then-has_one_block-clause-second c less s within =
    let same = c.has_one_block.ensures.value.0 c.if-has_one_block.true in
    absurd (omega (arith, same, less))
