use Rattle.std.proofs.Common.{◌≡◌, ◌∙◌}
use Rattle.lj_ring.specs.declared.mixes.Species.TheVariants.{First, Second}
use Rattle.lj_ring.specs.Mix.{class_of}
use Rattle.lj_ring.proofs.MixLemmas.{class_symmetric}
use Rattle.lj_tile.proofs.EnergySums.{task_sum, both_rows, two_added, three_added, four_added, five_added}
use Rattle.lj_tile.proofs.sums.energy_sum.Goals as goal

pub overflow_add-sum : goal.overflow_add-sum
overflow_add-sum c =
    (two_added c.energy_of_rows-sum.result c.energy_of_rows-sum-2.result c.energy_of_rows-sum.ensures.size
    c.energy_of_rows-sum-2.ensures.size).fits

pub overflow_add-sum-2 : goal.overflow_add-sum-2
overflow_add-sum-2 c =
    (three_added c.energy_of_rows-sum.result c.energy_of_rows-sum-2.result c.energy_of_all-sum.result
    c.energy_of_rows-sum.ensures.size c.energy_of_rows-sum-2.ensures.size c.energy_of_all-sum.ensures.size).fits

pub overflow_add-sum-3 : goal.overflow_add-sum-3
overflow_add-sum-3 c =
    (four_added c.energy_of_rows-sum.result c.energy_of_rows-sum-2.result c.energy_of_all-sum.result c.energy_of_all-sum-2.result
    c.energy_of_rows-sum.ensures.size c.energy_of_rows-sum-2.ensures.size c.energy_of_all-sum.ensures.size
    c.energy_of_all-sum-2.ensures.size).fits

pub overflow_add-result : goal.overflow_add-result
overflow_add-result c =
    (five_added c.energy_of_rows-sum.result c.energy_of_rows-sum-2.result c.energy_of_all-sum.result c.energy_of_all-sum-2.result
    c.energy_of_all.result c.energy_of_rows-sum.ensures.size c.energy_of_rows-sum-2.ensures.size c.energy_of_all-sum.ensures.size
    c.energy_of_all-sum-2.ensures.size c.energy_of_all.ensures.size).fits

pub returns : goal.returns
returns c =
    let w = c.args.task.now in
    let turned : class_of w.mix Second First ≡ class_of w.mix First Second = class_symmetric w.mix Second First in
    (five_added c.energy_of_rows-sum.result c.energy_of_rows-sum-2.result c.energy_of_all-sum.result c.energy_of_all-sum-2.result
    c.energy_of_all.result c.energy_of_rows-sum.ensures.size c.energy_of_rows-sum-2.ensures.size c.energy_of_all-sum.ensures.size
    c.energy_of_all-sum-2.ensures.size c.energy_of_all.ensures.size).value
    ∙ task_sum w (class_of w.mix First First) (class_of w.mix First Second) (class_of w.mix Second Second)
    c.rows_by_species-firsts.result.0 c.rows_by_species-firsts.result.1 c.energy_of_rows-sum.new.of_firsts
    c.energy_of_rows-sum.new.of_seconds c.energy_of_rows-sum-2.new.of_firsts c.energy_of_rows-sum-2.new.of_seconds
    c.energy_of_rows-sum.result c.energy_of_rows-sum-2.result c.energy_of_all-sum.result c.energy_of_all-sum-2.result
    c.energy_of_all.result
    (rw (c.new-rows.ensures.task, c.new-rows.ensures.own, c.new-like.ensures, c.new-unlike.ensures) at c.energy_of_rows-sum.ensures.value)
    (rw (c.new-rows-2.ensures.task, c.new-rows-2.ensures.own, turned, c.new-others.ensures) at c.energy_of_rows-sum-2.ensures.value)
    (rw (c.class-like_class.ensures.value, c.mix-mix.ensures, c.new-blocks.ensures.first, c.new-blocks.ensures.second) at c.energy_of_all-sum.ensures.value)
    (rw (c.class-unlike_class.ensures.value, c.mix-mix.ensures, c.new-blocks.ensures.first, c.new-blocks.ensures.second) at c.energy_of_all-sum-2.ensures.value)
    (rw (c.class-others_class.ensures.value, c.mix-mix.ensures, c.new-blocks.ensures.first, c.new-blocks.ensures.second) at c.energy_of_all.ensures.value)
    (both_rows w c.rows_by_species-firsts.result.0 c.rows_by_species-firsts.result.1 c.new-blocks.ensures.sound.most_first c.rows_by_species-firsts.ensures)
