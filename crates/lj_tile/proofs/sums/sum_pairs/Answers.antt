use Rattle.std.proofs.Common.{ap, ◌∙◌, slice_index_or, arith}
use Rattle.std.proofs.lemmas.List.{get_or-replicate}
use Rattle.lj_task.specs.Pushes.{no_push}
use Rattle.lj_tile.proofs.RowSums.{Course, AreAllSums, all_firsts, all_seconds}
use Rattle.lj_tile.proofs.sums.sum_pairs.Goals as goal

abbrev course : goal.After-read_sums-2 → Course
course c = record {
  like = c.add_rows.new.of_firsts;
  unlike = c.add_rows.new.of_seconds;
  unlike_after = c.add_rows-2.new.of_firsts;
  others = c.add_rows-2.new.of_seconds;
  none = c.none.result;
  with_rows = c.add_rows.new.sums;
  with_more_rows = c.add_rows-2.new.sums;
  with_like = c.add_all.new.sums;
  with_unlike = c.add_all-2.new.sums;
  all = c.add_all-3.new.sums;
}

all_sums : (c : goal.After-read_sums-2) → AreAllSums c.args.task.now c.rows_by_species-firsts.result.0 c.rows_by_species-firsts.result.1 (course c)
all_sums c = record {
  rows = rw (c.new-rows.ensures.task, c.new-rows.ensures.own, c.new-like.ensures, c.new-unlike.ensures) at c.add_rows.ensures.sums;
  more_rows = rw (c.new-rows-2.ensures.task, c.new-rows-2.ensures.own, c.new-others.ensures) at c.add_rows-2.ensures.sums;
  like_pairs = rw (c.class-class.ensures.value, c.mix-mix.ensures, c.new-blocks.ensures.first, c.new-blocks.ensures.second) at c.add_all.ensures;
  unlike_pairs = rw (c.class-class-2.ensures.value, c.mix-mix.ensures, c.new-blocks.ensures.first, c.new-blocks.ensures.second) at c.add_all-2.ensures;
  other_pairs = rw (c.class-class-3.ensures.value, c.mix-mix.ensures, c.new-blocks.ensures.first, c.new-blocks.ensures.second) at c.add_all-3.ensures;
  firsts = λ t h. ap (λ l. slice_index_or l t no_push) c.none.ensures.first ∙ get_or-replicate 64 t no_push no_push h;
  seconds = λ s h. ap (λ l. slice_index_or l s no_push) c.none.ensures.second ∙ get_or-replicate 64 s no_push no_push h;
  first_ring = c.read_sums.ensures;
  second_ring = c.read_sums-2.ensures;
}

pub returns-clause-first : goal.returns-clause-first
returns-clause-first c t within =
    all_firsts c.args.task.now _ _ (course c) (all_sums c) t (omega (arith, within, c.new-blocks.ensures.sound.most_first))
    (c.rows_by_species-firsts.ensures.each t within)

pub returns-clause-second : goal.returns-clause-second
returns-clause-second c s within =
    all_seconds c.args.task.now _ _ (course c) (all_sums c) s within c.new-blocks.ensures.sound.most_second
    c.new-blocks.ensures.sound.most_first c.rows_by_species-firsts.ensures
