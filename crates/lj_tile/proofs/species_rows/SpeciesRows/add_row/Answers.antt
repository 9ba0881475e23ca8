use Rattle.lj_tile.proofs.RowPairs.{row_added, none_came}
use Rattle.lj_tile.proofs.species_rows.SpeciesRows.add_row.Goals as goal

pub returns-then-seconds-ne0-clause-sums : goal.returns-then-seconds-ne0-clause-sums
returns-then-seconds-ne0-clause-sums c =
    row_added c.args.self.now.task.now c.args.self.now.own c.args.t _ _
    (record { of_firsts = c.args.of_firsts.now; of_seconds = c.args.of_seconds.now; sums = c.args.sums.now })
    (record {
      of_firsts = c.add_pairs.new.pairs;
      of_seconds = c.add_pairs-then-seconds-ne0.new.pairs;
      sums = c.add_pairs-then-seconds-ne0.new.sums;
    })
    c.add_pairs.new.sums c.requires.row c.near-firsts.ensures
    (rw c.class_with-with_first.ensures at c.add_pairs.ensures.totals)
    (rw c.class_with-with_second.ensures at c.add_pairs-then-seconds-ne0.ensures.totals)

pub returns-else-seconds-ne0-clause-sums : goal.returns-else-seconds-ne0-clause-sums
returns-else-seconds-ne0-clause-sums c =
    row_added c.args.self.now.task.now c.args.self.now.own c.args.t _ _
    (record { of_firsts = c.args.of_firsts.now; of_seconds = c.args.of_seconds.now; sums = c.args.sums.now })
    (record { of_firsts = c.add_pairs.new.pairs; of_seconds = c.args.of_seconds.now; sums = c.add_pairs.new.sums })
    c.add_pairs.new.sums c.requires.row c.near-firsts.ensures
    (rw c.class_with-with_first.ensures at c.add_pairs.ensures.totals)
    (none_came _ c.args.self.now.task.now.a.places c.args.self.now.task.now.b.places c.args.of_seconds.now c.args.t _
    c.add_pairs.new.sums c.if-seconds-ne0.false)
