use Rattle.std.proofs.Common.{◌+◌, ℕ, w64, arith}
use Rattle.std.specs.Int.{trailing_zeros}
use Rattle.lj_tile.specs.PairTotals.{SumsWithLists}
use Rattle.lj_tile.proofs.SumLemmas.{HasNext, next_set, from_empty, from_all}
use Rattle.lj_tile.proofs.RowSums.{no_rows, rows_past, rows_next}
use Rattle.lj_tile.proofs.species_rows.SpeciesRows.add_rows.Goals.{In-loop-rest}
use Rattle.lj_tile.proofs.species_rows.SpeciesRows.add_rows.Goals as goal

-- the next row of the set
next : (c : In-loop-rest) → HasNext c.args.set c.loop-rest.t c.loop-rest.rest (trailing_zeros w64 c.loop-rest.rest)
next c =
    next_set c.args.set c.loop-rest.t c.loop-rest.rest c.ranges.set.fits c.loop-rest.auto.rest-fits.fits
    (omega (arith, c.loop-rest-test.true)) c.loop-rest.invariant.rest

pub loop-rest-init : goal.loop-rest-init
loop-rest-init c = record {
  rest = from_all c.args.set;
  lists = c.requires.lists;
  sums = no_rows c.args.self.now.task.now c.args.self.now.own c.args.set
      (record { of_firsts = c.args.of_firsts.now; of_seconds = c.args.of_seconds.now; sums = c.args.sums.now });
}

pub add_row-requires-clause-row : goal.add_row-requires-clause-row
add_row-requires-clause-row c = c.requires.rows _ (next (goal.at.add_row-requires-clause-row c).In-loop-rest).set

pub loop-rest-smaller : goal.loop-rest-smaller
loop-rest-smaller c =
    let found = next (goal.at.loop-rest-smaller c).In-loop-rest in
    omega (arith, found.within)

pub loop-rest-preserved : goal.loop-rest-preserved
loop-rest-preserved c =
    let w = c.args.self.now.task.now in
    let own = c.args.self.now.own in
    let found = next (goal.at.loop-rest-preserved c).In-loop-rest in
    let row : ℕ = c.loop-rest.t + trailing_zeros w64 c.loop-rest.rest in
    let start : SumsWithLists = record { of_firsts = c.args.of_firsts.now; of_seconds = c.args.of_seconds.now; sums = c.args.sums.now } in
    let before : SumsWithLists = record { of_firsts = c.loop-rest.of_firsts; of_seconds = c.loop-rest.of_seconds; sums = c.loop-rest.sums } in
    let after : SumsWithLists =
    record { of_firsts = c.add_row.new.of_firsts; of_seconds = c.add_row.new.of_seconds; sums = c.add_row.new.sums } in
    record {
      rest = found.after;
      lists = c.add_row.ensures.lists;
      sums =
          rows_next w own c.args.set row start before after found.set
          (rows_past w own c.args.set c.loop-rest.t row start before (omega arith) found.before c.loop-rest.invariant.sums)
          c.add_row.ensures.sums;
    }

pub returns-clause-sums : goal.returns-clause-sums
returns-clause-sums c =
    rows_past c.args.self.now.task.now c.args.self.now.own c.args.set c.loop-rest.t 64
    (record { of_firsts = c.args.of_firsts.now; of_seconds = c.args.of_seconds.now; sums = c.args.sums.now })
    (record { of_firsts = c.loop-rest.of_firsts; of_seconds = c.loop-rest.of_seconds; sums = c.loop-rest.sums })
    c.loop-rest.invariant.rest.within
    (from_empty c.args.set c.loop-rest.t c.loop-rest.rest c.loop-rest.invariant.rest c.loop-rest-test.false)
    c.loop-rest.invariant.sums
