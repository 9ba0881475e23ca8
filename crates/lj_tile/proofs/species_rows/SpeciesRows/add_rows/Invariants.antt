use Rattle.std.proofs.Common.{◌-◌}
use Rattle.lj_tile.specs.PairTotals.{AreFewOfBoth, HaveRows}
use Rattle.lj_tile.proofs.SumLemmas.{IsFrom}
use Rattle.lj_tile.proofs.species_rows.SpeciesRows.add_rows.Given as goal

abbrev pub invariant-loop-rest : goal.invariant-loop-rest
invariant-loop-rest l = record {
  rest : IsFrom l.set l.t l.rest;
  lists : AreFewOfBoth l.self.task.now l.of_firsts l.of_seconds;
  sums : HaveRows l.self.task.now l.self.own l.set l.t
      (record { of_firsts = l.fn.of_firsts; of_seconds = l.fn.of_seconds; sums = l.fn.sums })
      (record { of_firsts = l.of_firsts; of_seconds = l.of_seconds; sums = l.sums });
}

abbrev pub decreases-loop-rest : goal.decreases-loop-rest
decreases-loop-rest l = 64 - l.t
