use Rattle.std.proofs.Common.{◌≡◌, ◌≤◌, ◌-◌, ◌*◌, ◌^◌, ◌+ℤ◌, unsigned_abs}
use Rattle.lj_tile.specs.PairTotals.{AreFewOfBoth}
use Rattle.lj_tile.specs.Energies.{energy_with_both, rows_energy}
use Rattle.lj_tile.proofs.SumLemmas.{IsFrom}
use Rattle.lj_tile.proofs.species_rows.SpeciesRows.energy_of_rows.Given as goal

abbrev pub invariant-loop-rest : goal.invariant-loop-rest
invariant-loop-rest l = record {
  rest : IsFrom l.set l.t l.rest;
  lists : AreFewOfBoth l.self.task.now l.of_firsts l.of_seconds;
  value : l.sum +ℤ energy_with_both l.self.task.now l.self.own l.of_firsts l.of_seconds
      ≡ energy_with_both l.self.task.now l.self.own l.fn.of_firsts l.fn.of_seconds +ℤ rows_energy l.self.task.now l.set l.t;
  size : unsigned_abs l.sum ≤ l.t * 2 ^ 53;
}

abbrev pub decreases-loop-rest : goal.decreases-loop-rest
decreases-loop-rest l = 64 - l.t
