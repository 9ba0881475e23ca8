use Rattle.std.proofs.Common.{◌≤◌, ◌^◌, unsigned_abs, w64, arith}
use Rattle.std.proofs.lemmas.Int.{fits_signed_from_abs, to_z-of_z}
use Rattle.lj_tile.proofs.SumLemmas.{sum_is}
use Rattle.lj_tile.proofs.EnergySums.{row_energy_added}
use Rattle.lj_tile.proofs.species_rows.SpeciesRows.energy_of_row.Goals as goal

pub returns-clause-value : goal.returns-clause-value
returns-clause-value c =
    let size : unsigned_abs c.energy_of_pairs-of_first.result ≤ 2 ^ 52 = c.energy_of_pairs-of_first.ensures.size in
    rw (
      to_z-of_z w64 c.energy_of_pairs-of_first.result (fits_signed_from_abs w64 _ (omega (arith, size))),
      sum_is c.energy_of_pairs-of_first.result c.energy_of_pairs.result 1 (2 ^ 52)
          (omega (arith, size)) c.energy_of_pairs.ensures.size (omega arith) (omega arith),
    )
    (row_energy_added c.args.self.now.task.now c.args.self.now.own c.args.t _ _ c.args.of_firsts.now c.args.of_seconds.now
    c.energy_of_pairs-of_first.new.pairs c.energy_of_pairs.new.pairs c.energy_of_pairs-of_first.result c.energy_of_pairs.result
    c.requires.row c.near-firsts.ensures
    (rw c.class_with-with_first.ensures at c.energy_of_pairs-of_first.ensures.value)
    (rw c.class_with-with_second.ensures at c.energy_of_pairs.ensures.value))
