use Rattle.std.proofs.Common.{◌≤◌, ◌+◌, ◌*◌, ◌^◌, ◌≡◌, ◌+ℤ◌, ℕ, ℤ, pos, unsigned_abs, to_z, sym, ap, ◌∙◌, w64, arith}
use Rattle.std.specs.Int.{trailing_zeros}
use Rattle.std.proofs.Math.IntN.{+ℤ_idr, +ℤ_idl}
use Rattle.lj_tile.specs.Energies.{energy_with_both}
use Rattle.lj_tile.proofs.SumLemmas.{HasNext, next_set, from_empty, from_all, sum_fits, sum_is, sum_size}
use Rattle.lj_tile.proofs.EnergySums.{rows_energy_past, rows_energy_next}
use Rattle.lj_tile.proofs.species_rows.SpeciesRows.energy_of_rows.Goals.{In-loop-rest}
use Rattle.lj_tile.proofs.species_rows.SpeciesRows.energy_of_rows.Goals as goal

turned : (z : ℤ) → pos 0 +ℤ z ≡ z +ℤ pos 0
turned z = +ℤ_idl z ∙ sym (+ℤ_idr z)

-- the next row of the set
next : (c : In-loop-rest) → HasNext c.args.set c.loop-rest.t c.loop-rest.rest (trailing_zeros w64 c.loop-rest.rest)
next c =
    next_set c.args.set c.loop-rest.t c.loop-rest.rest c.ranges.set.fits c.loop-rest.auto.rest-fits.fits
    (omega (arith, c.loop-rest-test.true)) c.loop-rest.invariant.rest

pub loop-rest-init : goal.loop-rest-init
loop-rest-init c = record {
  rest = from_all c.args.set;
  lists = c.requires.lists;
  value =
      turned (energy_with_both c.args.self.now.task.now c.args.self.now.own c.args.of_firsts.now c.args.of_seconds.now);
  size = omega arith;
}

pub energy_of_row-sum-requires-clause-row : goal.energy_of_row-sum-requires-clause-row
energy_of_row-sum-requires-clause-row c =
    c.requires.rows _ (next (goal.at.energy_of_row-sum-requires-clause-row c).In-loop-rest).set

pub overflow_add-sum : goal.overflow_add-sum
overflow_add-sum c =
    let found = next (goal.at.overflow_add-sum c).In-loop-rest in
    sum_fits _ c.energy_of_row-sum.result (c.loop-rest.t + trailing_zeros w64 c.loop-rest.rest) (2 ^ 53)
    (omega (arith, c.loop-rest.invariant.size)) c.energy_of_row-sum.ensures.size (omega (arith, found.within)) (omega arith)

pub loop-rest-smaller : goal.loop-rest-smaller
loop-rest-smaller c =
    let found = next (goal.at.loop-rest-smaller c).In-loop-rest in
    omega (arith, found.within)

pub loop-rest-preserved : goal.loop-rest-preserved
loop-rest-preserved c =
    let w = c.args.self.now.task.now in
    let found = next (goal.at.loop-rest-preserved c).In-loop-rest in
    let row : ℕ = c.loop-rest.t + trailing_zeros w64 c.loop-rest.rest in
    let before : unsigned_abs (to_z w64 c.loop-rest.sum-bits) ≤ row * 2 ^ 53 = omega (arith, c.loop-rest.invariant.size) in
    rw (sum_is _ c.energy_of_row-sum.result row (2 ^ 53) before c.energy_of_row-sum.ensures.size (omega (arith, found.within)) (omega arith))
    record {
      rest = found.after;
      lists = c.energy_of_row-sum.ensures.lists;
      value =
          rows_energy_next w c.args.set row _ c.energy_of_row-sum.result
          (energy_with_both w c.args.self.now.own c.args.of_firsts.now c.args.of_seconds.now)
          (energy_with_both w c.args.self.now.own c.loop-rest.of_firsts c.loop-rest.of_seconds)
          (energy_with_both w c.args.self.now.own c.energy_of_row-sum.new.of_firsts c.energy_of_row-sum.new.of_seconds) found.set
          (c.loop-rest.invariant.value
          ∙ ap (λ z. energy_with_both w c.args.self.now.own c.args.of_firsts.now c.args.of_seconds.now +ℤ z)
          (rows_energy_past w c.args.set c.loop-rest.t row (omega arith) found.before)) c.energy_of_row-sum.ensures.value;
      size = sum_size _ c.energy_of_row-sum.result row (2 ^ 53) before c.energy_of_row-sum.ensures.size;
    }

pub returns-clause-value : goal.returns-clause-value
returns-clause-value c =
    let w = c.args.self.now.task.now in
    c.loop-rest.invariant.value
    ∙ ap (λ z. energy_with_both w c.args.self.now.own c.args.of_firsts.now c.args.of_seconds.now +ℤ z)
    (rows_energy_past w c.args.set c.loop-rest.t 64 c.loop-rest.invariant.rest.within
    (from_empty c.args.set c.loop-rest.t c.loop-rest.rest c.loop-rest.invariant.rest c.loop-rest-test.false))
