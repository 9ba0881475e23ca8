use Rattle.std.proofs.Common.{◌≡◌, ◌≤◌, ◌<◌, ◌^◌, ℕ, slice_index_or, unsigned_abs, sym, ap, ◌∙◌, arith}
use Rattle.lj_table.specs.Entries.{energy_at, weighted_energy}
use Rattle.lj_tile.specs.Energies.{pair_energy}
use Rattle.lj_tile.proofs.EnergySums.{energy_next}
use Rattle.lj_tile.proofs.SumLemmas.{sum_is, sum_size}
use Rattle.lj_tile.proofs.energies.energy_of_all.Goals as goal

pub loop-i-preserved : goal.loop-i-preserved
loop-i-preserved c =
    let class = c.args.class.now in
    let i : ℕ = c.loop-i.i in
    let small : unsigned_abs c.energy-sum.result ≤ 2 ^ 45 = omega (arith, c.energy-sum.ensures.size) in
    let few : i < 128 = omega (arith, c.len-i-end.ensures.few, c.loop-i-test.true) in
    let pair : c.at-pair.result ≡ slice_index_or c.args.pairs.now i 0 = c.at-pair.ensures in
    let value : c.energy-sum.result ≡ pair_energy class c.args.blocks.now.first.now c.args.blocks.now.second.now c.at-pair.result =
    c.energy-sum.ensures.value
    ∙ ap (λ s. weighted_energy class.weight (energy_at class.scale s))
    (rw (sym c.first_of.ensures, sym c.second_of.ensures) c.dist2-squared.ensures.value) in
    rw (sum_is _ c.energy-sum.result i (2 ^ 45) c.loop-i.invariant.size small few (omega arith))
    record {
      value =
          energy_next class c.args.blocks.now.first.now c.args.blocks.now.second.now c.args.pairs.now i _ c.energy-sum.result c.loop-i.invariant.value
          (value ∙ ap (pair_energy class c.args.blocks.now.first.now c.args.blocks.now.second.now) pair)
          (omega (arith, c.len-i-end.ensures.value, c.loop-i-test.true));
      size = sum_size _ c.energy-sum.result i (2 ^ 45) c.loop-i.invariant.size small;
    }
