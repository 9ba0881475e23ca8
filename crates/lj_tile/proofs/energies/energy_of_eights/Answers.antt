use Rattle.std.proofs.Common.{◌≡◌, ◌≤◌, ◌<◌, ◌+◌, ◌*◌, ◌^◌, ℕ, take, unsigned_abs, w64, to_z, sym, ap, ◌∙◌, arith}
use Rattle.lj_tile.specs.Energies.{list_energy}
use Rattle.lj_tile.proofs.EnergySums.{energy_of_none, energy_eight}
use Rattle.lj_tile.proofs.SumLemmas.{sum_is, sum_size}
use Rattle.lj_tile.proofs.energies.energy_of_eights.Goals as goal

pub loop-eight-init : goal.loop-eight-init
loop-eight-init c = record {
  value = sym (energy_of_none c.args.class.now c.args.blocks.now.first.now c.args.blocks.now.second.now);
  size = omega arith;
}

next : (n : ℕ) → 8 * (n + 1) ≡ 8 * n + 8
next n = omega arith

pub loop-eight-preserved : goal.loop-eight-preserved
loop-eight-preserved c =
    let n : ℕ = c.loop-eight.eight in
    let before : unsigned_abs (to_z w64 c.loop-eight.sum-bits) ≤ n * (8 * 2 ^ 45) = omega (arith, c.loop-eight.invariant.size) in
    let few : n < 128 = omega (arith, c.len-eight-end.ensures.few, c.loop-eight-test.true) in
    rw (sum_is _ c.energy_of_eight-sum.result n (8 * 2 ^ 45) before c.energy_of_eight-sum.ensures.size few (omega arith))
    record {
      value =
          energy_eight c.args.class.now c.args.blocks.now.first.now c.args.blocks.now.second.now c.args.pairs.now (8 * n) (to_z w64 c.loop-eight.sum-bits) c.energy_of_eight-sum.result
          c.loop-eight.invariant.value c.energy_of_eight-sum.ensures.value
          ∙ ap (λ m. list_energy c.args.class.now c.args.blocks.now.first.now c.args.blocks.now.second.now (take m c.args.pairs.now)) (sym (next n));
      size = omega (arith, sum_size (to_z w64 c.loop-eight.sum-bits) c.energy_of_eight-sum.result n (8 * 2 ^ 45) before c.energy_of_eight-sum.ensures.size);
    }
