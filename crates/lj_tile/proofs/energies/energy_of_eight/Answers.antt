use Rattle.std.proofs.Common.{◌≡◌, ◌≤◌, ◌<◌, ◌+◌, ◌^◌, ℕ, ℤ, pos, drop, slice_index_or, unsigned_abs, sym, ap, ◌∙◌, arith}
use Rattle.std.proofs.lemmas.List.{get_or-drop, length-drop}
use Rattle.lj_task.specs.Tiles.{place_at}
use Rattle.lj_tile.specs.Pairs.{first_of, second_of}
use Rattle.lj_tile.specs.Energies.{pair_energy}
use Rattle.lj_tile.proofs.EnergySums.{energy_of_none, energy_next}
use Rattle.lj_tile.proofs.SumLemmas.{sum_is, sum_size}
use Rattle.lj_tile.proofs.energies.energy_of_eight.Goals as goal

pub loop-k-init : goal.loop-k-init
loop-k-init c = record {
  value = sym (energy_of_none c.args.class.now c.args.blocks.now.first.now c.args.blocks.now.second.now);
  size = omega arith;
}

pub loop-k-preserved : goal.loop-k-preserved
loop-k-preserved c =
    let k : ℕ = c.loop-k.k in
    let l : k < 8 = c.loop-k-test.true in
    let pair : ℕ = slice_index_or c.args.pairs.now (c.args.at + k) 0 in
    let term : ℤ = slice_index_or c.energies-energies.result k (pos 0) in
    let small : unsigned_abs term ≤ 2 ^ 45 = omega (arith, c.energies-energies.ensures.size k l) in
    let value : term ≡ pair_energy c.args.class.now c.args.blocks.now.first.now c.args.blocks.now.second.now pair =
    c.energies-energies.ensures.value k (place_at c.args.blocks.now.first.now (first_of pair)) (place_at c.args.blocks.now.second.now (second_of pair)) l
    (c.apart.ensures k l) in
    rw (sum_is _ term k (2 ^ 45) c.loop-k.invariant.size small (omega arith) (omega arith))
    record {
      value =
          energy_next c.args.class.now c.args.blocks.now.first.now c.args.blocks.now.second.now (drop c.args.at c.args.pairs.now) k _ term
          c.loop-k.invariant.value
          (value ∙ ap (pair_energy c.args.class.now c.args.blocks.now.first.now c.args.blocks.now.second.now) (sym (get_or-drop c.args.at c.args.pairs.now k 0)))
          (rw length-drop (omega (arith, c.requires.within, l)));
      size = sum_size _ term k (2 ^ 45) c.loop-k.invariant.size small;
    }
