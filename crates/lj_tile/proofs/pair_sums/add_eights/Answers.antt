use Rattle.std.proofs.Common.{arith}
use Rattle.lj_tile.proofs.PairSums.{pushes_none, pushes_eight}
use Rattle.lj_tile.proofs.pair_sums.add_eights.Goals as goal

pub loop-at-init : goal.loop-at-init
loop-at-init c = record {
  within = omega arith;
  sums = pushes_none c.args.scale.now c.args.blocks.now.first.now c.args.blocks.now.second.now c.args.sums.now;
}

pub loop-at-preserved : goal.loop-at-preserved
loop-at-preserved c = record {
  within = omega (arith, c.len.ensures.value, c.loop-at-test.true);
  sums =
      pushes_eight c.args.scale.now c.args.blocks.now.first.now c.args.blocks.now.second.now c.args.pairs.now c.loop-at.at c.args.sums.now c.loop-at.sums
      c.add_eight.new.sums c.loop-at.invariant.sums c.add_eight.ensures;
}
