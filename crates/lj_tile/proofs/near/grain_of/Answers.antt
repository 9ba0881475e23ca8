use Rattle.std.proofs.Common.{arith}
use Rattle.lj_tile.proofs.NearLemmas.{finer}
use Rattle.lj_tile.proofs.near.grain_of.Goals as goal

pub loop-grain-preserved : goal.loop-grain-preserved
loop-grain-preserved c = record {
  most = omega (arith, c.loop-grain.invariant.most);
  few = λ h. finer c.args.reach c.loop-grain.grain (omega (arith, c.loop-grain-test.true)) (omega (arith, c.if-reach-grain.true));
}
