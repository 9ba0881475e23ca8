use Rattle.std.proofs.Common.{arith}
use Rattle.lj_tile.proofs.NearLanes.{min_of_both}
use Rattle.lj_tile.proofs.near.min_of_16.Goals as goal

pub returns : goal.returns
returns c = min_of_both 8 c.args.v (omega arith) c.fits-v.0
