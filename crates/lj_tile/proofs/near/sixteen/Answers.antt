use Rattle.lj_tile.proofs.NearLanes.{sixteen_of}
use Rattle.lj_tile.proofs.near.sixteen.Goals as goal

pub returns : goal.returns
returns c k l = sixteen_of c.args.at c.args.numbers.now k c.requires l
