use Rattle.std.proofs.Common.{refl}
use Rattle.lj_tile.proofs.near.left.Goals as goal

pub returns : goal.returns
returns c k l = rw (c.saturating_sub-2.ensures k l, c.saturating_sub.ensures k l, c.splat.ensures k l) refl
