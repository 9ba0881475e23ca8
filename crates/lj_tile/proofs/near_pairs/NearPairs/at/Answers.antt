use Rattle.std.proofs.Common.{arith}
use Rattle.lj_tile.proofs.near_pairs.NearPairs.at.Goals as goal

pub offset_bounds-self-inside-i : goal.offset_bounds-self-inside-i
offset_bounds-self-inside-i c = omega (arith, c.requires.few)
