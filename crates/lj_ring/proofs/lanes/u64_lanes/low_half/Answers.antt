use Rattle.std.proofs.Common.{◌∙◌, bit_and, get_or}
use Rattle.std.proofs.lemmas.Nat.{and_mask}
use Rattle.lj_ring.proofs.LaneLemmas.{splat_lanes}
use Rattle.lj_ring.proofs.lanes.u64_lanes.low_half.Goals as goal

pub returns : goal.returns
returns g c k l = splat_lanes g.row.N bit_and c.args.v 4294967295 c.fits-v.0 k l ∙ and_mask (get_or c.args.v k 0) 32
