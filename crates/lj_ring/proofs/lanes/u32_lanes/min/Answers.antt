use Rattle.std.proofs.Common.{w32}
use Rattle.lj_ring.proofs.LaneLemmas.{min_lanes}
use Rattle.lj_ring.proofs.lanes.u32_lanes.min.Goals as goal

pub returns : goal.returns
returns g c = min_lanes w32 g.row.N c.args.a c.args.b c.fits-a.0 c.fits-b.0
