use Rattle.std.proofs.Common.{w16}
use Rattle.lj_ring.proofs.LaneLemmas.{max_lanes}
use Rattle.lj_ring.proofs.lanes.u16_lanes.max.Goals as goal

pub returns : goal.returns
returns g c = max_lanes w16 g.row.N c.args.a c.args.b c.fits-a.0 c.fits-b.0
