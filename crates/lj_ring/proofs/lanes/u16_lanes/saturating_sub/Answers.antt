use Rattle.lj_ring.proofs.LaneLemmas.{left_lanes}
use Rattle.lj_ring.proofs.lanes.u16_lanes.saturating_sub.Goals as goal

pub returns : goal.returns
returns g c = left_lanes g.row.N c.args.a c.args.b c.fits-a.0 c.fits-b.0 c.fits-a.1 c.fits-b.1
