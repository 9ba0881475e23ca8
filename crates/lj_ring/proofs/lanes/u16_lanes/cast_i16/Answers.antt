use Rattle.std.proofs.Common.{refl}
use Rattle.lj_ring.proofs.LaneLemmas.{signed_lanes}
use Rattle.lj_ring.proofs.lanes.u16_lanes.cast_i16.Goals as goal

pub returns : goal.returns
returns g c = signed_lanes g.row.N _ c.args.v c.fits-v.0 (λ n. refl) c.requires
