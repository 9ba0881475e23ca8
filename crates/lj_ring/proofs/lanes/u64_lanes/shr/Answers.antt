use Rattle.std.proofs.Common.{◌/◌, ◌^◌}
use Rattle.std.proofs.lemmas.Simd.{shifts_fit_splat}
use Rattle.lj_ring.proofs.LaneLemmas.{splat_lanes}
use Rattle.lj_ring.proofs.lanes.u64_lanes.shr.Goals as goal

pub overflow_shr-result : goal.overflow_shr-result
overflow_shr-result g c = shifts_fit_splat 64 c.args.v g.row.N c.args.by c.requires

pub returns : goal.returns
returns g c = splat_lanes g.row.N (λ x n. x / 2 ^ n) c.args.v c.args.by c.fits-v.0
