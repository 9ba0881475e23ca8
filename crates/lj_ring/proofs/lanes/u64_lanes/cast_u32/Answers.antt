use Rattle.std.proofs.Common.{arith}
use Rattle.std.proofs.lemmas.Simd.{Each1-from_get_or}
use Rattle.lj_ring.proofs.lanes.u64_lanes.cast_u32.Goals as goal

pub overflow_cast-result : goal.overflow_cast-result
overflow_cast-result g c = Each1-from_get_or _ c.args.v 0 (λ k l. record { fits = c.requires k (omega (arith, l, c.fits-v.0)) })
