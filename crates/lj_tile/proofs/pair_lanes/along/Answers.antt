use Rattle.std.proofs.Common.{slice_index}
use Rattle.lj_tile.proofs.LanePushes.{along_by_halves}
use Rattle.lj_tile.proofs.pair_lanes.along.Goals as goal

pub returns : goal.returns
returns c k l =
    rw (
      c.cast_u32.ensures k l,
      c.low_half-2.ensures k l,
      c.shr.ensures k l,
      c.add-product.ensures k l,
      c.mul-upper.ensures k l,
      c.high_half-2.ensures k l,
      c.mul-lower.ensures k l,
      c.high_half.ensures k l,
      c.low_half.ensures k l,
      c.cast_u64-lengths.ensures.value k l,
    )
    (along_by_halves (slice_index c.args.factors k) (slice_index c.args.lengths k) (c.requires k l)
    (c.cast_u64-lengths.ensures.small k l))
