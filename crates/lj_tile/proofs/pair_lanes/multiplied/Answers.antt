use Rattle.std.proofs.Common.{slice_index}
use Rattle.lj_tile.proofs.LanePushes.{by_halves}
use Rattle.lj_tile.proofs.pair_lanes.multiplied.Goals as goal

pub returns-clause-value : goal.returns-clause-value
returns-clause-value c k l =
    rw (
      c.add.ensures k l,
      c.mul-lower.ensures k l,
      c.shl.ensures k l,
      c.mul-upper.ensures k l,
      c.low_half.ensures k l,
      c.high_half.ensures k l,
      c.low_half-step_factor.ensures k l,
      c.splat.ensures k l,
      c.from.ensures,
    )
    (by_halves (slice_index c.args.sizes k) c.args.step_factor (c.requires.small k l) c.requires.few)
