use Rattle.std.proofs.Common.{slice_index}
use Rattle.lj_ring.proofs.BinLemmas.{product_by_halves}
use Rattle.lj_ring.proofs.bins.multiples.Goals as goal

pub returns : goal.returns
returns c k l =
    rw (
      c.add.ensures k l,
      c.mul-lower.ensures k l,
      c.low_half.ensures k l,
      c.shl.ensures k l,
      c.mul-upper.ensures k l,
      c.high_half.ensures k l,
      c.splat-number.ensures k l,
    ) (product_by_halves (slice_index c.args.v k) c.args.number)
