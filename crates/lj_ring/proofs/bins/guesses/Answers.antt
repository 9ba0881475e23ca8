use Rattle.std.proofs.Common.{slice_index}
use Rattle.lj_ring.proofs.BinLemmas.{guess_lane}
use Rattle.lj_ring.proofs.bins.guesses.Goals as goal

pub returns : goal.returns
returns c k l =
    rw (
      c.shr-2.ensures k l,
      c.mul.ensures k l,
      c.low_half-scaled.ensures k l,
      c.shr.ensures k l,
      c.low_half-reciprocal.ensures k l,
      c.splat.ensures k l,
    ) (guess_lane (slice_index c.args.squared k) c.args.shift c.args.reciprocal c.requires.fits (c.requires.small k l))
