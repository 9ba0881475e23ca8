use Rattle.std.proofs.Common.{slice_index}
use Rattle.lj_ring.proofs.BinLemmas.{cut_sum_lane}
use Rattle.lj_ring.proofs.bins.squares_cut_off.Goals as goal

pub returns : goal.returns
returns c k l =
    rw (
      c.add-2.ensures k l,
      c.add.ensures k l,
      c.squares-x.ensures k l,
      c.squares-y.ensures k l,
      c.squares-z.ensures k l,
      c.min.ensures k l,
      c.min-2.ensures k l,
      c.min-3.ensures k l,
      c.splat-cut.ensures k l,
    ) (cut_sum_lane c.args.cut (slice_index c.args.x k) (slice_index c.args.y k) (slice_index c.args.z k) c.requires)
