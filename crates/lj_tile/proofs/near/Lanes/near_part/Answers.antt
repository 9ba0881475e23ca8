use Rattle.std.proofs.Common.{◌∙◌}
use Rattle.lj_tile.proofs.NearLemmas.{distance_least}
use Rattle.lj_tile.proofs.near.Lanes.near_part.Goals as goal

pub returns : goal.returns
returns c k there l none lane =
    distance_least c.args.reach _ _ _ _ _ _ _ (c.below.ensures k l none)
    (c.coarse_squares-x.ensures.least k there.x l lane.ring.x (c.sixteen.ensures k l ∙ lane.x))
    (c.coarse_squares-y.ensures.least k there.y l lane.ring.y (c.sixteen-2.ensures k l ∙ lane.y))
    (c.coarse_squares-z.ensures.least k there.z l lane.ring.z (c.sixteen-3.ensures k l ∙ lane.z))
