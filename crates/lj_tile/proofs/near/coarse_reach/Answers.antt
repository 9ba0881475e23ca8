use Rattle.std.proofs.Common.{◌^◌}
use Rattle.lj_tile.proofs.NearLemmas.{rounded_up, rounded_small}
use Rattle.lj_tile.proofs.near.coarse_reach.Goals as goal

pub returns-clause-least : goal.returns-clause-least
returns-clause-least c =
    rw c.div_ceil.ensures
    (rounded_up c.args.reach c.units_of-side.result (2 ^ c.args.grain) c.units_of-side.ensures.value
    c.units_of-side.ensures.least c.units_of-side.ensures.most)

pub returns-clause-most : goal.returns-clause-most
returns-clause-most c =
    rw c.div_ceil.ensures
    (rounded_small c.args.reach c.units_of-side.result (2 ^ c.args.grain) c.units_of-side.ensures.value
    c.units_of-side.ensures.least c.units_of-side.ensures.most c.requires.fits)
