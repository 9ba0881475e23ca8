use Rattle.std.proofs.Common.{◌^◌, slice_index, if◌then◌else◌, leb, ltb, ap, ◌∙◌, rules}
use Rattle.lj_tile.proofs.LaneLemmas.{choice_lanes}
use Rattle.lj_tile.proofs.pair_lanes.signed_pushes.Goals as goal

pub returns : goal.returns
returns c k l =
    choice_lanes (2 ^ 31) 160 c.args.images c.args.bins c.opposites-opposites.result c.args.sizes c.fits-images.0
    c.fits-bins.0 (search rules) c.fits-sizes.0 k l
    ∙ ap (λ n. if leb (2 ^ 31) (slice_index c.args.images k)
    then (if ltb 160 (slice_index c.args.bins k) then slice_index c.args.sizes k else n)
    else (if ltb 160 (slice_index c.args.bins k) then n else slice_index c.args.sizes k))
    (c.opposites-opposites.ensures k l)
