use Rattle.std.proofs.Common.{◌≡◌, ◌<◌, ◌*◌, ◌/◌, ◌^◌, ℕ, slice_index, refl, arith}
use Rattle.lj_tile.specs.Grains.{grains, grains_apart}
use Rattle.lj_tile.proofs.NearLemmas.{coarse_least, coarse_small}
use Rattle.lj_tile.proofs.near.coarse_squares.Goals as goal

lane : (c : goal.After-square_units) (k : ℕ) → k < 16
    → let o = grains_apart (slice_index c.args.there k) (grains c.args.grain c.args.here) in
    slice_index c.square_units.result k ≡ o * o / 2 ^ 16
lane c k l = rw (c.square_units.ensures k l, c.sub.ensures k l, c.splat.ensures k l, c.in_grains.ensures.value) refl

pub returns : goal.returns
returns c = record {
  least = λ k d l ring same.
      rw (lane c k l, same) (coarse_least c.args.grain c.args.here d c.requires c.ranges.here.fits ring);
  small = λ k l. rw (lane c k l) (coarse_small _ (omega arith));
}
