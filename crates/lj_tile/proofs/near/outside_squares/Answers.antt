use Rattle.std.proofs.Common.{◌≡◌, ◌<◌, ◌-◌, ◌*◌, ◌/◌, ◌^◌, ℕ, slice_index, refl, min, arith}
use Rattle.lj_tile.specs.Grains.{grains_apart}
use Rattle.lj_tile.proofs.NearLemmas.{outside_least, coarse_small}
use Rattle.lj_tile.proofs.near.outside_squares.Goals as goal

lane : (c : goal.After-square_units) (k : ℕ) → k < 16
    → let o = grains_apart (slice_index c.args.here k) c.args.interval.middle - c.args.interval.half in
    slice_index c.square_units.result k ≡ o * o / 2 ^ 16
lane c k l =
    let d = c.sub-apart.ensures k l in
    let back = c.sub.ensures k l in
    let zero = c.splat-2.ensures k l in
    let m = c.splat.ensures k l in
    let h = c.splat-3.ensures k l in
    let length = c.min-length.ensures k l in
    let less = c.saturating_sub.ensures k l in
    let o : ℕ = grains_apart (slice_index c.args.here k) c.args.interval.middle - c.args.interval.half in
    let out : slice_index c.saturating_sub.result k ≡ o = omega (arith, d, back, zero, m, h, length, less) in
    let small : min o (2 ^ 16 - o) ≡ o = omega arith in
    rw (c.square_units.ensures k l, out, small) refl

pub returns-clause-least : goal.returns-clause-least
returns-clause-least c k a b l p q same inside =
    rw (lane c k l, same) (outside_least a b c.args.interval.middle c.args.interval.half p q inside)

pub returns-clause-small : goal.returns-clause-small
returns-clause-small c k l = rw (lane c k l) (coarse_small _ (omega arith))
