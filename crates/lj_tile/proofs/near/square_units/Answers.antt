use Rattle.std.proofs.Common.{◌/◌, ◌^◌, slice_index, ap, Fits, w16, arith}
use Rattle.std.proofs.lemmas.Simd.{Each1-get_or}
use Rattle.lj_tile.proofs.NearLemmas.{square_is}
use Rattle.lj_tile.proofs.near.square_units.Goals as goal

pub returns : goal.returns
returns c k l =
    let fits : Fits w16 (slice_index c.args.v k) = Each1-get_or (Fits w16) c.args.v k 0 (omega (arith, c.fits-v.0, l)) c.fits-v.1 in
    rw (c.cast_u16.ensures k l, c.shr.ensures k l, c.mul.ensures k l, c.sign_extended-sizes.ensures k l)
    (ap (λ n. n / 2 ^ 16) (square_is (slice_index c.args.v k) fits.fits))
