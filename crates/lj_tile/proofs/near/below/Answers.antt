use Rattle.std.proofs.Common.{slice_index, arith}
use Rattle.lj_tile.proofs.NearLanes.{not_less_signed}
use Rattle.lj_tile.proofs.near.below.Goals as goal

pub returns : goal.returns
returns c k l none =
    let left = c.left.ensures k l in
    let more = not_less_signed c.cast_i16-2.result c.cast_i16.result (slice_index c.args.z k) (slice_index c.left.result k) k
    (omega (arith, c.cast_i16-2.type_inv)) (omega (arith, c.cast_i16.type_inv)) l
    (c.cast_i16-2.ensures k l) (c.cast_i16.ensures k l) (omega (arith, c.requires.small k l)) (omega (arith, left, c.requires.reach)) none in
    omega (arith, left, more)
