use Rattle.std.proofs.Common.{◌*◌, ◌^◌, ◌∙◌, inl, inr, bit_and, unsigned_abs, arith}
use Rattle.lj_ring.specs.Ring.{image}
use Rattle.lj_tile.proofs.NearLemmas.{far_x, far_y, far_z, bit_of_either}
use Rattle.lj_tile.proofs.near.Lanes.within_part.Goals as goal

pub returns : goal.returns
returns c k there l none lane =
    let h = c.args.here.now in
    let s = c.args.span * 2 ^ 16 in
    let x = unsigned_abs (image h.x there.x) in
    let y = unsigned_abs (image h.y there.y) in
    let z = unsigned_abs (image h.z there.z) in
    elim (bit_of_either (bit_and c.lt_bitmask.result c.lt_bitmask-2.result) c.lt_bitmask-3.result k none) [
      | inl either ↦ elim (bit_of_either c.lt_bitmask.result c.lt_bitmask-2.result k either) [
        | inl clear ↦
            far_x s x y z
            (c.shifted-x.ensures k there.x l lane.ring.x (c.sixteen.ensures k l ∙ lane.x)
            (omega (arith, c.lt_bitmask.ensures k l clear)))
        | inr clear ↦
            far_y s x y z
            (c.shifted-y.ensures k there.y l lane.ring.y (c.sixteen-2.ensures k l ∙ lane.y)
            (omega (arith, c.lt_bitmask-2.ensures k l clear)))
      ]
      | inr clear ↦
          far_z s x y z
          (c.shifted-z.ensures k there.z l lane.ring.z (c.sixteen-3.ensures k l ∙ lane.z)
          (omega (arith, c.lt_bitmask-3.ensures k l clear)))
    ]
