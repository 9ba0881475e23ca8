use Rattle.std.proofs.Common.{◌+◌, ◌*◌, ◌≤◌, ◌≡◌}
use Rattle.std.specs.Int.{bit_at}
use Rattle.lj_ring.specs.Ring.{squared_distance}
use Rattle.lj_tile.specs.Grains.{square_unit}
use Rattle.lj_tile.specs.Near.{IsLane}
use Rattle.lj_tile.proofs.NearLanes.{each_of_four, low_bit}
use Rattle.lj_tile.proofs.near.Lanes.near.Goals as goal

pub returns : goal.returns
returns c k there l =
    each_of_four
    (λ j. bit_at c.joined.result j ≡ 0 → IsLane c.args.grain c.args.self.now j there
    → c.args.reach * square_unit c.args.grain ≤ squared_distance c.args.here.now there + 3 * square_unit c.args.grain)
    (λ j m none. c.near_part.ensures j there m (c.joined.ensures.first j m (low_bit c.joined.result j none)))
    (λ j m none. c.near_part-2.ensures j there m (c.joined.ensures.second j m none))
    (λ j m none. c.near_part-3.ensures j there m (c.joined.ensures.third j m none))
    (λ j m none. c.near_part-4.ensures j there m (c.joined.ensures.fourth j m none))
    k l
