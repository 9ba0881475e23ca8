use Rattle.std.proofs.Common.{◌+◌, ◌*◌, ◌≤◌, ◌≡◌}
use Rattle.std.specs.Int.{bit_at}
use Rattle.lj_ring.specs.Ring.{squared_distance}
use Rattle.lj_tile.specs.Grains.{square_unit}
use Rattle.lj_tile.specs.Near.{IsInside, IsLane}
use Rattle.lj_tile.proofs.NearLanes.{each_of_four, low_bit}
use Rattle.lj_tile.proofs.near.Lanes.near_bounds.Goals as goal

pub returns : goal.returns
returns c k here there l =
    each_of_four
    (λ j. bit_at c.joined.result j ≡ 0 → IsLane 16 c.args.self.now j here → IsInside c.args.bounds.now there
    → c.args.reach * square_unit 16 ≤ squared_distance here there + 3 * square_unit 16)
    (λ j m none. c.near_bounds_part.ensures j here there m (c.joined.ensures.first j m (low_bit c.joined.result j none)))
    (λ j m none. c.near_bounds_part-2.ensures j here there m (c.joined.ensures.second j m none))
    (λ j m none. c.near_bounds_part-3.ensures j here there m (c.joined.ensures.third j m none))
    (λ j m none. c.near_bounds_part-4.ensures j here there m (c.joined.ensures.fourth j m none))
    k l
