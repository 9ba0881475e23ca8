use Rattle.std.proofs.Common.{◌*◌, ◌^◌, ◌≤◌, ◌≡◌}
use Rattle.std.specs.Int.{bit_at}
use Rattle.lj_ring.specs.Ring.{squared_distance}
use Rattle.lj_tile.specs.Near.{IsLane}
use Rattle.lj_tile.proofs.NearLanes.{each_of_four, low_bit}
use Rattle.lj_tile.proofs.near.Lanes.within.Goals as goal

pub returns : goal.returns
returns c k there l =
    each_of_four
    (λ j. bit_at c.joined.result j ≡ 0 → IsLane 16 c.args.self.now j there
    → c.args.span * 2 ^ 16 * (c.args.span * 2 ^ 16) ≤ squared_distance c.args.here.now there)
    (λ j m none. c.within_part.ensures j there m (c.joined.ensures.first j m (low_bit c.joined.result j none)))
    (λ j m none. c.within_part-2.ensures j there m (c.joined.ensures.second j m none))
    (λ j m none. c.within_part-3.ensures j there m (c.joined.ensures.third j m none))
    (λ j m none. c.within_part-4.ensures j there m (c.joined.ensures.fourth j m none))
    k l
