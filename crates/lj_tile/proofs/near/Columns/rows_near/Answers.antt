use Rattle.std.proofs.Common.{◌≡◌, arith}
use Rattle.std.proofs.lemmas.Nat.Bits.{bit_at_ones}
use Rattle.lj_ring.specs.Ring.{squared_distance, place_at}
use Rattle.lj_tile.specs.Near.{IsLane}
use Rattle.lj_tile.proofs.near.Columns.rows_near.Goals as goal

pub returns-then-self-ne-COARSEST : goal.returns-then-self-ne-COARSEST
returns-then-self-ne-COARSEST c u places columns t l none =
    absurd (omega (arith, none, bit_at_ones 64 t (omega (arith, l, c.requires))))

pub returns-then-min-ge-NARROW : goal.returns-then-min-ge-NARROW
returns-then-min-ge-NARROW c u places columns t l none =
    absurd (omega (arith, none, bit_at_ones 64 t (omega (arith, l, c.requires))))

pub returns : goal.returns
returns c u places columns t l none k m =
    let here = place_at c.args.rows.now t in
    let there = place_at places k in
    let coarsest : c.args.self.now.grain ≡ 16 = omega (arith, c.if-self-ne-COARSEST.false) in
    let lane : IsLane 16 c.args.self.now.fine k there = rw coarsest at (columns.fine k m) in
    let inside = c.bounds-bounds.ensures k there (omega (arith, m, columns.most)) lane in
    columns.reach (squared_distance here there)
    (rw coarsest (c.near_bounds.ensures t here there (omega (arith, l, c.requires)) none (c.new.ensures t l) inside))
