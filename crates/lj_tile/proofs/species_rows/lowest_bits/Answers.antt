use Rattle.std.proofs.Common.{◌≤◌, ◌^◌, refl, arith}
use Rattle.std.proofs.Math.Nat.{pow-le-pow_right}
use Rattle.lj_tile.proofs.Splits.{ones_are}
use Rattle.lj_tile.proofs.species_rows.lowest_bits.Goals as goal

pub returns-then-count-eq-BLOCK : goal.returns-then-count-eq-BLOCK
returns-then-count-eq-BLOCK c k = ones_are _ c.args.count k (rw c.if-count-eq-BLOCK.true refl)

pub returns : goal.returns
returns c k =
    let less : c.args.count ≤ 63 = omega (arith, c.requires, c.if-count-eq-BLOCK.false) in
    let small : 2 ^ c.args.count ≤ 2 ^ 63 = pow-le-pow_right {n = 2} (omega arith) {i = c.args.count} {j = 63} less in
    ones_are _ c.args.count k (omega (arith, small))
