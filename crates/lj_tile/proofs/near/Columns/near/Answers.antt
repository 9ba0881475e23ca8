use Rattle.std.proofs.Common.{◌<◌, ◌*◌, ◌^◌, inl, inr, arith}
use Rattle.lj_ring.specs.Ring.{squared_distance, place_at}
use Rattle.lj_tile.proofs.NearLemmas.{bit_of_either, square_most}
use Rattle.lj_tile.proofs.near.Columns.near.Goals as goal

pub returns : goal.returns
returns c u places columns k l none =
    let there = place_at places k in
    let apart = squared_distance c.args.here.now there in
    let lane : k < 64 = omega (arith, l, columns.most) in
    let finer : c.args.self.now.grain < 16 = omega (arith, c.requires, c.if-self-eq-COARSEST.false) in
    elim (bit_of_either c.near-near.result c.within.result k none) [
      | inl clear ↦ columns.reach apart (c.near-near.ensures k there lane clear (columns.fine k l))
      | inr clear ↦
          columns.few finer apart
          (square_most (2 ^ 11 * 2 ^ c.args.self.now.grain) (c.span_of.result * 2 ^ 16) apart c.span_of.ensures.longer
          (c.within.ensures k there lane clear (columns.whole k l)))
    ]
