use Rattle.std.proofs.Common.{arith}
use Rattle.lj_tile.proofs.ListLemmas.{moved, view_count}
use Rattle.lj_tile.proofs.near_pairs.NearPairs.keep_from.Goals as goal

pub eight_from-left-requires : goal.eight_from-left-requires
eight_from-left-requires c =
    omega (arith, c.requires.few, c.requires.within)

pub returns : goal.returns
returns c =
    let counted = view_count c.self.inside.count c.self.inside.pairs c.args.self.now c.self.told c.self.invariant c.self.view_is in
    moved c.self.inside.pairs _ c.self.inside.count c.args.from c.args.self.now c.self.told c.self.invariant c.self.view_is
    (omega (arith, counted, c.requires.within)) (omega (arith, counted, c.requires.left)) c.eight_from-left.ensures
