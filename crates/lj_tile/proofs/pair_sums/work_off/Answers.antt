use Rattle.lj_tile.proofs.PairSums.{totals_kept}
use Rattle.lj_tile.proofs.pair_sums.work_off.Goals as goal

pub returns-clause-totals : goal.returns-clause-totals
returns-clause-totals c =
    totals_kept c.args.scale.now c.args.blocks.now.first.now c.args.blocks.now.second.now c.args.pairs.now c.keep_from.new.self c.add_eights-done.result
    c.args.sums.now c.add_eights-done.new.sums c.add_eights-done.ensures.sums c.keep_from.ensures
