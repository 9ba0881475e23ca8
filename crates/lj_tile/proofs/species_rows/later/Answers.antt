use Rattle.std.proofs.Common.{◌≡◌, ◌+◌, length, arith, sym}
use Rattle.lj_task.specs.Task.{are_in_order}
use Rattle.lj_tile.proofs.Splits.{later_are, within_one}
use Rattle.lj_tile.proofs.species_rows.later.Goals as goal

pub returns : goal.returns
returns c s =
    let w = c.args.task.now in
    let sound = c.second.ensures.sound in
    let same : w.name.bj ≡ w.name.bi = sym (c.has_one_block.ensures.value.0 c.if-not-has_one_block.false) in
    let all = rw (c.places.ensures.value, c.second.ensures.value) at (c.lowest_bits-all.ensures s) in
    later_are c.lowest_bits-all.result c.lowest_bits.result s (length w.b.places) (c.args.t + 1) (are_in_order w c.args.t s)
    (omega arith) sound.most_second all (c.lowest_bits.ensures s) (within_one w c.args.t s same)
