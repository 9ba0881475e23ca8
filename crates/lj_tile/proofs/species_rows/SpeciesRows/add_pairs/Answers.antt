use Rattle.std.proofs.Common.{arith}
use Rattle.lj_tile.proofs.RowPairs.{row_within}
use Rattle.lj_tile.proofs.species_rows.SpeciesRows.add_pairs.Goals as goal

pub append-requires-clause-row : goal.append-requires-clause-row
append-requires-clause-row c = omega (arith, c.requires.row, c.args.self.now.sound.most_first)

pub work_off-requires-clause-pairs : goal.work_off-requires-clause-pairs
work_off-requires-clause-pairs c =
    rw (c.new-blocks.ensures.first, c.new-blocks.ensures.second, c.append.ensures)
    (row_within c.args.self.now.task.now.a.places c.args.self.now.task.now.b.places c.args.pairs.now c.args.t c.args.set c.requires.row
    c.args.self.now.sound.most_second c.requires.set c.requires.pairs.within)

pub returns-else-len-ge-FULL-clause-pairs : goal.returns-else-len-ge-FULL-clause-pairs
returns-else-len-ge-FULL-clause-pairs c =
    let within = row_within c.args.self.now.task.now.a.places c.args.self.now.task.now.b.places c.args.pairs.now c.args.t c.args.set c.requires.row
    c.args.self.now.sound.most_second c.requires.set c.requires.pairs.within in
    record { few = omega (arith, c.len.ensures, c.if-len-ge-FULL.false); within = rw c.append.ensures within }
