use Rattle.std.proofs.Common.{arith}
use Rattle.lj_tile.proofs.RowPairs.{row_within}
use Rattle.lj_tile.proofs.species_rows.SpeciesRows.energy_of_pairs.Goals as goal

pub returns-then-len-lt-FULL-clause-pairs : goal.returns-then-len-lt-FULL-clause-pairs
returns-then-len-lt-FULL-clause-pairs c =
    let within = row_within c.args.self.now.task.now.a.places c.args.self.now.task.now.b.places c.args.pairs.now c.args.t c.args.set c.requires.row
    c.args.self.now.sound.most_second c.requires.set c.requires.pairs.within in
    record { few = omega (arith, c.len.ensures, c.if-len-lt-FULL.true); within = rw c.append.ensures within }

pub energy_of_most-requires-clause-pairs : goal.energy_of_most-requires-clause-pairs
energy_of_most-requires-clause-pairs c =
    rw (c.new.ensures.first, c.new.ensures.second, c.append.ensures)
    (row_within c.args.self.now.task.now.a.places c.args.self.now.task.now.b.places c.args.pairs.now c.args.t c.args.set c.requires.row
    c.args.self.now.sound.most_second c.requires.set c.requires.pairs.within)
