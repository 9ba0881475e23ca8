use Rattle.std.proofs.Common.{arith}
use Rattle.lj_ring.specs.Mix.{can_interact}
use Rattle.lj_tile.proofs.Splits.{row_split}
use Rattle.lj_tile.proofs.species_rows.SpeciesRows.near.Goals as goal

pub returns : goal.returns
returns c =
    let w = c.args.self.now.task.now in
    row_split w c.args.t c.near.result c.later.result _ _ c.second.ensures.sound.most_second (omega arith)
    (rw (c.species_bits-species_bits.ensures, c.second.ensures.value)) (rw (c.places.ensures.value, c.first.ensures.value))
    (c.args.self.now.of_columns.first c.args.t c.requires) c.args.self.now.of_columns.second
    (c.near.ensures (can_interact w.mix) w.b.places c.args.self.now.of_columns.of_places) c.later.ensures
