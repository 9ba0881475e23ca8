use Rattle.std.proofs.Common.{ap, ◌∙◌, arith}
use Rattle.lj_task.specs.Block.{Block}
use Rattle.lj_tile.proofs.RowSets.{by_species}
use Rattle.lj_tile.proofs.sums.rows_by_species.Goals as goal

pub returns : goal.returns
returns c =
    by_species c.args.task.now c.near_rows-rows.result c.species_bits-species_bits.result (omega arith) c.first.ensures.sound.most_first
    (c.species_bits-species_bits.ensures ∙ ap (λ (block : Block). block.species_bits) c.first.ensures.value)
    c.near_rows-rows.ensures.within c.near_rows-rows.ensures.far
