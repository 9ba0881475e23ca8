use Rattle.std.proofs.Common.{◌*◌, ◌/◌, take, w64, sym, ap, ◌∙◌, arith}
use Rattle.std.proofs.lemmas.Int.{fits_signed_from_abs, to_z-of_z}
use Rattle.lj_tile.specs.Energies.{list_energy}
use Rattle.lj_tile.proofs.EnergySums.{energy_kept}
use Rattle.lj_tile.proofs.energies.energy_of_most.Goals as goal

pub returns-clause-value : goal.returns-clause-value
returns-clause-value c =
    rw (to_z-of_z w64 c.energy_of_eights-energy.result
    (fits_signed_from_abs w64 _ (omega (arith, c.energy_of_eights-energy.ensures.size, c.len.ensures.few, c.len.ensures.value))))
    (energy_kept c.args.class.now c.args.blocks.now.first.now c.args.blocks.now.second.now c.args.pairs.now c.keep_from.new.self (c.len.result / 8 * 8)
    c.energy_of_eights-energy.result
    (c.energy_of_eights-energy.ensures.value
    ∙ ap (λ n. list_energy c.args.class.now c.args.blocks.now.first.now c.args.blocks.now.second.now (take (n / 8 * 8) c.args.pairs.now))
    (sym c.len.ensures.value)) c.keep_from.ensures)
