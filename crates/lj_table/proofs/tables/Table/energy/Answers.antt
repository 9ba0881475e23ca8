use Rattle.std.proofs.Common.{◌∙◌, FitsSigned, w64, rules, ap}
use Rattle.std.proofs.lemmas.Int.{to_z-of_z}
use Rattle.lj_table.specs.Entries.{weighted_energy, energy_entry}
use Rattle.lj_table.proofs.tables.Table.energy.Goals as goal

pub returns-clause-value : goal.returns-clause-value
returns-clause-value c =
    let cell_fits : FitsSigned w64 c.looked_up.result = search rules in
    let fits : FitsSigned w64 c.weighted.result = search rules in
    to_z-of_z w64 c.weighted.result fits ∙ c.weighted.ensures.value
    ∙ ap (weighted_energy c.args.weight)
    (to_z-of_z w64 c.looked_up.result cell_fits ∙ c.looked_up.ensures.value energy_entry c.args.self.now.energy_entries)
