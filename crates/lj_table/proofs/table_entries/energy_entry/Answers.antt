use Rattle.std.proofs.Common.{◌∙◌, FitsSigned, w64, rules}
use Rattle.std.proofs.lemmas.Int.{to_z-of_z}
use Rattle.lj_table.proofs.Cells.{energy_entry_is}
use Rattle.lj_table.proofs.Sizes.{energy_above, energy_under}
use Rattle.lj_table.proofs.table_entries.energy_entry.Goals as goal

pub signed_quotient-requires-clause-above : goal.signed_quotient-requires-clause-above
signed_quotient-requires-clause-above c = energy_above c.centre_of-centre.result c.centre_of-centre.ensures.least

pub signed_quotient-requires-clause-under : goal.signed_quotient-requires-clause-under
signed_quotient-requires-clause-under c = energy_under c.centre_of-centre.result c.centre_of-centre.ensures.least

pub returns-clause-value : goal.returns-clause-value
returns-clause-value c =
    let fits : FitsSigned w64 c.signed_quotient.result = search rules in
    to_z-of_z w64 _ fits ∙ c.signed_quotient.ensures.value
    ∙ energy_entry_is c.args.k c.centre_of-centre.result c.centre_of-centre.ensures.value
