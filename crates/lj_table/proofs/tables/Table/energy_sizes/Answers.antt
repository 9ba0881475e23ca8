use Rattle.std.proofs.Common.{slice_index}
use Rattle.lj_table.proofs.Signs.{cell_positive, cell_negative}
use Rattle.lj_table.proofs.tables.Table.energy_sizes.Goals as goal

pub returns-clause-positive : goal.returns-clause-positive
returns-clause-positive c k l near =
    let bin = slice_index c.args.bins k in
    rw (c.each_of.ensures k l, c.args.self.now.sizes_of_energies bin (c.requires k l)) (cell_positive bin near)

pub returns-clause-negative : goal.returns-clause-negative
returns-clause-negative c k l far =
    let bin = slice_index c.args.bins k in
    rw (c.each_of.ensures k l, c.args.self.now.sizes_of_energies bin (c.requires k l)) (cell_negative bin far)
