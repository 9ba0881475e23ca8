use Rattle.std.proofs.Common.{slice_index}
use Rattle.lj_table.proofs.Signs.{cell_apart, cell_together}
use Rattle.lj_table.proofs.tables.Table.push_sizes.Goals as goal

pub returns-clause-apart : goal.returns-clause-apart
returns-clause-apart c k l near =
    let bin = slice_index c.args.bins k in
    rw (c.each_of.ensures k l, c.args.self.now.sizes_of_pushes bin (c.requires k l)) (cell_apart bin near)

pub returns-clause-together : goal.returns-clause-together
returns-clause-together c k l far =
    let bin = slice_index c.args.bins k in
    rw (c.each_of.ensures k l, c.args.self.now.sizes_of_pushes bin (c.requires k l)) (cell_together bin far)
