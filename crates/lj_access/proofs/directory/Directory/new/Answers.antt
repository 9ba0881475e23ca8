use Rattle.std.proofs.Common.{subst, sym}
use Rattle.lj_access.specs.Directories.{IsDirectory}
use Rattle.lj_access.proofs.RowLemmas.{IsDirectory-opening}
use Rattle.lj_access.proofs.directory.Directory.new.Goals as goal

pub invariant_of-result : goal.invariant_of-result
invariant_of-result c =
    subst IsDirectory (sym c.in_ok-rows.ensures)
    (IsDirectory-opening c.args.users.items c.requires.some c.requires.most c.requires.distinct)
