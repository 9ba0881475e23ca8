-- The texts of exceeded quotas.
use Rattle.std.specs.Prelude.{ℕ, List, codes}
use Rattle.lj_quota.specs.declared.Over.{Over}
use Rattle.lj_quota.specs.declared.Over.TheVariants.{Sessions, Atoms, Branches}

-- the text of an exceeded quota
abbrev pub over_text : Over → List ℕ
over_text Sessions = codes "the quota of sessions is used up"
over_text Atoms = codes "the quota of atoms has no room for these"
over_text Branches = codes "the quota of saved simulations is used up"
