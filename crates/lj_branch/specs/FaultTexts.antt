-- The texts of faults of saving and restoring.
use Rattle.std.specs.Prelude.{ℕ, List, codes}
use Rattle.lj_branch.specs.declared.branch_faults.SaveFault.{SaveFault}
use Rattle.lj_branch.specs.declared.branch_faults.SaveFault.TheVariants.{Exists, Memory}

-- the text of a fault of saving
abbrev pub save_text : SaveFault → List ℕ
save_text Exists = codes "a simulation is saved under this name already"
save_text Memory = codes "out of memory"

-- the text of the fault that nothing is saved under a name
abbrev pub no_branch_text : List ℕ
no_branch_text = codes "no simulation is saved under this name"
