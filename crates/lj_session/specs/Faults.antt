-- The faults of the crates below as refusals.
use Rattle.lj_xyz.specs.declared.xyz_fault.XyzError.{XyzError}
use Rattle.lj_xyz.specs.declared.xyz_fault.XyzError.TheVariants as xyz
use Rattle.lj_branch.specs.declared.branch_faults.SaveFault.{SaveFault}
use Rattle.lj_branch.specs.declared.branch_faults.SaveFault.TheVariants as save
use Rattle.lj_quota.specs.declared.Over.{Over}
use Rattle.lj_quota.specs.declared.Over.TheVariants as over
use Rattle.lj_session.specs.declared.refusal.Refusal.{Refusal}
use Rattle.lj_session.specs.declared.refusal.Refusal.TheVariants.{Xyz, Memory, BranchExists, QuotaSessions, QuotaAtoms}
use Rattle.lj_session.specs.declared.refusal.Refusal.TheVariants.{QuotaBranches}

-- the refusal of a body
abbrev pub xyz_refusal : XyzError → Refusal
xyz_refusal (xyz.Fault fault) = Xyz fault
xyz_refusal xyz.Memory = Memory

-- the refusal of a simulation that is not saved
abbrev pub save_refusal : SaveFault → Refusal
save_refusal save.Exists = BranchExists
save_refusal save.Memory = Memory

-- the refusal of an exceeded quota
abbrev pub quota_refusal : Over → Refusal
quota_refusal over.Sessions = QuotaSessions
quota_refusal over.Atoms = QuotaAtoms
quota_refusal over.Branches = QuotaBranches
