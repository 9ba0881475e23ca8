-- The quota of a user for whom none is given.
use Rattle.std.specs.Prelude.{◌≡◌, refl}
use Rattle.lj_quota.specs.declared.TheConstants.Quota.{USUAL}

-- the usual quota is 8 sessions, 16,384 atoms and 16 branches
usual_is : USUAL ≡ record { sessions = 8; atoms = 16384; branches = 16 }
usual_is = refl
