use Rattle.lj_step.proofs.Drift.{drift_kept, drift_turned}
use Rattle.lj_step.proofs.motion_laws.drift_is_conserved.Goals as goal

pub returns : goal.returns
returns c = record { steps = drift_kept; reverse = drift_turned }
