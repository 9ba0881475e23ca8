use Rattle.lj_step.proofs.Covers.{cover_step, cover_energy}
use Rattle.lj_step.proofs.motion_laws.covers_are_all_pairs.Goals as goal

pub returns : goal.returns
returns c = record { step = cover_step; energy = cover_energy }
