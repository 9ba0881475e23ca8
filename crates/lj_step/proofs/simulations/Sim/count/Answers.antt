use Rattle.std.proofs.Common.{subst}
use Rattle.lj_step.specs.Sim.{Sim}
use Rattle.lj_step.specs.MotionLaws.{IsWellFormed}
use Rattle.lj_step.proofs.simulations.Sim.count.Goals as goal

pub returns-clause-whole : goal.returns-clause-whole
returns-clause-whole c =
    subst (λ (v : Sim). IsWellFormed v.sim) c.self.view_is
    (record { same = c.self.invariant.same; prev = c.self.invariant.prev_on_ring; cur = c.self.invariant.cur_on_ring })
