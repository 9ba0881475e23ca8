use Rattle.std.proofs.Common.{◌≤◌, length, refl, subst}
use Rattle.lj_step.specs.MotionLaws.{IsFrameOnRing}
use Rattle.lj_step.specs.Sim.{Sim}
use Rattle.lj_step.proofs.TileValues.{step_covered}
use Rattle.lj_step.proofs.simulations.Sim.tiles.Goals as goal

pub returns-in-Some-clause-cover : goal.returns-in-Some-clause-cover
returns-in-Some-clause-cover c =
    let few : length c.args.self.now.sim.cur ≤ 4096 =
    subst (λ (v : Sim). length v.sim.cur ≤ 4096) c.self.view_is c.self.invariant.most in
    let ring : IsFrameOnRing c.args.self.now.sim.cur =
    subst (λ (v : Sim). IsFrameOnRing v.sim.cur) c.self.view_is c.self.invariant.cur_on_ring in
    step_covered c.args.self.now ring few c.args.self.now.part refl
