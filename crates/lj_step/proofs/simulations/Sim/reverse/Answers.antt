use Rattle.std.proofs.Common.{◌∙◌, length, ap, refl, subst, sym, rules}
use Rattle.lj_step.specs.MotionLaws.{IsFrameOnRing}
use Rattle.lj_step.proofs.Sound.{with_frames}
use Rattle.lj_step.proofs.simulations.Sim.reverse.Goals as goal

pub invariant_of-self : goal.invariant_of-self
invariant_of-self c =
    let cur = ap (λ v. v.items) c.swap.ensures.y_after in
    with_frames c.self.inside _ c.self.invariant (ap (λ v. v.items) c.swap.ensures.x_after)
    (ap length cur ∙ c.self.invariant.same)
    (subst IsFrameOnRing (sym cur) c.self.invariant.prev_on_ring) (search rules) (search rules) refl refl refl
