use Rattle.std.proofs.Common.{ap, subst, ◌∙◌}
use Rattle.lj_ring.specs.Mix.{Mix, IsMixture}
use Rattle.lj_step.specs.Sim.{Sim}
use Rattle.lj_step.proofs.simulations.Sim.mix.Goals as goal

pub returns-clause-near : goal.returns-clause-near
returns-clause-near c =
    subst (λ (mix : Mix). IsMixture mix) (c.mix-mix.ensures ∙ ap (λ (v : Sim). v.composition.mix) c.self.view_is)
    c.reach-reach.ensures.near
