use Rattle.std.proofs.Common.{ap, ◌∙◌}
use Rattle.lj_task.specs.declared.task_name.Kind.TheVariants.{Energy}
use Rattle.lj_step.specs.Motion.{potential}
use Rattle.lj_step.specs.Sim.{Sim}
use Rattle.lj_step.specs.OpenSteps.{kind_of, is_whole}
use Rattle.lj_step.proofs.Steps.{whole_of, potential_is}
use Rattle.lj_step.proofs.simulations.Sim.potential.Goals as goal

pub returns : goal.returns
returns c =
    let kind = ap (λ (v : Sim). kind_of v.part) c.self.view_is ∙ c.requires.kind in
    let all = ap (λ (v : Sim). is_whole v.part) c.self.view_is ∙ c.requires.whole in
    let whole = whole_of c.self.inside.partial.kind c.self.inside.partial.awaited.items Energy kind all in
    potential_is c.self.inside.atoms c.self.inside.cur.items c.self.inside.partial c.self.invariant.partial whole
    ∙ ap (λ (v : Sim). potential v.composition v.sim.cur) c.self.view_is
