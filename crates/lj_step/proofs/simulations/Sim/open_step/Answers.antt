use Rattle.std.proofs.Common.{length, subst}
use Rattle.lj_step.specs.Sums.{HasCapacity}
use Rattle.lj_step.specs.Shared.{AreFramesOf}
use Rattle.lj_step.proofs.Sound.{with_step}
use Rattle.lj_step.proofs.Steps.{opened_partial}
use Rattle.lj_step.proofs.simulations.Sim.open_step.Goals as goal

pub invariant_of-self : goal.invariant_of-self
invariant_of-self c =
    let a = c.self.inside in
    let opened = c.open.ensures in
    let frame = c.as_slice-2.ensures.value in
    let room = subst (λ f. HasCapacity (length f) c.open.new.self) frame opened.room in
    with_step a c.open.new.self c.write.new.self c.self.invariant room
    (opened_partial a.atoms c.as_slice-2.result.now a.cur.items c.open.new.self c.args.kind
    frame c.self.invariant.cur_on_ring c.self.invariant.most
    opened.kind opened.tiles opened.awaited opened.left opened.pushes opened.energy)
    (subst (λ f. AreFramesOf f c.write.new.self) c.as_slice.ensures.value c.write.ensures)
