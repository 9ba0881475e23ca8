use Rattle.lj_step.proofs.Sound.{takes_in, with_result}
use Rattle.lj_step.proofs.simulations.Sim.accept_from.Goals as goal

pub add-requires : goal.add-requires
add-requires c =
    takes_in c.self.inside c.args.self.now c.args.label.now c.task.result.now c.args.done.now c.self.invariant
    c.self.view_is c.task.ensures (c.is_awaited.ensures.0 c.if-not-is_awaited.false)

pub invariant_of-self : goal.invariant_of-self
invariant_of-self c =
    let added = c.add.ensures in
    with_result c.self.inside c.args.self.now c.args.label.now c.task.result.now c.args.done.now c.self.invariant
    c.self.view_is c.task.ensures (c.is_awaited.ensures.0 c.if-not-is_awaited.false)
    c.add.new.self added.kept.kind added.kept.arcs added.kept.tiles added.kept.capacity added.awaited added.left added.pushes added.energy added.size
