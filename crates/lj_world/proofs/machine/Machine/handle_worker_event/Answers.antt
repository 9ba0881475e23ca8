use Rattle.std.proofs.Common.{Option, arith, refl, subst, sym}
use Rattle.lj_world.specs.contracts.machine.Machine.{the_view}
use Rattle.lj_world.specs.Machine.{Worker, IsWorker}
use Rattle.lj_world.specs.Workers.{worker_view}
use Rattle.lj_world.specs.Steps.{WorkerStep}
use Rattle.lj_world.proofs.Slots.{read_at}
use Rattle.lj_world.proofs.MachineSteps.{worker_step_by_pick, nobody}
use Rattle.lj_world.proofs.machine.Machine.handle_worker_event.Goals.{then-slot-eq0-via-then-slot-eq0, then-slot-eq0-via-else-slot-eq0+then-slot-len}
use Rattle.lj_world.proofs.machine.Machine.handle_worker_event.Goals as goal

pub returns-then-slot-eq0 : goal.returns-then-slot-eq0
returns-then-slot-eq0 c =
    rw (← c.self.view_is)
    (nobody c.args.event (the_view c.self.inside) c.args.id (λ (h : IsWorker c.args.id). elim c.then-slot-eq0.branch [
      | then-slot-eq0-via-then-slot-eq0 w ↦ omega (arith, h.first, w.if-slot-eq0.true)
      | then-slot-eq0-via-else-slot-eq0+then-slot-len w ↦ omega (arith, h.last, w.if-slot-len.true, c.self.invariant.worker_slots)
    ]))

pub returns : goal.returns
returns c =
    let s = the_view c.self.inside in
    let b = worker_view c.handle.new.worker c.handle.new.book in
    let reads = read_at c.self.inside.workers.items c.from-slot.result c.args.id c.index_mut.result.now c.index_mut.result.now
    c.from-slot.ensures (omega arith) c.index_mut.ensures.value refl in
    let within : IsWorker c.args.id =
    record { first = omega (arith, c.if-slot-eq0.false); last = omega (arith, c.self.invariant.worker_slots) } in
    rw (← c.self.view_is, c.from-slot.ensures)
    (worker_step_by_pick c.args.event s c.args.id b within
    (subst (λ (worker : Option Worker). WorkerStep c.args.event (worker_view worker s.book) b) (sym reads) c.handle.ensures.step)
    c.handle.ensures.picked)
