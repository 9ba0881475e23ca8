use Rattle.std.proofs.Common.{◌≡◌, List, None, arith, refl, subst, sym, ◌∙◌}
use Rattle.lj_access.specs.UserRows.{UserRow}
use Rattle.lj_world.specs.contracts.machine.Machine.{the_view}
use Rattle.lj_world.specs.declared.event.Event.TheVariants.{Hello}
use Rattle.lj_world.specs.Machine.{IsConnection}
use Rattle.lj_world.specs.Runs.{Step}
use Rattle.lj_world.proofs.ConnectionSteps.{none_there}
use Rattle.lj_world.proofs.Slots.{read_at}
use Rattle.lj_world.proofs.HelloSteps.{IsGranted, hello_out_of_range, hello_again, denied, hello_step, hello_keeps_machine}
use Rattle.lj_world.proofs.machine.Machine.hello.Goals.{then-slot-eq0-via-then-slot-eq0, then-slot-eq0-via-else-slot-eq0+then-slot-len}
use Rattle.lj_world.proofs.machine.Machine.hello.Goals as goal

pub returns-then-slot-eq0 : goal.returns-then-slot-eq0
returns-then-slot-eq0 c =
    rw (← c.self.view_is)
    (hello_out_of_range (the_view c.self.inside) c.args.id c.args.name.now c.args.token.now
    (λ (h : IsConnection c.args.id). elim c.then-slot-eq0.branch [
      | then-slot-eq0-via-then-slot-eq0 w ↦ omega (arith, h.first, w.if-slot-eq0.true)
      | then-slot-eq0-via-else-slot-eq0+then-slot-len w ↦ omega (arith, h.last, w.if-slot-len.true, c.self.invariant.connection_slots)
    ]))

pub returns-then-is_some : goal.returns-then-is_some
returns-then-is_some c =
    let read = read_at c.self.inside.connections.items c.from-slot.result c.args.id c.index.result.now c.index.result.now
    c.from-slot.ensures (omega arith) c.index.ensures refl in
    let some = sym c.is_some.ensures ∙ c.if-is_some.true in
    rw (← c.self.view_is)
    (hello_again (the_view c.self.inside) c.args.id c.args.name.now c.args.token.now
    (λ none. let is : c.index.result.now ≡ None = sym read ∙ none in let k = rw is at some in cc))

pub invariant_of-self-2 : goal.invariant_of-self-2
invariant_of-self-2 c =
    let h = c.in-Ok.ensures in
    let g : IsGranted c.self.inside.directory c.as_bytes.result.now c.as_bytes-2.result.now c.in-Ok.ticket =
    record { left = h.granted.0 refl; user = h.user; number = h.number } in
    rw (h.counted, c.put.ensures, c.new.ensures)
    (hello_keeps_machine c.self.inside.directory c.self.inside.connections.items c.self.inside.workers.items c.from-slot.result
    c.as_bytes.result.now c.as_bytes-2.result.now c.in-Ok.ticket c.self.invariant (omega arith) g)

pub returns : goal.returns
returns c =
    let h = c.in-Ok.ensures in
    let s = the_view c.self.inside in
    let g0 : IsGranted c.self.inside.directory c.as_bytes.result.now c.as_bytes-2.result.now c.in-Ok.ticket =
    record { left = h.granted.0 refl; user = h.user; number = h.number } in
    let g : IsGranted c.self.inside.directory c.args.name.now c.args.token.now c.in-Ok.ticket =
    rw (c.as_bytes.ensures.value, c.as_bytes-2.ensures) at g0 in
    let new = read_at c.self.inside.connections.items c.from-slot.result c.args.id c.index.result.now None
    c.from-slot.ensures (omega arith) c.index.ensures
    (none_there c.index.result.now (sym c.is_some.ensures ∙ c.if-is_some.false)) in
    let within : IsConnection c.args.id =
    record { first = omega (arith, c.if-slot-eq0.false); last = omega (arith, c.self.invariant.connection_slots) } in
    rw (← c.self.view_is, h.counted, c.put.ensures, c.new.ensures, c.from-slot.ensures)
    (hello_step s c.args.id c.args.name.now c.args.token.now c.in-Ok.ticket within new g)

pub returns-in_default : goal.returns-in_default
returns-in_default c =
    let h = c.in_default.ensures in
    let s = the_view c.self.inside in
    rw (← c.self.view_is)
    (subst (λ (rows : List UserRow). Step s (Hello c.args.id c.args.name.now c.args.token.now) None (record s { rows = rows })) (sym h.unchanged)
    (denied s c.args.id c.args.name.now c.args.token.now
    (λ some. let k = h.granted.1 (rw (c.as_bytes.ensures.value, c.as_bytes-2.ensures) some) in cc)))
