use Rattle.std.proofs.Common.{◌≡◌, ℕ, List, get_or, set, Option, Some, None, arith, refl, subst, sym}
use Rattle.lj_world.specs.Machines.{IsMachine}
use Rattle.std.specs.Option.{option_map}
use Rattle.lj_world.specs.contracts.machine.Machine.{the_view}
use Rattle.lj_world.specs.Machine.{Connection}
use Rattle.lj_world.specs.declared.event.Event.TheVariants.{At}
use Rattle.lj_world.specs.Connections.{connection_view}
use Rattle.lj_world.specs.Transitions.{reply_entry, with_connection_view}
use Rattle.lj_world.specs.Picked.{PickedStep}
use Rattle.lj_world.proofs.Slots.{read_at, written_back, none_past}
use Rattle.lj_world.proofs.MachineSteps.{connection_step_by_pick, absent}
use Rattle.lj_world.proofs.SlotsKept.{connection_step_keeps}
use Rattle.lj_world.proofs.machine.Machine.handle_connection_event.Goals.{In-Some, In_ok-text}
use Rattle.lj_world.proofs.machine.Machine.handle_connection_event.Goals as goal

pub returns-then-slot-len : goal.returns-then-slot-len
returns-then-slot-len c =
    rw (← c.self.view_is)
    (absent c.args.event (the_view c.self.inside) c.args.id (none_past c.self.inside.connections.items c.args.id (omega arith)))

pub returns-in_default : goal.returns-in_default
returns-in_default c =
    let s = the_view c.self.inside in
    let items = c.self.inside.connections.items in
    let none = read_at items c.from-slot.result c.args.id c.index_mut.result.now None c.from-slot.ensures (omega arith)
    c.index_mut.ensures.value c.in_default.is in
    let same = written_back items c.from-slot.result c.index_mut.result.now c.index_mut.ensures.value in
    rw (← c.self.view_is)
    (subst (λ (connections : List (Option Connection)). PickedStep s (At c.args.id c.args.event) None (record s { connections = connections })) (sym same)
    (absent c.args.event s c.args.id none))

-- the connection is in its slot
known : (c : In-Some) (k : ℕ) → c.from-slot.result ≡ k → get_or c.self.inside.connections.items k None ≡ Some c.in-Some.connection
known c k same =
    read_at c.self.inside.connections.items c.from-slot.result k c.index_mut.result.now (Some c.in-Some.connection)
    same (omega arith) c.index_mut.ensures.value c.in-Some.is

pub handle-requires : goal.handle-requires
handle-requires c =
    c.self.invariant.known c.from-slot.result c.in-Some.connection (known (goal.at.handle-requires c).In-Some c.from-slot.result refl)

-- its step keeps the invariant
kept : (c : In_ok-text) → get_or c.self.inside.connections.items c.from-slot.result None ≡ Some c.in-Some.connection
    → IsMachine c.handle.new.directory (set c.self.inside.connections.items c.from-slot.result (Some c.handle.new.self)) c.self.inside.workers.items
kept c here =
    connection_step_keeps c.self.inside.directory c.self.inside.connections.items c.self.inside.workers.items c.from-slot.result
    c.in-Some.connection c.self.invariant (omega arith) here c.args.event c.self.inside.book c.in_ok-text.field-0
    (connection_view c.handle.new.self c.handle.new.directory c.handle.new.book) c.in_ok-text.ensures.step

pub invariant_of-self-in_default-2 : goal.invariant_of-self-in_default-2
invariant_of-self-in_default-2 c =
    let p = goal.at.invariant_of-self-in_default-2 c in kept p.In_ok-text (known p.In-Some c.from-slot.result refl)

pub invariant_of-self-2 : goal.invariant_of-self-2
invariant_of-self-2 c = let p = goal.at.invariant_of-self-2 c in kept p.In_ok-text (known p.In-Some c.from-slot.result refl)

-- and is one of the machine
step : (c : In_ok-text) → get_or c.self.inside.connections.items c.args.id None ≡ Some c.in-Some.connection
    → (text : Option (List ℕ)) → c.in_ok-text.field-0 ≡ text
    → PickedStep (the_view c.self.inside) (At c.args.id c.args.event) (option_map (reply_entry c.args.id c.in-Some.connection) text)
    (with_connection_view c.args.id (connection_view c.handle.new.self c.handle.new.directory c.handle.new.book) (the_view c.self.inside))
step c here text is =
    let s = the_view c.self.inside in
    let h = connection_view c.handle.new.self c.handle.new.directory c.handle.new.book in
    subst (λ (t : Option (List ℕ)). PickedStep s (At c.args.id c.args.event) (option_map (reply_entry c.args.id c.in-Some.connection) t)
    (with_connection_view c.args.id h s)) is
    (connection_step_by_pick c.args.event s c.args.id c.in-Some.connection c.in_ok-text.field-0 h here c.in_ok-text.ensures.step
    c.handle.ensures.picked)

pub returns-in_default-2 : goal.returns-in_default-2
returns-in_default-2 c =
    let p = goal.at.returns-in_default-2 c in
    rw (← c.self.view_is, c.from-slot.ensures)
    (step p.In_ok-text (known p.In-Some c.args.id c.from-slot.ensures) None c.in_default-2.is)

pub returns : goal.returns
returns c =
    let p = goal.at.returns c in
    rw (← c.self.view_is, c.from-slot.ensures, c.user-user.ensures)
    (step p.In_ok-text (known p.In-Some c.args.id c.from-slot.ensures) (Some c.in-Some-2.text) c.in-Some-2.is)
