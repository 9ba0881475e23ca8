use Rattle.std.proofs.Common.{refl, ap}
use Rattle.lj_session.specs.UserState.{settled_session, with_step}
use Rattle.lj_session.proofs.Writing.{writes, changed_by, user_kept, still}
use Rattle.lj_session.proofs.state.UserState.open_step.Goals as goal

pub invariant_of-self-2 : goal.invariant_of-self-2
invariant_of-self-2 c =
    still (writes c.args.name.now c.self.invariant c.self.view_is c.in-Some.ensures.value (c.get_mut.follows.holds c.open_step.new.self).0) (ap settled_session c.open_step.ensures) _ refl refl

pub returns-clause-opened : goal.returns-clause-opened
returns-clause-opened c =
    changed_by (writes c.args.name.now c.self.invariant c.self.view_is c.in-Some.ensures.value (c.get_mut.follows.holds c.open_step.new.self).0) (with_step c.args.kind) c.open_step.ensures

pub returns-clause-user : goal.returns-clause-user
returns-clause-user c =
    user_kept (writes c.args.name.now c.self.invariant c.self.view_is c.in-Some.ensures.value (c.get_mut.follows.holds c.open_step.new.self).0) (ap settled_session c.open_step.ensures)
