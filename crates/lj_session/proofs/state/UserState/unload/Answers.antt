use Rattle.std.proofs.Common.{◌≡◌, Some, None, Ok, length, refl, sym, ap, ◌∙◌, ◌≤◌, arith}
use Rattle.lj_branch.specs.Named.{value_named, without_value}
use Rattle.lj_session.proofs.Holding.{pending-of, taken-of}
use Rattle.lj_session.proofs.Writing.{absent, looked_up}
use Rattle.lj_session.proofs.Outcomes as outcomes
use Rattle.lj_session.proofs.Outcomes.{written-to}
use Rattle.lj_session.proofs.Totals.{used-less, atoms-within, saved-within}
use Rattle.lj_session.proofs.Reaching.{reached-done}
use Rattle.lj_session.specs.declared.command.Command.TheVariants.{Unload}
use Rattle.lj_session.specs.declared.reply.Reply.TheVariants.{Unloaded}
use Rattle.lj_session.specs.UserState.{LiveSession, UserState, Performs, live_session}
use Rattle.lj_session.proofs.state.UserState.unload.Goals.{In-Some}
use Rattle.lj_session.proofs.state.UserState.unload.Goals as goal

-- the session that is taken out was held
found : (c : In-Some) → live_session c.args.self.now c.args.name ≡ Some c.in-Some.session
found c =
    looked_up c.self.inside c.args.self.now c.self.view_is c.args.name (Some c.in-Some.session) c.in-Some.ensures.value

-- and its name is gone
gone : (c : In-Some) → value_named c.args.name (without_value c.args.name c.args.self.now.sessions) ≡ None
gone c =
    ap (λ (o : UserState). value_named c.args.name (without_value c.args.name o.sessions)) (sym c.self.view_is)
    ∙ ap (value_named c.args.name) (sym c.in-Some.ensures.entries) ∙ c.in-Some.ensures.updates.1

pub returns-in_default-clause-performs : goal.returns-in_default-clause-performs
returns-in_default-clause-performs c =
    absent c.self.invariant c.self.view_is c.args.name c.in_default.ensures.value _ _ (λ none. none)

-- its atoms and saved simulations are among those counted
within : (c : In-Some) → (length c.in-Some.session.live.sim.cur ≤ c.self.inside.used.atoms)
    × (length c.in-Some.session.saved ≤ c.self.inside.used.branches)
within c =
    let old = c.args.self.now in (
      atoms-within c.self.inside old c.self.view_is c.self.invariant.counted c.args.name c.in-Some.session (found c) old,
      saved-within c.self.inside old c.self.view_is c.self.invariant.counted c.args.name c.in-Some.session (found c) old,
    )

pub overflow_sub-self-2 : goal.overflow_sub-self-2
overflow_sub-self-2 c =
    let most = (within (goal.at.overflow_sub-self-2 c).In-Some).0 in
    let n = c.count.ensures.value ∙ ap (λ (h : LiveSession). length h.live.sim.cur) c.session.view_is in omega (arith, most, n)

pub overflow_sub-self-3 : goal.overflow_sub-self-3
overflow_sub-self-3 c =
    let most = (within (goal.at.overflow_sub-self-3 c).In-Some).1 in
    let n = c.len.ensures.value ∙ ap (λ (h : LiveSession). length h.saved) c.session.view_is in omega (arith, most, n)

-- the session is given up
unloaded : (c : In-Some) → Performs c.args.self.now (Unload c.args.name) (Ok (Unloaded c.args.name))
    (record { quota = c.self.inside.quota; sessions = c.shift_remove.new.self.entries })
unloaded c =
    let old = c.args.self.now in
    let session = c.in-Some.session in
    written-to old _ _ _ _ (outcomes.unload old c.args.name session (found c)
    (pending-of old c.args.name session (found c) c.requires) (gone c))
    (taken-of c.self.inside old c.self.view_is c.args.name _ c.in-Some.ensures.entries)

pub invariant_of-self-2 : goal.invariant_of-self-2
invariant_of-self-2 c =
    let old = c.args.self.now in
    let session = c.in-Some.session in
    let there = found (goal.at.invariant_of-self-2 c).In-Some in
    let is_out = taken-of c.self.inside old c.self.view_is c.args.name _ c.in-Some.ensures.entries in record {
      counted = used-less c.self.inside old c.self.view_is c.self.invariant.counted c.args.name session there _ is_out
          1 c.count.result c.len.result refl
          (c.count.ensures.value ∙ ap (λ (h : LiveSession). length h.live.sim.cur) c.session.view_is)
          (c.len.ensures.value ∙ ap (λ (h : LiveSession). length h.saved) c.session.view_is);
      reached = reached-done c.self.inside old _ c.self.view_is c.self.invariant (Unload c.args.name) _
          (unloaded (goal.at.invariant_of-self-2 c).In-Some) (ap (λ (o : UserState). o.quota) is_out);
    }

pub returns-clause-performs : goal.returns-clause-performs
returns-clause-performs c = unloaded (goal.at.returns-clause-performs c).In-Some
