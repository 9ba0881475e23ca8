use Rattle.std.proofs.Common.{◌≡◌, length, slice_get, sym, ap, ◌∙◌, subst, arith}
use Rattle.std.specs.Prelude.{is_some}
use Rattle.std.proofs.lemmas.List.{length-map}
use Rattle.lj_session.specs.UserState.{loaded_names}
use Rattle.lj_session.specs.Owner.{Owner, has_pending}
use Rattle.lj_session.proofs.Firsts.{NoneBefore, none-first, none-next, find-at, find-nowhere}
use Rattle.lj_session.proofs.owner.Owner.is_busy.Goals as goal

pub loop-i-init : goal.loop-i-init
loop-i-init c = none-first (has_pending c.args.self.now) (loaded_names c.args.self.now.state)

pub returns-then-has_pending : goal.returns-then-has_pending
returns-then-has_pending c =
    sym (ap is_some (find-at (has_pending c.args.self.now) (loaded_names c.args.self.now.state) c.loop-i.i c.name_at.result.now
    (sym (ap (λ (owner : Owner). slice_get (loaded_names owner.state) c.loop-i.i) c.self.view_is) ∙ c.name_at.ensures)
    (sym c.has_pending.ensures ∙ c.if-has_pending.true) c.loop-i.invariant))

pub loop-i-preserved : goal.loop-i-preserved
loop-i-preserved c =
    none-next (has_pending c.args.self.now) (loaded_names c.args.self.now.state) c.loop-i.i c.name_at.result.now
    (sym (ap (λ (owner : Owner). slice_get (loaded_names owner.state) c.loop-i.i) c.self.view_is) ∙ c.name_at.ensures)
    (sym c.has_pending.ensures ∙ c.if-has_pending.false) c.loop-i.invariant

pub returns : goal.returns
returns c =
    let count : c.loop-i.i ≡ length (loaded_names c.args.self.now.state) =
    (let past = c.loop-i-test.false in let most = c.loop-i.auto.i-end in omega (arith, past, most))
    ∙ c.len-i-end.ensures.value ∙ sym (length-map c.self.inside.state.sessions (λ entry. entry.0))
    ∙ ap (λ (owner : Owner). length (loaded_names owner.state)) c.self.view_is in
    sym (ap is_some (find-nowhere (has_pending c.args.self.now) (loaded_names c.args.self.now.state)
    (subst (NoneBefore (has_pending c.args.self.now) (loaded_names c.args.self.now.state)) count c.loop-i.invariant)))
