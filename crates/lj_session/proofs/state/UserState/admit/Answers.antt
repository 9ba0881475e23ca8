use Rattle.std.proofs.Common.{◌+◌, Err, refl, sym, ap, ◌∙◌}
use Rattle.lj_quota.specs.declared.Over.{Over}
use Rattle.lj_quota.specs.declared.Over.TheVariants.{Sessions}
use Rattle.lj_session.specs.Faults.{quota_refusal}
use Rattle.lj_session.proofs.Loading as loading
use Rattle.lj_session.proofs.Results.{refused}
use Rattle.lj_session.proofs.Limits.{over-limit, same_over, one-over, one-room}
use Rattle.lj_session.specs.UserState.{user_of}
use Rattle.lj_session.proofs.state.UserState.admit.Goals as goal

pub returns-then-has : goal.returns-then-has
returns-then-has c =
    let old = c.args.self.now in
    sym (loading.admitted-exists (user_of old) c.args.load.now
    (sym c.has.ensures ∙ c.if-has.true))

pub returns-in_err-may_session : goal.returns-in_err-may_session
returns-in_err-may_session c =
    let old = c.args.self.now in
    let over =
    over-limit (c.self.inside.used.sessions + 1) c.self.inside.quota.sessions c.in_err-may_session.ensures.may.1 in
    let which = same_over c.in_err-may_session.field-0.0 Sessions (c.in_err-may_session.ensures.over.1 over) in
    refused c.from_residual.result (quota_refusal c.in_err-may_session.field-0.0) c.from_residual.ensures.1
    ∙ (ap (λ (o : Over). Err (quota_refusal o)) which
    ∙ sym (loading.admitted-over (user_of old) c.args.load.now
    (sym c.has.ensures ∙ c.if-has.false)
    (one-over c.self.inside old c.self.view_is c.self.invariant.counted (λ used. used.sessions) (λ quota. quota.sessions) over)))

pub returns : goal.returns
returns c =
    let old = c.args.self.now in
    c.mix.ensures
    ∙ sym (loading.admitted-mix (user_of old) c.args.load.now
    (sym c.has.ensures ∙ c.if-has.false)
    (one-room c.self.inside old c.self.view_is c.self.invariant.counted (λ used. used.sessions) (λ quota. quota.sessions) (c.in_ok-may_session.ensures.may.0 refl)))
