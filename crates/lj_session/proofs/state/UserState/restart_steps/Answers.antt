use Rattle.std.proofs.Common.{◌≡◌, ℕ, suc, ◌+◌, List, length, Some, slice_get, map, refl, sym, ap, ◌∙◌, subst, arith}
use Rattle.std.specs.List.{IsDistinct}
use Rattle.std.specs.Option.{option_copied_mut}
use Rattle.std.specs.Str.{bytes_eq}
use Rattle.indexmap.specs.IndexMap.{set_value_at}
use Rattle.lj_quota.specs.declared.Quota.{Quota}
use Rattle.lj_session.specs.UserState.{LiveSession, UserState, Reached, loaded_names, with_steps_restarted, used_by, user_of}
use Rattle.lj_session.proofs.Reaching.{reached-same}
use Rattle.lj_session.proofs.Resting.{rested_to, rested_at, rested_next, rested_all, rested_used, rested_names, length-rested_to}
use Rattle.lj_session.proofs.Waiting.{rested_user}
use Rattle.lj_session.proofs.state.UserState.restart_steps.Goals.{After-loop-i}
use Rattle.lj_session.proofs.state.UserState.restart_steps.Goals as goal

pub loop-i-init : goal.loop-i-init
loop-i-init c = record {
  entries = ap (λ (o : UserState). o.sessions) c.self.view_is;
  quota = ap (λ (o : UserState). o.quota) c.self.view_is;
  used = refl;
}

-- at the end all are at rest
all : (c : After-loop-i) → record { quota = c.loop-i.self-inside.quota; sessions = c.loop-i.self-inside.sessions.entries }
    ≡ with_steps_restarted c.args.self.now
all c =
    let count : c.loop-i.i ≡ length c.args.self.now.sessions =
    (let past = c.loop-i-test.false in let most = c.loop-i.auto.i-end in omega (arith, past, most))
    ∙ c.len-i-end.ensures.len ∙ ap (λ (o : UserState). length o.sessions) c.self.view_is in
    ap (λ (q : Quota). record { quota = q; sessions = c.loop-i.self-inside.sessions.entries }) c.loop-i.invariant.quota
    ∙ ap (λ (es : List (List ℕ × LiveSession)). record { quota = c.args.self.now.quota; sessions = es })
    (c.loop-i.invariant.entries ∙ rested_all c.loop-i.i c.args.self.now.sessions count)

pub invariant_of-self : goal.invariant_of-self
invariant_of-self c = record {
  counted = c.loop-i.invariant.used ∙ c.self.invariant.counted ∙ ap used_by c.self.view_is
      ∙ sym (rested_used c.args.self.now) ∙ ap used_by (sym (all c));
  reached = reached-same c.args.self.now _ (subst Reached c.self.view_is c.self.invariant.reached)
      (ap user_of (all c) ∙ rested_user c.args.self.now);
}

pub returns-clause-rested : goal.returns-clause-rested
returns-clause-rested c = all c

pub returns-clause-distinct : goal.returns-clause-distinct
returns-clause-distinct c = subst (λ (l : List (List ℕ)). IsDistinct bytes_eq l)
    (ap loaded_names c.self.view_is ∙ sym (ap loaded_names (all c) ∙ rested_names c.args.self.now.sessions)) c.len-i-end.ensures.unique

pub returns-clause-user : goal.returns-clause-user
returns-clause-user c = ap user_of (all c) ∙ rested_user c.args.self.now

-- each index below the length has its session
pub unwrap-requires : goal.unwrap-requires
unwrap-requires c =
    let count : length c.loop-i.self-inside.sessions.entries ≡ c.len-i-end.result =
    ap length c.loop-i.invariant.entries ∙ length-rested_to c.loop-i.i c.args.self.now.sessions
    ∙ ap (λ (o : UserState). length o.sessions) (sym c.self.view_is) ∙ sym c.len-i-end.ensures.len in
    let below = c.loop-i-test.true in
    c.get_index_mut.ensures.found.1 (omega (arith, below, count))

pub loop-i-preserved : goal.loop-i-preserved
loop-i-preserved c =
    let sessions = c.args.self.now.sessions in
    let i = c.loop-i.i in
    let found : slice_get (map (λ (e : List ℕ × LiveSession). e.1) sessions) i ≡ Some c.unwrap.result.now =
    sym (rested_at i sessions)
    ∙ ap (λ (es : List (List ℕ × LiveSession)). slice_get (map (λ (e : List ℕ × LiveSession). e.1) es) i) (sym c.loop-i.invariant.entries)
    ∙ sym c.get_index_mut.ensures.value ∙ ap option_copied_mut c.unwrap.ensures in
    record {
      entries = ap (λ (es : List (List ℕ × LiveSession)). set_value_at es i c.restart_step.new.self) c.loop-i.invariant.entries
          ∙ ap (set_value_at (rested_to i sessions) i) c.restart_step.ensures
          ∙ rested_next i sessions c.unwrap.result.now found
          ∙ ap (λ n. rested_to n sessions) (let one : suc i ≡ i + 1 = omega arith in one);
      quota = c.loop-i.invariant.quota;
      used = c.loop-i.invariant.used;
    }
