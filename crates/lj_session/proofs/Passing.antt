-- The turn of the session that a command waits for: which step it was, and what is open then.
use Rattle.std.proofs.Common.{◌≡◌, ◌≢◌, ◌⊎◌, inl, inr, ℕ, ◌+◌, ◌<◌, true, false, List, Option, Some, None, Ok, refl, sym, ◌∙◌, ap, subst, arith}
use Rattle.std.proofs.lemmas.Bool.{lt-ltb, true≢false}
use Rattle.std.specs.Prelude.{IsSomeAnd}
use Rattle.std.specs.Option.{option_map_or}
use Rattle.std.specs.Str.{bytes_eq}
use Rattle.std.proofs.lemmas.Slice.Eq.{bytes_eq-Decides}
use Rattle.lj_task.specs.declared.task_name.Kind.{Kind}
use Rattle.lj_task.specs.declared.task_name.Kind.TheVariants.{Force, Energy}
use Rattle.lj_step.specs.Sim.{OpenStep}
use Rattle.lj_step.specs.OpenSteps.{kind_of, is_whole}
use Rattle.lj_session.specs.declared.command.Command.{Command}
use Rattle.lj_session.specs.declared.command.Command.TheVariants.{Load, Advance, Start, Reverse, Branch, Restore, Forget, Tug}
use Rattle.lj_session.specs.declared.command.Command.TheVariants.{Measure, Show, Dump, List as ListSessions}
use Rattle.lj_session.specs.declared.command.Command.TheVariants.{ListBranches, Unload, Bye}
use Rattle.lj_session.specs.declared.reply.Reply.{Reply}
use Rattle.lj_session.specs.Answers.{command_result, reply_and_user, session_named}
use Rattle.lj_session.specs.Turns.{turns, waits_for}
use Rattle.lj_session.specs.UserState.{LiveSession, UserState, OthersKept, OtherSessionsKept, StepsFollow, StepsAfter, SameSteps, IsIdle, IsIdleIn, IsAtWork, HasWholeStep, Reads, user_of, live_session, pending_in, with_session_changed, with_live_session, with_step_finished, with_no_step, is_whole_in, is_measured, kind_pending, turns_before}
use Rattle.lj_session.specs.Owner.{IsAnswered}
use Rattle.lj_session.proofs.AtWork.{kind-none, kind-passed}
use Rattle.lj_session.proofs.Entries.{by_test, named-put_any, named-put_other}
use Rattle.lj_session.proofs.Holding.{changed-none, changed-some, named-held, none-before}
use Rattle.lj_session.proofs.Others.{others-changed}
use Rattle.lj_session.proofs.Turning.{measure-turns-one}

same_Some : {A : Type 0} (x y : A) → Some x ≡ Some y → x ≡ y
same_Some x y e = cc

-- a session whose open step is whole, and its pending step
pub record Open (waiting : Option Command) (state : UserState) (name : List ℕ) : Type 0 where
  pub session : LiveSession
  pub there : live_session state name ≡ Some session
  pub kind : Kind
  pub is : kind_of session.live.part ≡ Some kind
  pub whole : is_whole session.live.part ≡ true
  pub pending : kind_pending waiting name session ≡ Some kind

pub opens : (waiting : Option Command) (state : UserState) (name : List ℕ) → is_whole_in state name ≡ true
    → IsAtWork waiting state → Open waiting state name
opens waiting state name whole work = by (live_session state name) refl
  where
    of : (session : LiveSession) (part : Option OpenStep) → live_session state name ≡ Some session → session.live.part ≡ part → is_whole part ≡ true
        → Open waiting state name
    of session None e is all = absurd (true≢false (sym all))
    of session (Some p) e is all = record {
      session = session;
      there = e;
      kind = p.kind;
      is = ap kind_of is;
      whole = ap is_whole is ∙ all;
      pending = sym (work name session e) ∙ ap kind_of is;
    }

    by : (o : Option LiveSession) → live_session state name ≡ o → Open waiting state name
    by None e = absurd (true≢false (sym (rw e at whole)))
    by (Some session) e = of session session.live.part e refl (rw e at whole)

pub pending-held : (state : UserState) (name : List ℕ) (session : LiveSession) → live_session state name ≡ Some session → pending_in state name ≡ session.pending
pending-held state name session e = ap (λ o. option_map_or (λ (h : LiveSession). h.pending) o 0) e

-- where steps are pending it is one of pushes
pub forces : (waiting : Option Command) (state : UserState) (name : List ℕ) → is_whole_in state name ≡ true
    → IsAtWork waiting state → 0 < pending_in state name → (session : LiveSession) → live_session state name ≡ Some session → HasWholeStep Force session
forces waiting state name whole work some session e =
    let o = opens waiting state name whole work in
    let is : o.session ≡ session = same_Some o.session session (sym o.there ∙ e) in
    subst (λ (h : LiveSession). HasWholeStep Force h) is
    (record { kind = o.is ∙ sym o.pending ∙ kind o.session (subst (λ n. 0 < n) (pending-held state name o.session o.there) some); whole = o.whole })
  where
    kind : (h : LiveSession) → 0 < h.pending → kind_pending waiting name h ≡ Some Force
    kind h more = rw (lt-ltb 0 h.pending more) refl

-- where none are it is one of energies, since what waits measures the session
pub record Energies (waiting : Option Command) (state : UserState) (name : List ℕ) : Type 0 where
  pub session : LiveSession
  pub there : live_session state name ≡ Some session
  pub none : session.pending ≡ 0
  pub whole : HasWholeStep Energy session
  pub measured : is_measured waiting name ≡ true

pub energies : (waiting : Option Command) (state : UserState) (name : List ℕ) → is_whole_in state name ≡ true
    → IsAtWork waiting state → pending_in state name ≡ 0 → Energies waiting state name
energies waiting state name whole work none = by_test (is_measured waiting name) some lacking
  where
    o : Open waiting state name
    o = opens waiting state name whole work

    nothing : o.session.pending ≡ 0
    nothing = sym (pending-held state name o.session o.there) ∙ none

    some : is_measured waiting name ≡ true → Energies waiting state name
    some t =
        let kind : kind_pending waiting name o.session ≡ Some Energy = rw (nothing, t) refl in record {
          session = o.session;
          there = o.there;
          none = nothing;
          whole = record { kind = o.is ∙ sym o.pending ∙ kind; whole = o.whole };
          measured = t;
        }

    lacking : is_measured waiting name ≡ false → Energies waiting state name
    lacking t =
        let kind : kind_pending waiting name o.session ≡ None = rw (nothing, t) refl in
        absurd (none_some o.kind (sym kind ∙ o.pending))
      where
        none_some : (k : Kind) → None ≡ Some k → ⊥
        none_some k e = cc

-- what is measured is waited for
pub measures : (command : Command) (name : List ℕ) → is_measured (Some command) name ≡ true → command ≡ Measure name
measures (Measure session) name t = ap Measure ((bytes_eq-Decides session name).0 t)
measures (Load load) name t = absurd (true≢false (sym t))
measures (Advance s n) name t = absurd (true≢false (sym t))
measures (Start s n) name t = absurd (true≢false (sym t))
measures (Reverse s) name t = absurd (true≢false (sym t))
measures (Branch s b) name t = absurd (true≢false (sym t))
measures (Restore s b) name t = absurd (true≢false (sym t))
measures (Forget s b) name t = absurd (true≢false (sym t))
measures (Tug s atom x y z) name t = absurd (true≢false (sym t))
measures (Show s atom) name t = absurd (true≢false (sym t))
measures (Dump s) name t = absurd (true≢false (sym t))
measures ListSessions name t = absurd (true≢false (sym t))
measures (ListBranches s) name t = absurd (true≢false (sym t))
measures (Unload s) name t = absurd (true≢false (sym t))
measures Bye name t = absurd (true≢false (sym t))

-- so no other session is
pub unmeasured : (command : Command) (name other : List ℕ) → waits_for command ≡ Some name → name ≢ other
    → is_measured (Some command) other ≡ false
unfolding waits_for
unmeasured command name other waits apart = by_test (is_measured (Some command) other)
    (λ t. absurd (apart (same_Some name other (sym waits ∙ ap waits_for (measures command other t)))))
    (λ t. t)

-- one turn is left then
pub measured_last : (command : Command) (state : UserState) (name : List ℕ) → Energies (Some command) state name
    → turns_before state command ≡ 1
unfolding waits_for
measured_last command state name e =
    let is = measures command name e.measured in
    let pending : pending_in state name ≡ 0 = pending-held state name e.session e.there ∙ e.none in
    let one = measure-turns-one (user_of state) name _ (named-held state name e.session e.there) in
    ap (turns_before state) is ∙ (let sum : pending_in state name + turns (user_of state) (Measure name) ≡ 1 = omega (arith, pending, one) in sum)

pub measured_answered : (command : Command) (state next : UserState) (name : List ℕ) (reply : Reply) → command ≡ Measure name
    → Reads state (Measure name) (Ok reply) → user_of next ≡ user_of state
    → IsAnswered (user_of state) command reply (user_of next)
measured_answered command state next name reply is reads same = record {
  mark = false;
  answers = ap (λ u. (reply, u)) same ∙ sym (ap (reply_and_user (user_of state)) (reads false))
      ∙ ap (λ (k : Command). reply_and_user (user_of state) (command_result (user_of state) k false)) (sym is);
  only_memory = λ set. absurd (true≢false (sym set));
}

-- and no step is open then but where steps are pending
pub at_work-closed : (command : Command) (state : UserState) (name : List ℕ) → waits_for command ≡ Some name
    → Energies (Some command) state name → IsAtWork (Some command) state → IsAtWork None (with_session_changed name with_no_step state)
at_work-closed command state name waits en work other h e = by_test (bytes_eq name other) here there
  where
    now : with_session_changed name with_no_step state ≡ with_live_session name (with_no_step en.session) state
    now = changed-some state name with_no_step en.session en.there

    here : bytes_eq name other ≡ true → kind_of h.live.part ≡ kind_pending None other h
    here t =
        let same = (bytes_eq-Decides name other).0 t in
        let is : with_no_step en.session ≡ h =
        same_Some (with_no_step en.session) h (sym (named-put_any name state.sessions (with_no_step en.session))
        ∙ ap (λ (o : UserState). live_session o name) (sym now)
        ∙ ap (live_session (with_session_changed name with_no_step state)) same ∙ e) in
        subst (λ (x : LiveSession). kind_of x.live.part ≡ kind_pending None other x) is (rw en.none refl)

    there : bytes_eq name other ≡ false → kind_of h.live.part ≡ kind_pending None other h
    there t =
        let apart : name ≢ other = λ same. true≢false (sym ((bytes_eq-Decides name other).1 same) ∙ t) in
        let was : live_session state other ≡ Some h =
        sym (named-put_other name other apart state.sessions (with_no_step en.session))
        ∙ ap (λ (o : UserState). live_session o other) (sym now) ∙ e in
        work other h was ∙ rw (unmeasured command name other waits apart) refl

-- a step passed of the session that is waited for: nothing waits then
pub at_work-passed : (command : Command) (state : UserState) (name : List ℕ) → waits_for command ≡ Some name → 0 < pending_in state name
    → IsAtWork (Some command) state → IsAtWork None (with_session_changed name with_step_finished state)
at_work-passed command state name waits some work other h e = by_test (bytes_eq name other) here there
  where
    by : (o : Option LiveSession) → live_session state name ≡ o → (was : LiveSession) × (live_session state name ≡ Some was)
    by None k = absurd (let none = rw k at some in omega (arith, none))
    by (Some was) k = (was, k)

    found : (was : LiveSession) × (live_session state name ≡ Some was)
    found = by (live_session state name) refl

    now : with_session_changed name with_step_finished state ≡ with_live_session name (with_step_finished found.0) state
    now = changed-some state name with_step_finished found.0 found.1

    here : bytes_eq name other ≡ true → kind_of h.live.part ≡ kind_pending None other h
    here t =
        let same = (bytes_eq-Decides name other).0 t in
        let is : with_step_finished found.0 ≡ h =
        same_Some (with_step_finished found.0) h (sym (named-put_any name state.sessions (with_step_finished found.0))
        ∙ ap (λ (o : UserState). live_session o name) (sym now)
        ∙ ap (live_session (with_session_changed name with_step_finished state)) same ∙ e) in
        subst (λ (x : LiveSession). kind_of x.live.part ≡ kind_pending None other x) is (kind-passed None other found.0 refl)

    there : bytes_eq name other ≡ false → kind_of h.live.part ≡ kind_pending None other h
    there t =
        let apart : name ≢ other = λ same. true≢false (sym ((bytes_eq-Decides name other).1 same) ∙ t) in
        let was : live_session state other ≡ Some h =
        sym (named-put_other name other apart state.sessions (with_step_finished found.0))
        ∙ ap (λ (o : UserState). live_session o other) (sym now) ∙ e in
        work other h was ∙ rw (unmeasured command name other waits apart) refl

-- the session that a command waits for is the one that it names
pub waited_named : (command : Command) (name : List ℕ) → waits_for command ≡ Some name → session_named command ≡ Some name
unfolding waits_for
waited_named (Load load) name e = absurd (none_some e)
  where
    none_some : None ≡ Some name → ⊥
    none_some k = cc
waited_named (Advance s n) name e = e
waited_named (Start s n) name e = absurd (none_some e)
  where
    none_some : None ≡ Some name → ⊥
    none_some k = cc
waited_named (Reverse s) name e = e
waited_named (Branch s b) name e = e
waited_named (Restore s b) name e = e
waited_named (Forget s b) name e = absurd (none_some e)
  where
    none_some : None ≡ Some name → ⊥
    none_some k = cc
waited_named (Tug s atom x y z) name e = e
waited_named (Measure s) name e = e
waited_named (Show s atom) name e = e
waited_named (Dump s) name e = e
waited_named ListSessions name e = absurd (none_some e)
  where
    none_some : None ≡ Some name → ⊥
    none_some k = cc
waited_named (ListBranches s) name e = absurd (none_some e)
  where
    none_some : None ≡ Some name → ⊥
    none_some k = cc
waited_named (Unload s) name e = e
waited_named Bye name e = absurd (none_some e)
  where
    none_some : None ≡ Some name → ⊥
    none_some k = cc

-- what waited is answered, and no step is pending or open in its session
pub rests-followed : (command : Command) (old new : UserState) (name : List ℕ) → waits_for command ≡ Some name
    → turns_before old command ≡ 0 → IsAtWork None old → StepsFollow command old new → IsIdleIn new name
unfolding waits_for
rests-followed command old new name waits none work steps session there =
    after command waits (steps name session (waited_named command name waits) there)
  where
    same : (o : Option LiveSession) → live_session old name ≡ o → IsSomeAnd o (λ before. SameSteps before session) → IsIdle session
    same None h lacking = absurd lacking
    same (Some before) h s =
        let pending : before.pending ≡ 0 = sym (pending-held old name before h) ∙ none-before old command name waits none in record {
          pending = s.pending ∙ pending;
          closed = ap (λ l. kind_of l.part) s.live ∙ work name before h ∙ kind-none None name before pending refl;
        }

    none_some : None ≡ Some name → ⊥
    none_some e = cc

    after : (command : Command) → waits_for command ≡ Some name → StepsAfter command (live_session old name) session → IsIdle session
    after (Load load) w s = absurd (none_some w)
    after (Start session_name n) w s = absurd (none_some w)
    after (Forget session_name branch) w s = absurd (none_some w)
    after (ListBranches session_name) w s = absurd (none_some w)
    after command w s = either s
      where
        either : IsIdle session ⊎ IsSomeAnd (live_session old name) (λ before. SameSteps before session) → IsIdle session
        either (inl i) = i
        either (inr s) = same (live_session old name) refl s

pub rests-closed : (old : UserState) (name : List ℕ) → pending_in old name ≡ 0 → IsIdleIn (with_session_changed name with_no_step old) name
rests-closed old name none session there = by (live_session old name) refl
  where
    none_some : (x : LiveSession) → None ≡ Some x → ⊥
    none_some x e = cc

    by : (o : Option LiveSession) → live_session old name ≡ o → IsIdle session
    by None e = absurd (none_some session (sym e ∙ ap (λ (o : UserState). live_session o name) (sym (changed-none old name with_no_step e)) ∙ there))
    by (Some was) e =
        let is : with_no_step was ≡ session = same_Some (with_no_step was) session (sym (named-put_any name old.sessions (with_no_step was))
        ∙ ap (λ (o : UserState). live_session o name) (sym (changed-some old name with_no_step was e)) ∙ there) in
        subst IsIdle is (record { pending = sym (pending-held old name was e) ∙ none; closed = refl })

-- the others are left by the step and by what is begun again
pub others-passed : (command : Command) (old new : UserState) (name : List ℕ) → waits_for command ≡ Some name
    → OthersKept command (with_session_changed name with_step_finished old) new → OtherSessionsKept name old new
others-passed command old new name waits kept other apart =
    kept other (λ same. apart (same_Some name other (sym (waited_named command name waits) ∙ same)))
    ∙ others-changed old name with_step_finished other (λ same. apart (same_Some name other same))

pub others-closed : (old : UserState) (name : List ℕ) → OtherSessionsKept name old (with_session_changed name with_no_step old)
others-closed old name other apart = others-changed old name with_no_step other (λ same. apart (same_Some name other same))
