-- Which steps are open: one in each session with pending steps, and in no other.
use Rattle.std.proofs.Common.{◌≡◌, ◌≢◌, ℕ, ◌+◌, ◌<◌, Bool, true, false, ◌&&◌, nat_le, nat_lt, List, Option, Some, None, Result, Ok, Err, refl, sym, ◌∙◌, ap, subst, arith, ◌⊎◌, inl, inr}
use Rattle.std.proofs.lemmas.Bool.{lt-ltb, ltb-true, ltb-false, leb-false, true≢false}
use Rattle.std.specs.Prelude.{OnErr, IsSomeAnd}
use Rattle.std.specs.Option.{option_map}
use Rattle.std.specs.Str.{bytes_eq}
use Rattle.std.proofs.lemmas.Slice.Eq.{bytes_eq-Decides}
use Rattle.lj_task.specs.declared.task_name.Kind.TheVariants.{Force, Energy}
use Rattle.lj_step.specs.Sim.{OpenStep}
use Rattle.lj_step.specs.OpenSteps.{kind_of, with_tile}
use Rattle.lj_session.specs.declared.command.Command.{Command}
use Rattle.lj_session.specs.declared.command.Command.TheVariants.{Load, Start, Forget, ListBranches, Measure}
use Rattle.lj_session.specs.declared.refusal.Refusal.{Refusal}
use Rattle.lj_session.specs.declared.reply.Reply.{Reply}
use Rattle.lj_session.specs.Turns.{waits_for}
use Rattle.lj_session.specs.Answers.{session_named, command_result, can_advance}
use Rattle.lj_session.specs.Users.{User}
use Rattle.lj_session.specs.UserState.{OthersKept, StepsFollow, StepsAfter, StepsAfterLoad, SameSteps, IsIdle, Performs, steps_before, with_start, settled_session, user_of}
use Rattle.lj_session.proofs.Performing.{IsFarIn, steps-same, steps-done}
use Rattle.lj_session.specs.UserState.{LiveSession, UserState, IsAtWork, kind_pending, is_measured, live_session, with_live_session, with_session_changed, with_step, with_more_pending, with_step_finished, with_step_taken, with_step_restarted, with_steps_restarted, with_passed, with_posted, with_tile_in}
use Rattle.lj_session.proofs.Entries.{by_test, named-put_any, named-put_other, named-seen}
use Rattle.lj_session.proofs.Holding.{changed-some, named-held}
use Rattle.lj_session.proofs.Tiles.{posted-live, posted-same}

same_Some : {A : Type 0} (x y : A) → Some x ≡ Some y → x ≡ y
same_Some x y e = cc

-- one session put in place, with the step that it should have
pub at_work-put : (waiting : Option Command) (old : UserState) (name : List ℕ) (new : LiveSession)
    → kind_of new.live.part ≡ kind_pending waiting name new → IsAtWork waiting old → IsAtWork waiting (with_live_session name new old)
at_work-put waiting old name new kind work other session e = by_test (bytes_eq name other)
    (λ t. let same = (bytes_eq-Decides name other).0 t in
    let found : live_session (with_live_session name new old) name ≡ Some session = ap (live_session (with_live_session name new old)) same ∙ e in
    let is : new ≡ session = same_Some new session (sym (named-put_any name old.sessions new) ∙ found) in
    subst (λ (n : List ℕ). kind_of session.live.part ≡ kind_pending waiting n session) same
    (subst (λ (h : LiveSession). kind_of h.live.part ≡ kind_pending waiting name h) is kind))
    (λ t. work other session (sym (named-put_other name other (λ same. true≢false (sym ((bytes_eq-Decides name other).1 same) ∙ t)) old.sessions new) ∙ e))

-- one session changed
pub at_work-changed : (waiting : Option Command) (old : UserState) (name : List ℕ) (change : LiveSession → LiveSession)
    → ((session : LiveSession) → live_session old name ≡ Some session → kind_of (change session).live.part ≡ kind_pending waiting name (change session))
    → IsAtWork waiting old → IsAtWork waiting (with_session_changed name change old)
at_work-changed waiting old name change kind work = by (live_session old name) refl
  where
    by : (o : Option LiveSession) → live_session old name ≡ o → IsAtWork waiting (with_session_changed name change old)
    by None e = rw e work
    by (Some session) e = rw e (at_work-put waiting old name (change session) (kind session e) work)

-- the kind of a step that stays
pub kind-posted : (session : LiveSession) → kind_of (with_posted session).live.part ≡ kind_of session.live.part
kind-posted session = ap (λ l. kind_of l.part) (posted-live session)

pub kind-taken : (k : ℕ) (part : Option OpenStep) → kind_of (with_tile k part) ≡ kind_of part
kind-taken k None = refl
kind-taken k (Some p) = refl

pub pending-posted : (session : LiveSession) → (with_posted session).pending ≡ session.pending
pending-posted = posted-same (λ session. session.pending) (λ n session. refl)

-- a session is as it was but for its tiles
pub kind_pending-same : (waiting : Option Command) (name : List ℕ) (session new : LiveSession) → new.pending ≡ session.pending
    → kind_pending waiting name new ≡ kind_pending waiting name session
kind_pending-same waiting name session new same = rw same refl

pub at_work-posted : (waiting : Option Command) (old : UserState) (name : List ℕ) → IsAtWork waiting old
    → IsAtWork waiting (with_session_changed name with_posted old)
at_work-posted waiting old name work = at_work-changed waiting old name with_posted
    (λ session e. kind-posted session ∙ work name session e ∙ sym (kind_pending-same waiting name session (with_posted session) (pending-posted session)))
    work

-- the number of tiles passed leaves both
pub at_work-to : (waiting : Option Command) (old : UserState) (name : List ℕ) (n : ℕ) → IsAtWork waiting old
    → IsAtWork waiting (with_session_changed name (with_passed n) old)
at_work-to waiting old name n work = at_work-changed waiting old name (with_passed n) (λ session e. work name session e) work

pub at_work-taken : (waiting : Option Command) (old : UserState) (name : List ℕ) (k : ℕ) → IsAtWork waiting old
    → IsAtWork waiting (with_session_changed name (with_tile_in k) old)
at_work-taken waiting old name k work = at_work-changed waiting old name (with_tile_in k)
    (λ session e. kind-taken k session.live.part ∙ work name session e) work

-- where steps are pending one of pushes is open
pub kind-some : (waiting : Option Command) (name : List ℕ) (session : LiveSession) → 0 < session.pending → kind_pending waiting name session ≡ Some Force
kind-some waiting name session some = rw (lt-ltb 0 session.pending some) refl

pub kind-none : (waiting : Option Command) (name : List ℕ) (session : LiveSession) → session.pending ≡ 0 → is_measured waiting name ≡ false
    → kind_pending waiting name session ≡ None
kind-none waiting name session none quiet = rw (none, quiet) refl

-- steps added: the first of them is open, or one was
pub kind-added : (waiting : Option Command) (name : List ℕ) (n : ℕ) (session : LiveSession) → is_measured waiting name ≡ false
    → kind_of session.live.part ≡ kind_pending waiting name session
    → kind_of (with_more_pending n session).live.part ≡ kind_pending waiting name (with_more_pending n session)
kind-added waiting name n session quiet kind = by_test (nat_lt 0 n && nat_le session.pending 0) opens stays
  where
    opens : (nat_lt 0 n && nat_le session.pending 0) ≡ true → kind_of (with_more_pending n session).live.part ≡ kind_pending waiting name (with_more_pending n session)
    opens t = by_test (nat_lt 0 n)
        (λ some. let more = ltb-true 0 n some in let all = lt-ltb 0 (session.pending + n) (omega (arith, more)) in rw (t, all) refl)
        (λ none. absurd (true≢false (sym t ∙ rw none refl)))

    stays : (nat_lt 0 n && nat_le session.pending 0) ≡ false → kind_of (with_more_pending n session).live.part ≡ kind_pending waiting name (with_more_pending n session)
    stays t = rw t (kind ∙ same (by_test (nat_lt 0 n) pending-some pending-none))
      where
        same : nat_lt 0 (session.pending + n) ≡ nat_lt 0 session.pending
            → kind_pending waiting name session ≡ kind_pending waiting name (record session { pending = session.pending + n })
        same e = rw e refl

        pending-some : nat_lt 0 n ≡ true → nat_lt 0 (session.pending + n) ≡ nat_lt 0 session.pending
        pending-some some = by_test (nat_le session.pending 0)
            (λ none. absurd (true≢false (sym (rw (some, none) refl) ∙ t)))
            (λ more. let was = leb-false session.pending 0 more in
            lt-ltb 0 (session.pending + n) (omega (arith, was)) ∙ sym (lt-ltb 0 session.pending was))

        pending-none : nat_lt 0 n ≡ false → nat_lt 0 (session.pending + n) ≡ nat_lt 0 session.pending
        pending-none none =
            let zero_more : n ≡ 0 = let z = ltb-false 0 n none in omega (arith, z) in
            ap (λ m. nat_lt 0 m) (let z : session.pending + n ≡ session.pending = omega (arith, zero_more) in z)

pub kind-started : (name : List ℕ) (n : ℕ) (session : LiveSession) → kind_of session.live.part ≡ kind_pending None name session
    → kind_of (with_start n session).live.part ≡ kind_pending None name (with_start n session)
kind-started name n session kind = by_test (can_advance (settled_session session) n)
    (λ t. rw t (kind-added None name n session refl kind))
    (λ t. rw t kind)

-- a step passed: the next one is open if one is pending
pub kind-passed : (waiting : Option Command) (name : List ℕ) (session : LiveSession) → is_measured waiting name ≡ false
    → kind_of (with_step_finished session).live.part ≡ kind_pending waiting name (with_step_finished session)
kind-passed waiting name session quiet = by_test (nat_lt 0 (with_step_taken session).pending)
    (λ t. rw (t, t) refl)
    (λ t. rw (t, t, quiet) refl)

-- each step begun anew
pub kind-rest : (name : List ℕ) (session : LiveSession) → kind_of (with_step_restarted session).live.part ≡ kind_pending None name (with_step_restarted session)
kind-rest name session = by_test (nat_lt 0 session.pending) (λ t. rw (t, t) refl) (λ t. rw (t, t) refl)

pub at_work-rested : (state : UserState) → IsAtWork None (with_steps_restarted state)
at_work-rested state name session e = by (live_session state name) refl
  where
    by : (o : Option LiveSession) → live_session state name ≡ o → kind_of session.live.part ≡ kind_pending None name session
    by None h = absurd (none_some session (sym (named-seen with_step_restarted name state.sessions ∙ ap (option_map with_step_restarted) h) ∙ e))
      where
        none_some : (x : LiveSession) → None ≡ Some x → ⊥
        none_some x k = cc
    by (Some was) h =
        let is : with_step_restarted was ≡ session = same_Some (with_step_restarted was) session (sym (named-seen with_step_restarted name state.sessions ∙ ap (option_map with_step_restarted) h) ∙ e) in
        subst (λ (x : LiveSession). kind_of x.live.part ≡ kind_pending None name x) is (kind-rest name was)

-- the session that an answered command is of, and the others
pub at_work-follows : (command : Command) (old new : UserState) → OthersKept command old new → StepsFollow command old new
    → IsAtWork None old → IsAtWork None new
at_work-follows command old new others steps work name session e = by (session_named command) refl
  where
    same : (o : Option LiveSession) → live_session old name ≡ o → IsSomeAnd o (λ before. SameSteps before session)
        → kind_of session.live.part ≡ kind_pending None name session
    same None h lacking = absurd lacking
    same (Some before) h s =
        ap (λ l. kind_of l.part) s.live ∙ work name before h ∙ sym (kind_pending-same None name before session s.pending)

    begun : (n : ℕ) (o : Option LiveSession) → live_session old name ≡ o → IsSomeAnd o (λ before. session ≡ with_start n before)
        → kind_of session.live.part ≡ kind_pending None name session
    begun n None h lacking = absurd lacking
    begun n (Some before) h is = subst (λ (x : LiveSession). kind_of x.live.part ≡ kind_pending None name x) (sym is)
        (kind-started name n before (work name before h))

    idle : IsIdle session → kind_of session.live.part ≡ kind_pending None name session
    idle i = i.closed ∙ sym (kind-none None name session i.pending refl)

    loaded : (o : Option LiveSession) → live_session old name ≡ o → StepsAfterLoad o session
        → kind_of session.live.part ≡ kind_pending None name session
    loaded None h i = idle i
    loaded (Some before) h s = same (Some before) h s

    after : (command : Command) → StepsAfter command (live_session old name) session → kind_of session.live.part ≡ kind_pending None name session
    after (Load load) s = loaded (live_session old name) refl s
    after (Start session_name n) s = begun n (live_session old name) refl s
    after (Forget session_name branch) s = same (live_session old name) refl s
    after (ListBranches session_name) s = same (live_session old name) refl s
    after command s = either s
      where
        either : IsIdle session ⊎ IsSomeAnd (live_session old name) (λ before. SameSteps before session)
            → kind_of session.live.part ≡ kind_pending None name session
        either (inl i) = idle i
        either (inr s) = same (live_session old name) refl s

    own : session_named command ≡ Some name → kind_of session.live.part ≡ kind_pending None name session
    own is = after command (steps name session is e)

    other : session_named command ≢ Some name → kind_of session.live.part ≡ kind_pending None name session
    other apart = work name session (sym (others name apart) ∙ e)

    by : (o : Option (List ℕ)) → session_named command ≡ o → kind_of session.live.part ≡ kind_pending None name session
    by None h = other (λ is. let k = sym h ∙ is in none_some name k)
      where
        none_some : (n : List ℕ) → None ≡ Some n → ⊥
        none_some n k = cc
    by (Some session_name) h = by_test (bytes_eq session_name name)
        (λ t. own (h ∙ ap (λ (n : List ℕ). Some n) ((bytes_eq-Decides session_name name).0 t)))
        (λ t. other (λ is. true≢false (sym ((bytes_eq-Decides session_name name).1 (same_Some session_name name (sym h ∙ is))) ∙ t)))

-- what waits for pending steps changes nothing of what is open
pub at_work-waits : (command : Command) (state : UserState) → 0 < steps_before state command → IsAtWork None state
    → IsAtWork (Some command) state
unfolding waits_for
at_work-waits (Measure session_name) state some work name session e = work name session e ∙ by_test (bytes_eq session_name name)
    (λ t. let there = ap (live_session state) ((bytes_eq-Decides session_name name).0 t) ∙ e in
    let more : 0 < session.pending = rw there at some in
    kind-some None name session more ∙ sym (kind-some (Some (Measure session_name)) name session more))
    (λ t. rw t refl)
at_work-waits command state some work name session e = work name session e

-- a command that was performed
pub at_work-performed : (old new : UserState) (command : Command) (result : Result Reply Refusal) → Performs old command result new
    → OnErr result (new ≡ old) → IsAtWork None old → IsAtWork None new
at_work-performed old new command (Ok made) performs same work =
    at_work-follows command old new performs.others performs.steps work
at_work-performed old new command (Err refusal) performs same work =
    subst (λ (state : UserState). IsAtWork None state) (sym same) work

refused-far : (old : UserState) (command : Command) (refusal : Refusal) (mark : Bool)
    → command_result (user_of old) command mark ≡ Err refusal → IsFarIn old command
refused-far old (Start session_name n) refusal mark h name session is there = by_test (can_advance (settled_session session) n)
    (λ t. absurd (ok_err _ (sym (steps-done (user_of old) session_name mark (settled_session session)
    (named-held old session_name session (ap (live_session old) (same_Some session_name name is) ∙ there)) n t).1 ∙ h)))
    (λ t. t)
  where
    ok_err : (x : Reply × User) → Ok x ≡ Err refusal → ⊥
    ok_err x e = cc
refused-far old command refusal mark h name session is there = tt

pub steps-performed : (old new : UserState) (command : Command) (result : Result Reply Refusal) → Performs old command result new
    → OnErr result (new ≡ old) → StepsFollow command old new
steps-performed old new command (Ok made) performs same = performs.steps
steps-performed old new command (Err refusal) performs same =
    subst (λ (state : UserState). StepsFollow command old state) (sym same)
    (steps-same old command (refused-far old command refusal performs.mark performs.performs))

-- a session that is measured: its energy step is open
pub at_work-measured : (state : UserState) (name : List ℕ) (session : LiveSession) → live_session state name ≡ Some session → session.pending ≡ 0
    → IsAtWork None state → IsAtWork (Some (Measure name)) (with_session_changed name (with_step Energy) state)
at_work-measured state name session found none work other h e = by_test (bytes_eq name other) here there
  where
    now : with_session_changed name (with_step Energy) state ≡ with_live_session name (with_step Energy session) state
    now = changed-some state name (with_step Energy) session found

    here : bytes_eq name other ≡ true → kind_of h.live.part ≡ kind_pending (Some (Measure name)) other h
    here t =
        let same = (bytes_eq-Decides name other).0 t in
        let is : with_step Energy session ≡ h =
        same_Some (with_step Energy session) h (sym (named-put_any name state.sessions (with_step Energy session))
        ∙ ap (λ (o : UserState). live_session o name) (sym now)
        ∙ ap (live_session (with_session_changed name (with_step Energy) state)) same ∙ e) in
        subst (λ (x : LiveSession). kind_of x.live.part ≡ kind_pending (Some (Measure name)) other x) is (rw (none, t) refl)

    there : bytes_eq name other ≡ false → kind_of h.live.part ≡ kind_pending (Some (Measure name)) other h
    there t =
        let apart : name ≢ other = λ same. true≢false (sym ((bytes_eq-Decides name other).1 same) ∙ t) in
        let was : live_session state other ≡ Some h =
        sym (named-put_other name other apart state.sessions (with_step Energy session))
        ∙ ap (λ (o : UserState). live_session o other) (sym now) ∙ e in
        rw t (work other h was)
