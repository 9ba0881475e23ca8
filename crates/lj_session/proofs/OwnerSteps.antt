-- The owner's steps: which are pending where one session changes, and what its whole step is.
use Rattle.std.proofs.Common.{◌≡◌, ◌≢◌, ℕ, ◌<◌, true, false, nat_lt, List, Option, Some, None, Result, Ok, Err, refl, sym, ◌∙◌, ap, subst, arith}
use Rattle.std.proofs.Common.{◌+◌}
use Rattle.std.proofs.lemmas.Bool.{ltb-true, ltb-false, true≢false}
use Rattle.std.specs.Prelude.{IfSome, OnOk, OnErr}
use Rattle.std.specs.Option.{option_map_or}
use Rattle.std.specs.Str.{bytes_eq}
use Rattle.std.proofs.lemmas.Slice.Eq.{bytes_eq-Decides}
use Rattle.lj_task.specs.declared.task_name.Kind.{Kind}
use Rattle.lj_session.specs.declared.command.Command.{Command}
use Rattle.lj_session.specs.Users.{User}
use Rattle.lj_session.specs.Turns.{turns, waits_for}
use Rattle.lj_session.specs.UserState.{LiveSession, UserState, IsAtWork, user_of, live_session, pending_in, with_live_session, with_session_changed, with_step_finished, is_whole_in, is_measured, steps_before, turns_before}
use Rattle.lj_session.specs.Owner.{Owner, has_pending, is_waited_for}
use Rattle.lj_session.proofs.Entries.{by_test, named-put_any, named-put_other}
use Rattle.lj_session.proofs.Holding.{changed-none, changed-some}
use Rattle.lj_session.proofs.Others.{others-changed}
use Rattle.lj_session.proofs.AtWork.{at_work-changed, kind-none, kind-passed}
use Rattle.lj_session.proofs.Passing.{Open, opens, energies, measures, pending-held}

-- either way of a result
pub either-way : {A B P X Y : Type 0} (r : Result A B) → OnOk r X → OnErr r Y → (X → P) → (Y → P) → P
either-way (Ok a) x y good bad = good x
either-way (Err b) x y good bad = bad y

-- the number of pending steps of a session, where it stays
pub pending-changed : (state : UserState) (name : List ℕ) (change : LiveSession → LiveSession) → ((session : LiveSession) → (change session).pending ≡ session.pending)
    → (other : List ℕ) → pending_in (with_session_changed name change state) other ≡ pending_in state other
pending-changed state name change same other = by (live_session state name) refl
  where
    pending : Option LiveSession → ℕ
    pending o = option_map_or (λ (h : LiveSession). h.pending) o 0

    by : (o : Option LiveSession) → live_session state name ≡ o → pending_in (with_session_changed name change state) other ≡ pending_in state other
    by None e = ap (λ (x : UserState). pending_in x other) (changed-none state name change e)
    by (Some session) e = ap (λ (x : UserState). pending_in x other) (changed-some state name change session e) ∙ by_test (bytes_eq name other)
        (λ t. let is = (bytes_eq-Decides name other).0 t in
        ap (λ (n : List ℕ). pending_in (with_live_session name (change session) state) n) (sym is)
        ∙ ap pending (named-put_any name state.sessions (change session)) ∙ same session ∙ sym (ap pending e) ∙ ap (pending_in state) is)
        (λ t. ap pending (named-put_other name other (λ is. true≢false (sym ((bytes_eq-Decides name other).1 is) ∙ t))
        state.sessions (change session)))

-- and to another session than the one that changes
pub pending-apart : (state : UserState) (name other : List ℕ) (change : LiveSession → LiveSession) → name ≢ other
    → pending_in (with_session_changed name change state) other ≡ pending_in state other
pending-apart state name other change apart = ap (λ o. option_map_or (λ (h : LiveSession). h.pending) o 0)
    (others-changed state name change other (λ e. apart (same_Some name other e)))
  where
    same_Some : (a b : List ℕ) → Some a ≡ Some b → a ≡ b
    same_Some a b e = cc

-- how many turns come before a command where the user, and the pending steps of its session, stay
pub turns-kept : (old new : UserState) (command : Command) → user_of new ≡ user_of old
    → ((name : List ℕ) → waits_for command ≡ Some name → pending_in new name ≡ pending_in old name)
    → turns_before new command ≡ turns_before old command
turns-kept old new command user pending =
    ap (λ n. n + turns (user_of new) command) (by (waits_for command) refl)
    ∙ ap (λ (u : User). steps_before old command + turns u command) user
  where
    by : (o : Option (List ℕ)) → waits_for command ≡ o → steps_before new command ≡ steps_before old command
    by None e = ap (λ o. option_map_or (pending_in new) o 0) e ∙ sym (ap (λ o. option_map_or (pending_in old) o 0) e)
    by (Some name) e =
        ap (λ o. option_map_or (pending_in new) o 0) e ∙ pending name e ∙ sym (ap (λ o. option_map_or (pending_in old) o 0) e)

pub turns-some : (waiting : Option Command) (old new : UserState)
    → ((command : Command) → waiting ≡ Some command → turns_before new command ≡ turns_before old command)
    → IfSome waiting (λ command. 0 < turns_before old command) → IfSome waiting (λ command. 0 < turns_before new command)
turns-some None old new same some = some
turns-some (Some command) old new same some = subst (λ n. 0 < n) (sym (same command refl)) some

-- a session with a whole step has it pending
pub whole-pending : (owner : Owner) (name : List ℕ) → is_whole_in owner.state name ≡ true → IsAtWork owner.waiting owner.state
    → has_pending owner name ≡ true
whole-pending owner name whole work = by_test (nat_lt 0 (pending_in owner.state name)) (λ t. rw t refl) measured
  where
    o : Open owner.waiting owner.state name
    o = opens owner.waiting owner.state name whole work

    measured : nat_lt 0 (pending_in owner.state name) ≡ false → has_pending owner name ≡ true
    measured t = by_test (is_measured owner.waiting name) (λ m. rw (t, m) refl)
        (λ m. absurd (none_some o.kind (sym (kind-none owner.waiting name o.session none m) ∙ o.pending)))
      where
        none_some : (kind : Kind) → None ≡ Some kind → ⊥
        none_some kind e = cc

        none : o.session.pending ≡ 0
        none = sym (pending-held owner.state name o.session o.there)
            ∙ (let z = ltb-false 0 (pending_in owner.state name) t in let n : pending_in owner.state name ≡ 0 = omega (arith, z) in n)

-- what is measured is waited for
measured-waited : (waiting : Option Command) (name : List ℕ) → is_measured waiting name ≡ true → is_waited_for waiting name ≡ true
unfolding waits_for
measured-waited None name t = absurd (true≢false (sym t))
measured-waited (Some command) name t =
    subst (λ (k : Command). is_waited_for (Some k) name ≡ true) (sym (measures command name t)) ((bytes_eq-Decides name name).1 refl)

unwaited-quiet : (waiting : Option Command) (name : List ℕ) → is_waited_for waiting name ≡ false → is_measured waiting name ≡ false
unwaited-quiet waiting name not = by_test (is_measured waiting name)
    (λ t. absurd (true≢false (sym (measured-waited waiting name t) ∙ not)))
    (λ t. t)

-- the whole step of a session that nothing waits for is a pending one
pub unwaited-pending : (waiting : Option Command) (state : UserState) (name : List ℕ) → is_waited_for waiting name ≡ false
    → is_whole_in state name ≡ true → IsAtWork waiting state → 0 < pending_in state name
unwaited-pending waiting state name not whole work = by_test (nat_lt 0 (pending_in state name))
    (ltb-true 0 (pending_in state name))
    (λ t. let z = ltb-false 0 (pending_in state name) t in
    let none : pending_in state name ≡ 0 = omega (arith, z) in
    absurd (true≢false (sym (energies waiting state name whole work none).measured ∙ unwaited-quiet waiting name not)))

pub unwaited-work : (waiting : Option Command) (state : UserState) (name : List ℕ) → is_waited_for waiting name ≡ false
    → IsAtWork waiting state → IsAtWork waiting (with_session_changed name with_step_finished state)
unwaited-work waiting state name not work = at_work-changed waiting state name with_step_finished
    (λ session e. kind-passed waiting name session (unwaited-quiet waiting name not)) work

pub unwaited-apart : (command : Command) (name other : List ℕ) → waits_for command ≡ Some other
    → is_waited_for (Some command) name ≡ false → name ≢ other
unwaited-apart command name other waits not is =
    true≢false (sym (ap (λ o. option_map_or (λ (session : List ℕ). bytes_eq session name) o false) waits
    ∙ (bytes_eq-Decides other name).1 (sym is)) ∙ not)
