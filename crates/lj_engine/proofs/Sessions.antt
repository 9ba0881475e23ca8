-- Sessions under their names: one changed, sums over them, and that their names stay distinct.
use Rattle.std.proofs.Common.{◌≡◌, ℕ, ◌+◌, ◌≤◌, Bool, true, false, List, [], ◌∷◌, map, Option, Some, None}
use Rattle.std.proofs.Common.{Result, Ok, Err, refl, sym, ap, ◌∙◌, subst, arith}
use Rattle.std.specs.Prelude.{IfOk, not, nat_lt, is_some}
use Rattle.std.specs.List.{IsDistinct, AllByRecursion, find, sum_by, list_any}
use Rattle.std.specs.Option.{option_map_or}
use Rattle.std.specs.Str.{bytes_eq}
use Rattle.std.proofs.lemmas.Bool.{true≢false}
use Rattle.std.proofs.lemmas.Cmp.{nat_list_eq_equiv}
use Rattle.std.proofs.lemmas.List.{map-append}
use Rattle.std.proofs.lemmas.List.Sums.{sum_by-cons}
use Rattle.std.proofs.lemmas.Map.Keys.{IsDistinct-push, IsDistinct-head, IsDistinct-tail, IsDistinct-cons}
use Rattle.std.proofs.lemmas.Option.{none-some, same_Some}
use Rattle.std.proofs.lemmas.Slice.Eq.{bytes_eq-Decides}
use Rattle.lj_xyz.specs.Atoms.{◌>>=◌}
use Rattle.lj_branch.specs.Named.{value_named, with_value, without_value}
use Rattle.lj_session.specs.declared.command.Command.{Command}
use Rattle.lj_session.specs.declared.command.Command.TheVariants.{Load, Advance, Start, Reverse, Branch, Restore, Forget, Tug}
use Rattle.lj_session.specs.declared.command.Command.TheVariants.{Measure, Show, Dump, List as ListSessions}
use Rattle.lj_session.specs.declared.command.Command.TheVariants.{ListBranches, Unload, Bye}
use Rattle.lj_session.specs.declared.refusal.Refusal.{Refusal}
use Rattle.lj_session.specs.declared.reply.Reply.{Reply}
use Rattle.lj_session.specs.Users.{Session, User, branches_used}
use Rattle.lj_session.specs.declared.refusal.Refusal.TheVariants.{BranchExists, QuotaBranches, StepRange, Memory}
use Rattle.lj_session.specs.Loads.{admission, body_or_refusal, session_read, refusal_unless}
use Rattle.lj_session.specs.Answers.{session_of, simulation_saved, atom_or_refusal, can_advance, command_result, reply_and_user, answer}
use Rattle.lj_session.specs.UserState.{LiveSession, UserState, as_entry, user_of, live_session, pending_in, loaded_names, with_session_changed}
use Rattle.lj_session.proofs.Entries.{by_test, named-put_any, named-taken_other, put-new, sum-put, sum-taken}
use Rattle.lj_session.proofs.Holding.{changed-some, changed-none}
use Rattle.lj_session.proofs.Others.{others-changed}
use Rattle.lj_engine.specs.Counting.{sum_over}

-- a name is itself
pub same_name : (name : List ℕ) → bytes_eq name name ≡ true
same_name name = (bytes_eq-Decides name name).1 refl

module _ (state : UserState) (name : List ℕ) (change : LiveSession → LiveSession) where
  pub there-changed : (session : LiveSession) → live_session state name ≡ Some session → live_session (with_session_changed name change state) name ≡ Some (change session)
  there-changed session e =
      ap (λ (o : UserState). live_session o name) (changed-some state name change session e) ∙ named-put_any name state.sessions (change session)

  pub other-changed : (other : List ℕ) → (name ≡ other → ⊥) → live_session (with_session_changed name change state) other ≡ live_session state other
  other-changed other apart = others-changed state name change other (λ same. apart (same_Some name other same))

  -- the pending steps before and after are related, where each change relates them
  pending-related : (R : ℕ → ℕ → Type 0) → ((n : ℕ) → R n n) → ((session : LiveSession) → R (change session).pending session.pending) → (other : List ℕ)
      → R (pending_in (with_session_changed name change state) other) (pending_in state other)
  pending-related R same each other = by_test (bytes_eq name other)
      (λ t. subst (λ n. R (pending_in (with_session_changed name change state) n) (pending_in state n)) ((bytes_eq-Decides name other).0 t) here)
      (λ t. subst (λ n. R n (pending_in state other))
      (sym (ap pending_of (other-changed other (λ is. true≢false (sym ((bytes_eq-Decides name other).1 is) ∙ t)))))
      (same (pending_in state other)))
    where
      pending_of : Option LiveSession → ℕ
      pending_of o = option_map_or (λ (h : LiveSession). h.pending) o 0

      here : R (pending_in (with_session_changed name change state) name) (pending_in state name)
      here = by (live_session state name) refl
        where
          by : (o : Option LiveSession) → live_session state name ≡ o → R (pending_in (with_session_changed name change state) name) (pending_in state name)
          by None e = subst (λ (o : UserState). R (pending_in o name) (pending_in state name)) (sym (changed-none state name change e))
              (same (pending_in state name))
          by (Some session) e =
              subst (λ n. R n (pending_in state name)) (sym (ap pending_of (there-changed session e)))
              (subst (R (change session).pending) (sym (ap pending_of e)) (each session))

  -- the number of pending steps stays, where the change leaves it, and falls, where the change lowers it
  pub pending-changed : ((session : LiveSession) → (change session).pending ≡ session.pending) → (other : List ℕ)
      → pending_in (with_session_changed name change state) other ≡ pending_in state other
  pending-changed = pending-related (λ n m. n ≡ m) (λ n. refl)

  pub pending-lowered : ((session : LiveSession) → (change session).pending ≤ session.pending) → (other : List ℕ)
      → pending_in (with_session_changed name change state) other ≤ pending_in state other
  pending-lowered = pending-related (λ n m. n ≤ m) (λ n. omega arith)

  pub sum-changed : (f : LiveSession → ℕ) (session : LiveSession) → live_session state name ≡ Some session
      → sum_over f (with_session_changed name change state) + f session ≡ sum_over f state + f (change session)
  sum-changed f session e =
      ap (λ (o : UserState). sum_over f o + f session) (changed-some state name change session e)
      ∙ sum-put name f state.sessions session (change session) e

-- what is found under no name does not pass a test, where none of the names does
pub find-none-named : (test : List ℕ → Bool) (es : List (List ℕ × LiveSession)) (name : List ℕ) (v : LiveSession)
    → find test (map (λ (e : List ℕ × LiveSession). e.0) es) ≡ None → value_named name es ≡ Some v → test name ≡ false
find-none-named test [] name v none h = absurd (none-some v h)
find-none-named test (e ∷ es) name v none h = by_test (test e.0)
    (λ t. absurd (none-some e.0 (sym (rw t at none))))
    (λ t. by_test (bytes_eq name e.0)
    (λ u. ap test ((bytes_eq-Decides name e.0).0 u) ∙ t)
    (λ u. find-none-named test es name v (rw t at none) (rw u at h)))

-- a name that is none of these names nothing
absent-named : (name : List ℕ) (es : List (List ℕ × LiveSession))
    → AllByRecursion (λ y. bytes_eq name y ≡ false) (map (λ (e : List ℕ × LiveSession). e.0) es) → value_named name es ≡ None
absent-named name [] all = refl
absent-named name (e ∷ es) all = rw all.0 (absent-named name es all.1)

-- A sum over sessions of distinct names is at most another, where each of their numbers is at most that of the session of its
-- name there.
pub sum-below : (f : LiveSession → ℕ) (a b : List (List ℕ × LiveSession)) → IsDistinct bytes_eq (map (λ (e : List ℕ × LiveSession). e.0) a)
    → ((name : List ℕ) (session : LiveSession) → value_named name a ≡ Some session → f session ≤ option_map_or f (value_named name b) 0)
    → sum_by (λ (e : List ℕ × LiveSession). f e.1) a ≤ sum_by (λ (e : List ℕ × LiveSession). f e.1) b
sum-below f [] b distinct below = omega arith
sum-below f (e ∷ es) b distinct below = by (value_named e.0 b) refl (sum-below f es)
  where
    none : value_named e.0 es ≡ None
    none = absent-named e.0 es (IsDistinct-head bytes_eq e.0 (map (λ (e : List ℕ × LiveSession). e.0) es) distinct)

    others : IsDistinct bytes_eq (map (λ (e : List ℕ × LiveSession). e.0) es)
    others = IsDistinct-tail bytes_eq e.0 (map (λ (e : List ℕ × LiveSession). e.0) es) distinct

    head : f e.1 ≤ option_map_or f (value_named e.0 b) 0
    head = below e.0 e.1 (let same = same_name e.0 in rw same refl)

    apart : (name : List ℕ) (session : LiveSession) → value_named name es ≡ Some session → e.0 ≡ name → ⊥
    apart name session h same = none-some session (sym none ∙ ap (λ n. value_named n es) same ∙ h)

    later : (name : List ℕ) (session : LiveSession) → value_named name es ≡ Some session → value_named name (e ∷ es) ≡ Some session
    later name session h = by_test (bytes_eq name e.0)
        (λ t. absurd (apart name session h (sym ((bytes_eq-Decides name e.0).0 t))))
        (λ t. rw t h)

    sum : sum_by (λ (e : List ℕ × LiveSession). f e.1) (e ∷ es) ≡ f e.1 + sum_by (λ (e : List ℕ × LiveSession). f e.1) es
    sum = sum_by-cons (λ (e : List ℕ × LiveSession). f e.1) e es

    Rest : Type 0
    Rest = (b : List (List ℕ × LiveSession)) → IsDistinct bytes_eq (map (λ (e : List ℕ × LiveSession). e.0) es)
        → ((name : List ℕ) (session : LiveSession) → value_named name es ≡ Some session → f session ≤ option_map_or f (value_named name b) 0)
        → sum_by (λ (e : List ℕ × LiveSession). f e.1) es ≤ sum_by (λ (e : List ℕ × LiveSession). f e.1) b

    by : (o : Option LiveSession) → value_named e.0 b ≡ o → Rest
        → sum_by (λ (e : List ℕ × LiveSession). f e.1) (e ∷ es) ≤ sum_by (λ (e : List ℕ × LiveSession). f e.1) b
    by None is rest-below =
        let first : f e.1 ≤ 0 = subst (λ o. f e.1 ≤ option_map_or f o 0) is head in
        let rest = rest-below b others (λ name session h. below name session (later name session h)) in
        omega (arith, sum, first, rest)
    by (Some session) is rest-below =
        let first : f e.1 ≤ f session = subst (λ o. f e.1 ≤ option_map_or f o 0) is head in
        let rest = rest-below (without_value e.0 b) others (λ name h there.
        subst (λ o. f h ≤ option_map_or f o 0) (sym (named-taken_other e.0 name (apart name h there) b))
        (below name h (later name h there))) in
        let out = sum-taken e.0 f b session is in
        omega (arith, sum, first, rest, out)

-- the names of a user's sessions
abbrev names_of : User → List (List ℕ)
names_of user = map (λ (e : List ℕ × Session). e.0) user.sessions

names-meant : (es : List (List ℕ × LiveSession))
    → map (λ (e : List ℕ × Session). e.0) (map as_entry es) ≡ map (λ (e : List ℕ × LiveSession). e.0) es
names-meant [] = refl
names-meant (e ∷ es) = ap (λ ns. e.0 ∷ ns) (names-meant es)

module _ (name : List ℕ) where
  session_names : (es : List (List ℕ × Session)) → List (List ℕ)
  session_names es = map (λ (e : List ℕ × Session). e.0) es

  names_put : (es : List (List ℕ × Session)) (v w : Session) → value_named name es ≡ Some v
      → map (λ (e : List ℕ × Session). e.0) (with_value name w es) ≡ map (λ (e : List ℕ × Session). e.0) es
  names_put [] v w h = absurd (none-some v h)
  names_put (e ∷ es) v w h = by_test (bytes_eq name e.0)
      (λ t. rw t refl)
      (λ t. rw t (ap (λ ns. e.0 ∷ ns) (names_put es v w (rw t at h))))

  none_any : (es : List (List ℕ × Session)) → value_named name es ≡ None
      → list_any (bytes_eq name) (map (λ (e : List ℕ × Session). e.0) es) ≡ false
  none_any [] h = refl
  none_any (e ∷ es) h = by_test (bytes_eq name e.0)
      (λ t. absurd (none-some e.1 (sym (rw t at h))))
      (λ t. rw t (none_any es (rw t at h)))

  distinct-put : (es : List (List ℕ × Session)) (v : Session) → IsDistinct bytes_eq (map (λ (e : List ℕ × Session). e.0) es)
      → IsDistinct bytes_eq (map (λ (e : List ℕ × Session). e.0) (with_value name v es))
  distinct-put es v distinct = by (value_named name es) refl
    where
      by : (o : Option Session) → value_named name es ≡ o → IsDistinct bytes_eq (map (λ (e : List ℕ × Session). e.0) (with_value name v es))
      by None h =
          subst (λ (l : List (List ℕ × Session)). IsDistinct bytes_eq (map (λ (e : List ℕ × Session). e.0) l)) (sym (put-new name es v h))
          (subst (IsDistinct bytes_eq) (sym (map-append (λ (e : List ℕ × Session). e.0) es ((name, v) ∷ [])))
          (IsDistinct-push nat_list_eq_equiv (map (λ (e : List ℕ × Session). e.0) es) name distinct (none_any es h)))
      by (Some w) h = subst (IsDistinct bytes_eq) (sym (names_put es w v h)) distinct

  all-taken : (P : List ℕ → Type 0) (es : List (List ℕ × Session)) → AllByRecursion P (map (λ (e : List ℕ × Session). e.0) es)
      → AllByRecursion P (map (λ (e : List ℕ × Session). e.0) (without_value name es))
  all-taken P [] all = tt
  all-taken P (e ∷ es) all = by_test (bytes_eq name e.0) (λ t. rw t all.1) (λ t. rw t (all.0, all-taken P es all.1))

  distinct-taken : (es : List (List ℕ × Session)) → IsDistinct bytes_eq (map (λ (e : List ℕ × Session). e.0) es)
      → IsDistinct bytes_eq (map (λ (e : List ℕ × Session). e.0) (without_value name es))
  distinct-taken [] distinct = distinct
  distinct-taken (e ∷ es) distinct =
      let rest = IsDistinct-tail bytes_eq e.0 (map (λ (e : List ℕ × Session). e.0) es) distinct in
      by_test (bytes_eq name e.0)
      (λ t. rw t rest)
      (λ t. rw t (IsDistinct-cons bytes_eq e.0 (map (λ (e : List ℕ × Session). e.0) (without_value name es))
      (all-taken (λ y. bytes_eq e.0 y ≡ false) es (IsDistinct-head bytes_eq e.0 (map (λ (e : List ℕ × Session). e.0) es) distinct))
      (distinct-taken es rest)))

-- what a command does keeps the names distinct
record Keeps (result : Result (Reply × User) Refusal) : Type 0 where
  distinct : IfOk result (λ answer. IsDistinct bytes_eq (names_of answer.1))

keeps-then : {A : Type 0} (r : Result A Refusal) (f : A → Result (Reply × User) Refusal) → ((x : A) → Keeps (f x)) → Keeps (r >>= f)
keeps-then (Ok x) f keeps = keeps x
keeps-then (Err refusal) f keeps = record { distinct = tt }

keeps-settled : (user : User) (r : Result (Reply × User) Refusal) → IsDistinct bytes_eq (names_of user) → Keeps r
    → IsDistinct bytes_eq (names_of (reply_and_user user r).1)
keeps-settled user (Ok answer) distinct keeps = keeps.distinct
keeps-settled user (Err refusal) distinct keeps = distinct

performed_keeps : (user : User) (command : Command) (mark : Bool) → IsDistinct bytes_eq (names_of user)
    → Keeps (command_result user command mark)
unfolding command_result
performed_keeps user (Load load) mark d = keeps-then (admission user load) _ (λ mix.
    keeps-then (body_or_refusal load.body mark) _ (λ bytes. keeps-then (session_read user mix load bytes) _ (λ session.
    record { distinct = distinct-put load.name user.sessions session d })))
performed_keeps user (Advance name n) mark d = keeps-then (session_of user name) _ (λ session.
    keeps-then (refusal_unless (can_advance session n) StepRange) _ (λ near. record { distinct = distinct-put name user.sessions _ d }))
performed_keeps user (Start name n) mark d = keeps-then (session_of user name) _ (λ session.
    keeps-then (refusal_unless (can_advance session n) StepRange) _ (λ near. record { distinct = distinct-put name user.sessions _ d }))
performed_keeps user (Reverse name) mark d = keeps-then (session_of user name) _ (λ session. record { distinct = distinct-put name user.sessions _ d })
performed_keeps user (Branch name branch) mark d = keeps-then (session_of user name) _ (λ session.
    keeps-then (refusal_unless (not (is_some (value_named branch session.saved))) BranchExists) _ (λ new.
    keeps-then (refusal_unless (nat_lt (branches_used user) user.quota.branches) QuotaBranches) _ (λ room.
    keeps-then (refusal_unless (not mark) Memory) _ (λ held. record { distinct = distinct-put name user.sessions _ d }))))
performed_keeps user (Restore name branch) mark d = keeps-then (session_of user name) _ (λ session.
    keeps-then (simulation_saved session branch) _ (λ sim. record { distinct = distinct-put name user.sessions _ d }))
performed_keeps user (Forget name branch) mark d = keeps-then (session_of user name) _ (λ session.
    keeps-then (simulation_saved session branch) _ (λ sim. record { distinct = distinct-put name user.sessions _ d }))
performed_keeps user (Tug name atom x y z) mark d = keeps-then (session_of user name) _ (λ session.
    keeps-then (atom_or_refusal session atom) _ (λ there. record { distinct = distinct-put name user.sessions _ d }))
performed_keeps user (Measure name) mark d = keeps-then (session_of user name) _ (λ session. record { distinct = d })
performed_keeps user (Show name atom) mark d = keeps-then (session_of user name) _ (λ session.
    keeps-then (atom_or_refusal session atom) _ (λ there. record { distinct = d }))
performed_keeps user (Dump name) mark d = keeps-then (session_of user name) _ (λ session. record { distinct = d })
performed_keeps user ListSessions mark d = record { distinct = d }
performed_keeps user (ListBranches name) mark d = keeps-then (session_of user name) _ (λ session. record { distinct = d })
performed_keeps user (Unload name) mark d = keeps-then (session_of user name) _ (λ session.
    record { distinct = distinct-taken name user.sessions d })
performed_keeps user Bye mark d = record { distinct = d }

-- so an answer does
pub distinct-answered : (old new : UserState) (command : Command) (mark : Bool) (reply : Reply)
    → (reply, user_of new) ≡ answer (user_of old) command mark
    → IsDistinct bytes_eq (loaded_names old) → IsDistinct bytes_eq (loaded_names new)
distinct-answered old new command mark reply is distinct =
    let user = user_of old in
    let before = subst (IsDistinct bytes_eq) (sym (names-meant old.sessions)) distinct in
    let after = keeps-settled user (command_result user command mark) before (performed_keeps user command mark before) in
    subst (IsDistinct bytes_eq) (ap (λ a. names_of a.1) (sym is) ∙ names-meant new.sessions) after
