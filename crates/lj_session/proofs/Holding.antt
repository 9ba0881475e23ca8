-- What is held, and the user that it is: a session looked up, put and taken out in both.
use Rattle.std.proofs.Common.{◌≡◌, ℕ, List, Option, Some, None, refl, sym, ap, ◌∙◌, arith}
use Rattle.std.proofs.Common.{Bor}
use Rattle.std.specs.Prelude.{is_some}
use Rattle.std.specs.Option.{option_map, option_map_or, option_copied}
use Rattle.std.specs.List.{IsDistinct, slice_get}
use Rattle.std.specs.Str.{bytes_eq}
use Rattle.std.proofs.lemmas.Cmp.{nat_list_eq_equiv}
use Rattle.std.proofs.lemmas.Map.Entries.{lookup_from_place}
use Rattle.std.proofs.lemmas.Option.{none-some, same_Some, slice_get-map}
use Rattle.lj_branch.specs.Named.{value_named, with_value, without_value}
use Rattle.lj_session.specs.declared.command.Command.{Command}
use Rattle.lj_session.specs.Turns.{waits_for}
use Rattle.lj_session.specs.Users.{Session, with_session}
use Rattle.lj_session.specs.UserState.{LiveSession, UserState, as_session, settled_session, user_of, loaded_names, live_session, live_session_at, pending_in, turns_before, with_live_session, with_session_changed}
use Rattle.lj_session.specs.declared.state.UserState.TheInside.{Inside}
use Rattle.lj_session.specs.Totals.{state_of_kept}
use Rattle.lj_session.proofs.Entries.{named-seen, put-seen, taken-seen, put-same}
use Rattle.lj_session.proofs.PendingSteps.{meant-settled}

-- a session that is held is one of the user
pub named-held : (state : UserState) (name : List ℕ) (session : LiveSession) → live_session state name ≡ Some session
    → value_named name (user_of state).sessions ≡ Some (settled_session session)
named-held state name session h = named-seen settled_session name state.sessions ∙ ap (option_map settled_session) h

-- and where it has no pending steps, the one that is held
pub named-settled : (state : UserState) (name : List ℕ) (session : LiveSession) → live_session state name ≡ Some session → session.pending ≡ 0
    → value_named name (user_of state).sessions ≡ Some (as_session session)
named-settled state name session h none =
    named-held state name session h ∙ ap (λ (s : Session). Some s) (meant-settled session none)

-- the pending steps of a session that is held
pub pending-of : (state : UserState) (name : List ℕ) (session : LiveSession) → live_session state name ≡ Some session → pending_in state name ≡ 0
    → session.pending ≡ 0
pending-of state name session h none = rw h at none

pub named-absent : (state : UserState) (name : List ℕ) → live_session state name ≡ None
    → value_named name (user_of state).sessions ≡ None
named-absent state name h = named-seen settled_session name state.sessions ∙ ap (option_map settled_session) h

-- the i-th session stands under the i-th name
pub held-there : (state : UserState) → IsDistinct bytes_eq (loaded_names state) → (i : ℕ) (name : List ℕ) (session : LiveSession)
    → slice_get (loaded_names state) i ≡ Some name → live_session_at state i ≡ Some session → live_session state name ≡ Some session
held-there state distinct i name session named_is held_is = by (slice_get state.sessions i) refl
  where
    by : (o : Option (List ℕ × LiveSession)) → slice_get state.sessions i ≡ o → live_session state name ≡ Some session
    by None e = absurd (none-some session (sym (ap (option_map (λ entry. entry.1)) e) ∙ held_is))
    by (Some (key, value)) e =
        let key_is : key ≡ name = same_Some key name
        (sym (slice_get-map (λ entry. entry.0) state.sessions i ∙ ap (option_map (λ entry. entry.0)) e) ∙ named_is) in
        let value_is : value ≡ session = same_Some value session (sym (ap (option_map (λ entry. entry.1)) e) ∙ held_is) in
        lookup_from_place nat_list_eq_equiv state.sessions i name session distinct
        (e ∙ ap (λ k. Some (k, value)) key_is ∙ ap (λ v. Some (name, v)) value_is)

-- a session put among those that are held is put among those of the user
pub user_of-put : (state : UserState) (name : List ℕ) (session : LiveSession)
    → user_of (with_live_session name session state) ≡ with_session name (settled_session session) (user_of state)
user_of-put state name session =
    ap (λ (s : List (List ℕ × Session)). record { quota = state.quota; sessions = s })
    (sym (put-seen settled_session name state.sessions session))

pub user_of-taken : (state : UserState) (name : List ℕ)
    → user_of (record state { sessions = without_value name state.sessions })
    ≡ record (user_of state) { sessions = without_value name (user_of state).sessions }
user_of-taken state name =
    ap (λ (s : List (List ℕ × Session)). record { quota = state.quota; sessions = s })
    (sym (taken-seen settled_session name state.sessions))

-- a change that leaves the session leaves the user
pub user_of-changed : (state : UserState) (name : List ℕ) (change : LiveSession → LiveSession)
    → ((session : LiveSession) → settled_session (change session) ≡ settled_session session)
    → user_of (with_session_changed name change state) ≡ user_of state
user_of-changed state name change same = by (live_session state name) refl
  where
    by : (o : Option LiveSession) → live_session state name ≡ o → user_of (with_session_changed name change state) ≡ user_of state
    by None e = rw e refl
    by (Some session) e =
        rw e (user_of-put state name (change session)
        ∙ (rw (same session) (ap (λ (s : List (List ℕ × Session)). record { quota = state.quota; sessions = s })
        (put-same name (user_of state).sessions (settled_session session) (named-held state name session e)))))

-- a look-up by reference, and what is there
pub present : (state : UserState) (name : List ℕ) (o : Option (Bor LiveSession)) → option_copied o ≡ live_session state name
    → is_some (value_named name (user_of state).sessions) ≡ is_some o
present state name None h = ap is_some (named-absent state name (sym h))
present state name (Some session) h = ap is_some (named-held state name session.now (sym h))

-- a session taken out of the map
pub taken-of : (a : Inside) (old : UserState) → state_of_kept a ≡ old → (name : List ℕ) (entries : List (List ℕ × LiveSession))
    → entries ≡ without_value name a.sessions.entries
    → record { quota = a.quota; sessions = entries } ≡ record old { sessions = without_value name old.sessions }
taken-of a old view name entries is =
    ap (λ (es : List (List ℕ × LiveSession)). record { quota = a.quota; sessions = es }) is
    ∙ ap (λ (o : UserState). record { quota = o.quota; sessions = without_value name o.sessions }) view

-- a new session in the map
pub inserted : (a : Inside) (old : UserState) → state_of_kept a ≡ old → (name copy : List ℕ) → copy ≡ name
    → (entries : List (List ℕ × LiveSession)) (new made : LiveSession) → new ≡ made
    → entries ≡ with_value copy new a.sessions.entries → record { quota = a.quota; sessions = entries }
    ≡ with_live_session name made old
inserted a old view name copy same entries new made is put_in =
    ap (λ (es : List (List ℕ × LiveSession)). record { quota = a.quota; sessions = es })
    (put_in ∙ ap (λ n. with_value n new a.sessions.entries) same ∙ ap (λ (h : LiveSession). with_value name h a.sessions.entries) is)
    ∙ ap (with_live_session name made) view

-- where there is no such session, nothing is changed
pub changed-none : (state : UserState) (name : List ℕ) (change : LiveSession → LiveSession) → live_session state name ≡ None
    → with_session_changed name change state ≡ state
changed-none state name change absent = rw absent refl

pub changed-some : (state : UserState) (name : List ℕ) (change : LiveSession → LiveSession) (session : LiveSession) → live_session state name ≡ Some session
    → with_session_changed name change state ≡ with_live_session name (change session) state
changed-some state name change session found = rw found refl

-- a session put that is the same session leaves the user
pub user_of-kept : (state : UserState) (name : List ℕ) (session new : LiveSession) → live_session state name ≡ Some session
    → settled_session new ≡ settled_session session → user_of (with_live_session name new state) ≡ user_of state
user_of-kept state name session new found same =
    user_of-put state name new ∙ ap (λ (s : Session). with_session name s (user_of state)) same
    ∙ ap (λ (s : List (List ℕ × Session)). record { quota = state.quota; sessions = s })
    (put-same name (user_of state).sessions (settled_session session) (named-held state name session found))

-- a change of a session leaves the quota
pub changed-quota : (state : UserState) (name : List ℕ) (change : LiveSession → LiveSession) → (with_session_changed name change state).quota ≡ state.quota
changed-quota state name change = by (live_session state name) refl
  where
    by : (o : Option LiveSession) → live_session state name ≡ o → (with_session_changed name change state).quota ≡ state.quota
    by None e = rw e refl
    by (Some session) e = rw e refl

-- the session that a command waits for has no pending steps, where no turn comes before it
pub none-before : (state : UserState) (command : Command) (name : List ℕ) → waits_for command ≡ Some name
    → turns_before state command ≡ 0 → pending_in state name ≡ 0
none-before state command name waits none =
    let is = ap (λ o. option_map_or (pending_in state) o 0) waits in omega (arith, none, is)
