-- What is used of a quota where a session is put, new or changed, or taken out.
use Rattle.std.proofs.Common.{◌≡◌, ℕ, ◌+◌, ◌-◌, ◌≤◌, List, length, Some, None, sym, ap, ◌∙◌, arith}
use Rattle.lj_quota.specs.declared.Used.{Used}
use Rattle.lj_branch.specs.Named.{value_named, without_value}
use Rattle.lj_session.specs.Users.{Session, User, with_session, atoms_of, sessions_used, atoms_used, branches_used}
use Rattle.lj_session.specs.UserState.{LiveSession, UserState, settled_session, user_of, used_by, live_session, with_live_session}
use Rattle.lj_session.specs.declared.state.UserState.TheInside.{Inside}
use Rattle.lj_session.specs.Totals.{state_of_kept}
use Rattle.lj_session.proofs.Entries.{length-put, length-new, length-taken, sum-put, sum-new, sum-taken}
use Rattle.lj_session.proofs.Holding.{named-held, named-absent, user_of-put, user_of-taken}
use Rattle.lj_session.proofs.PendingSteps.{count-meant}

-- totals are equal where each part is
pub same_used : (a b : Used) → a.sessions ≡ b.sessions → a.atoms ≡ b.atoms → a.branches ≡ b.branches → a ≡ b
same_used a b s t u = λ j. record { sessions = s j; atoms = t j; branches = u j }

abbrev saved_of : Session → ℕ
saved_of session = length session.saved

-- what a user has used
abbrev pub user_used : User → Used
user_used user = record { sessions = sessions_used user; atoms = atoms_used user; branches = branches_used user }

module _ (old : UserState) (name : List ℕ) (new : LiveSession) where
  put_used : used_by (with_live_session name new old) ≡ user_used (with_session name (settled_session new) (user_of old))
  put_used = ap user_used (user_of-put old name new)

  -- a session changed
  module _ (session : LiveSession) (found : live_session old name ≡ Some session) where
    session_found : value_named name (user_of old).sessions ≡ Some (settled_session session)
    session_found = named-held old name session found

    pub sessions-changed : (used_by (with_live_session name new old)).sessions ≡ (used_by old).sessions
    sessions-changed = ap (λ (u : Used). u.sessions) put_used
        ∙ length-put name (user_of old).sessions (settled_session session) (settled_session new) session_found

    pub atoms-changed : (used_by (with_live_session name new old)).atoms + length session.live.sim.cur
        ≡ (used_by old).atoms + length new.live.sim.cur
    atoms-changed =
        let is = ap (λ (u : Used). u.atoms) put_used in
        let sum = sum-put name atoms_of (user_of old).sessions (settled_session session) (settled_session new) session_found in
        let was = count-meant session in
        let now = count-meant new in
        omega (arith, is, sum, was, now)

    pub branches-changed : (used_by (with_live_session name new old)).branches + length session.saved
        ≡ (used_by old).branches + length new.saved
    branches-changed = ap (λ (u : Used). u.branches + length session.saved) put_used
        ∙ sum-put name saved_of (user_of old).sessions (settled_session session) (settled_session new) session_found

    -- with as many atoms and as many saved simulations as before
    pub used-same : length new.live.sim.cur ≡ length session.live.sim.cur → length new.saved ≡ length session.saved
        → used_by (with_live_session name new old) ≡ used_by old
    used-same atoms saved = same_used (used_by (with_live_session name new old)) (used_by old) sessions-changed
        (let a = atoms-changed in omega (arith, a, atoms)) (let b = branches-changed in omega (arith, b, saved))

    pub sessions-taken : (used_by (record old { sessions = without_value name old.sessions })).sessions + 1
        ≡ (used_by old).sessions
    sessions-taken = ap (λ (u : User). sessions_used u + 1) (user_of-taken old name)
        ∙ length-taken name (user_of old).sessions (settled_session session) session_found

    pub atoms-taken : (used_by (record old { sessions = without_value name old.sessions })).atoms + length session.live.sim.cur
        ≡ (used_by old).atoms
    atoms-taken =
        let is = ap atoms_used (user_of-taken old name) in
        let sum = sum-taken name atoms_of (user_of old).sessions (settled_session session) session_found in
        let was = count-meant session in
        omega (arith, is, sum, was)

    pub branches-taken : (used_by (record old { sessions = without_value name old.sessions })).branches + length session.saved
        ≡ (used_by old).branches
    branches-taken = ap (λ (u : User). branches_used u + length session.saved) (user_of-taken old name)
        ∙ sum-taken name saved_of (user_of old).sessions (settled_session session) session_found

  -- a new session
  module _ (absent : live_session old name ≡ None) where
    none : value_named name (user_of old).sessions ≡ None
    none = named-absent old name absent

    pub sessions-new : (used_by (with_live_session name new old)).sessions ≡ (used_by old).sessions + 1
    sessions-new = ap (λ (u : Used). u.sessions) put_used ∙ length-new name (user_of old).sessions (settled_session new) none

    pub atoms-new : (used_by (with_live_session name new old)).atoms ≡ (used_by old).atoms + length new.live.sim.cur
    atoms-new =
        ap (λ (u : Used). u.atoms) put_used ∙ sum-new name atoms_of (user_of old).sessions (settled_session new) none
        ∙ ap (λ n. (used_by old).atoms + n) (count-meant new)

    pub branches-new : (used_by (with_live_session name new old)).branches ≡ (used_by old).branches + length new.saved
    branches-new =
        ap (λ (u : Used). u.branches) put_used ∙ sum-new name saved_of (user_of old).sessions (settled_session new) none

-- The running totals, where a session is taken out and what is held becomes `next`.
module _ (a : Inside) (old : UserState) (view : state_of_kept a ≡ old) (counted : a.used ≡ used_by (state_of_kept a))
    (name : List ℕ) (session : LiveSession)
    (found : live_session old name ≡ Some session) (next : UserState) where
  used-old : a.used ≡ used_by old
  used-old = counted ∙ ap used_by view

  -- the session is taken out
  module _ (is : next ≡ record old { sessions = without_value name old.sessions }) where
    pub used-less : (sessions atoms branches : ℕ) → sessions ≡ 1 → atoms ≡ length session.live.sim.cur
        → branches ≡ length session.saved
        → record {
          sessions = a.used.sessions - sessions;
          atoms = a.used.atoms - atoms;
          branches = a.used.branches - branches;
        } ≡ used_by next
    used-less sessions atoms branches one its saved =
        let s = sessions-taken old name session session found in
        let t = atoms-taken old name session session found in
        let u = branches-taken old name session session found in
        let before = used-old in
        same_used (record {
          sessions = a.used.sessions - sessions;
          atoms = a.used.atoms - atoms;
          branches = a.used.branches - branches;
        }) (used_by (record old { sessions = without_value name old.sessions }))
        (let b = ap (λ (v : Used). v.sessions) before in omega (arith, b, s, one))
        (let b = ap (λ (v : Used). v.atoms) before in omega (arith, b, t, its))
        (let b = ap (λ (v : Used). v.branches) before in omega (arith, b, u, saved))
        ∙ ap used_by (sym is)

  pub atoms-within : length session.live.sim.cur ≤ a.used.atoms
  atoms-within =
      let t = atoms-taken old name session session found in
      let b = ap (λ (v : Used). v.atoms) used-old in
      omega (arith, b, t)

  pub saved-within : length session.saved ≤ a.used.branches
  saved-within =
      let u = branches-taken old name session session found in
      let b = ap (λ (v : Used). v.branches) used-old in
      omega (arith, b, u)

-- a session is new
pub used-more : (a : Inside) (old : UserState) → state_of_kept a ≡ old → a.used ≡ used_by (state_of_kept a)
    → (name : List ℕ) → live_session old name ≡ None
    → (next : UserState) (new : LiveSession) → next ≡ with_live_session name new old → (atoms : ℕ)
    → atoms ≡ length new.live.sim.cur → length new.saved ≡ 0
    → record { sessions = a.used.sessions + 1; atoms = a.used.atoms + atoms; branches = a.used.branches } ≡ used_by next
used-more a old view counted name absent next new is atoms its none =
    let before : a.used ≡ used_by old = counted ∙ ap used_by view in
    let s = sessions-new old name new absent in
    let t = atoms-new old name new absent in
    let u = branches-new old name new absent in
    same_used (record { sessions = a.used.sessions + 1; atoms = a.used.atoms + atoms; branches = a.used.branches })
    (used_by (with_live_session name new old))
    (let b = ap (λ (v : Used). v.sessions) before in omega (arith, b, s))
    (let b = ap (λ (v : Used). v.atoms) before in omega (arith, b, t, its))
    (let b = ap (λ (v : Used). v.branches) before in omega (arith, b, u, none))
    ∙ ap used_by (sym is)
