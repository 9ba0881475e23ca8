-- Whether the quota has room, by the running totals.
use Rattle.std.proofs.Common.{◌≡◌, ℕ, ◌+◌, ◌<◌, ◌≤◌, true, false, Result, Err, nat_lt, nat_le, ap, ◌∙◌, arith}
use Rattle.std.proofs.lemmas.Bool.{false≢true, lt-ltb, le-ltb, le-leb, lt-leb, ltb-true, leb-true, leb-false}
use Rattle.lj_quota.specs.declared.Quota.{Quota}
use Rattle.lj_quota.specs.declared.Used.{Used}
use Rattle.lj_quota.specs.declared.Over.{Over}
use Rattle.lj_session.specs.declared.state.UserState.TheInside.{Inside}
use Rattle.lj_session.specs.Totals.{state_of_kept}
use Rattle.lj_session.specs.Users.{sessions_used, atoms_used}
use Rattle.lj_session.specs.UserState.{UserState, user_of, used_by}
use Rattle.lj_session.proofs.Entries.{by_test}

-- what is not within a limit is over it
pub over-limit : (total limit : ℕ) → (total ≤ limit → false ≡ true) → limit < total
over-limit total limit h = by_test (nat_le total limit)
    (λ t. absurd (false≢true (h (leb-true total limit t))))
    (λ f. leb-false total limit f)

pub same_over : (a b : Over) → ◌≡◌ {A = Result (Unit {0}) Over} (Err a) (Err b) → a ≡ b
same_over a b e = cc

-- one more than a total is over a limit, or within it, where these are the code's
module _ {total limit m n : ℕ} (same : total ≡ m) (allowed : limit ≡ n) where
  more-over : limit < total + 1 → nat_lt m n ≡ false
  more-over h = le-ltb m n (omega (arith, h, same, allowed))

  more-room : total + 1 ≤ limit → nat_lt m n ≡ true
  more-room h = lt-ltb m n (omega (arith, h, same, allowed))

module _ (a : Inside) (old : UserState) (view : state_of_kept a ≡ old) (counted : a.used ≡ used_by (state_of_kept a)) where
  before : a.used ≡ used_by old
  before = counted ∙ ap used_by view

  -- one more of what the totals and the quota count
  module _ (total : Used → ℕ) (limit : Quota → ℕ) where
    pub one-over : limit a.quota < total a.used + 1 → nat_lt (total (used_by old)) (limit old.quota) ≡ false
    one-over = more-over (ap total before) (ap (λ (o : UserState). limit o.quota) view)

    pub one-room : total a.used + 1 ≤ limit a.quota → nat_lt (total (used_by old)) (limit old.quota) ≡ true
    one-room = more-room (ap total before) (ap (λ (o : UserState). limit o.quota) view)

  pub sessions-within : nat_lt (sessions_used (user_of old)) old.quota.sessions ≡ true
      → a.used.sessions + 1 ≤ a.quota.sessions
  sessions-within room =
      let u = ap (λ (v : Used). v.sessions) before in
      let q = ap (λ (o : UserState). o.quota.sessions) view in
      let h = ltb-true (sessions_used (user_of old)) old.quota.sessions room in
      omega (arith, h, u, q)

  module _ (atoms count : ℕ) (same : atoms ≡ count) where
    pub atoms-over : a.quota.atoms < a.used.atoms + atoms
        → nat_le (atoms_used (user_of old) + count) old.quota.atoms ≡ false
    atoms-over h =
        let u = ap (λ (v : Used). v.atoms) before in
        let q = ap (λ (o : UserState). o.quota.atoms) view in
        lt-leb (atoms_used (user_of old) + count) old.quota.atoms (omega (arith, h, u, q, same))

    pub atoms-room : a.used.atoms + atoms ≤ a.quota.atoms
        → nat_le (atoms_used (user_of old) + count) old.quota.atoms ≡ true
    atoms-room h =
        let u = ap (λ (v : Used). v.atoms) before in
        let q = ap (λ (o : UserState). o.quota.atoms) view in
        le-leb (atoms_used (user_of old) + count) old.quota.atoms (omega (arith, h, u, q, same))
