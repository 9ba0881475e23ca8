-- Steps begun anew one after the other, in order of loading.
use Rattle.std.proofs.Common.{◌≡◌, ℕ, zero, suc, List, [], ◌∷◌, length, map, slice_get, Some, refl, sym, ap, arith}
use Rattle.indexmap.specs.IndexMap.{set_value_at}
use Rattle.lj_session.specs.UserState.{LiveSession, UserState, with_step_restarted, with_steps_restarted, used_by}
use Rattle.lj_session.proofs.Totals.{user_used}
use Rattle.lj_session.proofs.Waiting.{rested_user}

-- the first so many entries at rest
abbrev pub rested_to : ℕ → List (List ℕ × LiveSession) → List (List ℕ × LiveSession)
rested_to zero es = es
rested_to (suc i) [] = []
rested_to (suc i) (e ∷ es) = (e.0, with_step_restarted e.1) ∷ rested_to i es

pub length-rested_to : (i : ℕ) (es : List (List ℕ × LiveSession)) → length (rested_to i es) ≡ length es
length-rested_to zero es = refl
length-rested_to (suc i) [] = refl
length-rested_to (suc i) (e ∷ es) = ap suc (length-rested_to i es)

-- the value at the next place is still as it was
pub rested_at : (i : ℕ) (es : List (List ℕ × LiveSession))
    → slice_get (map (λ e. e.1) (rested_to i es)) i ≡ slice_get (map (λ e. e.1) es) i
rested_at zero es = refl
rested_at (suc i) [] = refl
rested_at (suc i) (e ∷ es) = rested_at i es

-- and put at rest it is one more
pub rested_next : (i : ℕ) (es : List (List ℕ × LiveSession)) (session : LiveSession) → slice_get (map (λ e. e.1) es) i ≡ Some session
    → set_value_at (rested_to i es) i (with_step_restarted session) ≡ rested_to (suc i) es
rested_next zero [] session there = refl
rested_next zero (e ∷ es) session there =
    ap (λ h. (e.0, with_step_restarted h) ∷ es) (sym (same e.1 session there))
  where
    same : (a b : LiveSession) → Some a ≡ Some b → a ≡ b
    same a b k = cc
rested_next (suc i) [] session there = refl
rested_next (suc i) (e ∷ es) session there = ap (λ l. (e.0, with_step_restarted e.1) ∷ l) (rested_next i es session there)

pub rested_all : (i : ℕ) (es : List (List ℕ × LiveSession)) → i ≡ length es
    → rested_to i es ≡ map (λ e. (e.0, with_step_restarted e.1)) es
rested_all zero [] n = refl
rested_all zero (e ∷ es) n = absurd (omega (arith, n))
rested_all (suc i) [] n = refl
rested_all (suc i) (e ∷ es) n = ap (λ l. (e.0, with_step_restarted e.1) ∷ l) (rested_all i es (omega (arith, n)))

-- what is used of the quota stays
pub rested_used : (state : UserState) → used_by (with_steps_restarted state) ≡ used_by state
rested_used state = ap user_used (rested_user state)

pub rested_names : (es : List (List ℕ × LiveSession))
    → map (λ (e : List ℕ × LiveSession). e.0) (map (λ (e : List ℕ × LiveSession). (e.0, with_step_restarted e.1)) es)
    ≡ map (λ (e : List ℕ × LiveSession). e.0) es
rested_names [] = refl
rested_names (e ∷ es) = ap (λ (l : List (List ℕ)). e.0 ∷ l) (rested_names es)
