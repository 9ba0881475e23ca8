-- The first tile that is awaited, looked for from a place of the cover on.
use Rattle.std.proofs.Common.{◌≡◌, ℕ, suc, ◌+◌, ◌-◌, ◌<◌, Bool, true, false, cond, Option, Some, None, refl, sym}
use Rattle.std.proofs.Common.{ap, ◌∙◌, arith, List, [], ◌∷◌, slice_get}
use Rattle.std.proofs.lemmas.Bool.{false≢true}
use Rattle.std.specs.Prelude.{is_some}
use Rattle.std.specs.Option.{option_and_then}
use Rattle.std.specs.List.{find, range_with_len}
use Rattle.lj_base.specs.declared.names.Label.{Label}
use Rattle.lj_step.specs.Sim.{Sim, OpenStep}
use Rattle.lj_step.specs.OpenSteps.{is_tile_awaited, cover, task_at, tiles_of}
use Rattle.lj_session.specs.UserState.{LiveSession, next_of, next_tile, with_passed_to, with_posted}

pub find-step : (test : ℕ → Bool) (i n : ℕ) → i < n
    → find test (range_with_len i (n - i)) ≡ cond (test i) (Some i) (find test (range_with_len (i + 1) (n - (i + 1))))
find-step test i n below = let e : n - i ≡ suc (n - (i + 1)) = omega arith in rw e refl

-- a tile that is not awaited is passed over
pub find-on : (test : ℕ → Bool) (i n : ℕ) (o : Option ℕ) → i < n → test i ≡ false
    → find test (range_with_len i (n - i)) ≡ o
    → find test (range_with_len (i + 1) (n - (i + 1))) ≡ o
find-on test i n o below fails found =
    sym (find-step test i n below ∙ ap (λ b. cond b (Some i) (find test (range_with_len (i + 1) (n - (i + 1))))) fails)
    ∙ found

-- one that is awaited is found
pub find-here : (test : ℕ → Bool) (i n : ℕ) (o : Option ℕ) → i < n → test i ≡ true
    → find test (range_with_len i (n - i)) ≡ o → Some i ≡ o
find-here test i n o below passes found =
    sym (find-step test i n below ∙ ap (λ b. cond b (Some i) (find test (range_with_len (i + 1) (n - (i + 1))))) passes)
    ∙ found

-- noting a tile as posted leaves all that does not depend on how many are, as the simulation
pub posted-same : {A : Type 0} (read : LiveSession → A) → ((n : ℕ) (session : LiveSession) → read (record session { passed = n }) ≡ read session)
    → (session : LiveSession) → read (with_posted session) ≡ read session
posted-same read same session = by (next_tile session)
  where
    by : (o : Option ℕ) → read (with_passed_to o session) ≡ read session
    by None = refl
    by (Some i) = same (i + 1) session

pub posted-live : (session : LiveSession) → (with_posted session).live ≡ session.live
posted-live = posted-same (λ session. session.live) (λ n session. refl)

-- what is found passes the test
pub find-passes : {A : Type 0} (test : A → Bool) (xs : List A) (x : A) → find test xs ≡ Some x → test x ≡ true
find-passes test [] x e = absurd (none x e)
  where
    none : {A : Type 0} (y : A) → None ≡ Some y → ⊥
    none y k = cc
find-passes test (first ∷ xs) x e = by (test first) refl (find-passes test xs x)
  where
    same : {A : Type 0} (y z : A) → Some y ≡ Some z → y ≡ z
    same y z k = cc

    by : (b : Bool) → test first ≡ b → (find test xs ≡ Some x → test x ≡ true) → test x ≡ true
    by true t later = ap test (sym (same first x (rw t at e))) ∙ t
    by false t later = later (rw t at e)

-- a tile that is awaited has its task
awaited-task : (live : Sim) (label : Label) (i : ℕ) → is_tile_awaited live i ≡ true → is_some (task_at live label i) ≡ true
awaited-task live label i h = by live.part refl
  where
    with_part : (p : OpenStep) → live.part ≡ Some p → (o : Option ℕ) → slice_get (cover live.composition live.sim.cur) i ≡ o
        → is_some (task_at live label i) ≡ true
    with_part p is None e = absurd (false≢true (let k = rw (is, e) at h in k))
    with_part p is (Some k) e = rw (is, e) refl

    by : (part : Option OpenStep) → live.part ≡ part → is_some (task_at live label i) ≡ true
    by None e = absurd (false≢true (let k = rw e at h in k))
    by (Some p) e = with_part p e (slice_get (cover live.composition live.sim.cur) i) refl

-- so there is a next task exactly where a tile is found
pub found-task : (session : LiveSession) (label : Label) → is_some (next_of label (Some session)) ≡ is_some (next_tile session)
found-task session label = by (next_tile session) refl
  where
    by : (o : Option ℕ) → next_tile session ≡ o → is_some (next_of label (Some session)) ≡ is_some o
    by None e = rw e refl
    by (Some i) e =
        ap (λ o. is_some (option_and_then (task_at session.live label) o)) e
        ∙ awaited-task session.live label i (find-passes (is_tile_awaited session.live) (range_with_len session.passed (tiles_of session.live - session.passed)) i e)
