-- Pending steps: their number, the count of atoms, and the session that is meant.
use Rattle.std.proofs.Common.{◌≡◌, ℕ, zero, suc, ◌+◌, ◌-◌, ◌<◌, ◌&&◌, nat_le, nat_lt, pos, ◌+ℤ◌, ◌*ℤ◌, length, refl, sym, ◌∙◌, ap, arith}
use Rattle.std.proofs.lemmas.Int.{ints}
use Rattle.lj_task.specs.Species.{Composition}
use Rattle.lj_step.specs.Motion.{Simulation, next_simulation, steps}
use Rattle.lj_session.specs.Users.{atoms_of}
use Rattle.lj_session.specs.UserState.{LiveSession, as_session, settled_session, with_more_pending, with_step_finished, with_step_taken, with_step_restarted, with_posted}
use Rattle.lj_session.proofs.Entries.{by_test}
use Rattle.lj_session.proofs.Counts.{count-stepped}
use Rattle.lj_session.proofs.Tiles.{posted-same}

pub count-steps : (u : Composition) (n : ℕ) (sim : Simulation) → length (steps u n sim).cur ≡ length sim.cur
count-steps u zero sim = refl
count-steps u (suc n) sim = count-steps u n (next_simulation u sim) ∙ count-stepped u sim

pub dir-steps : (u : Composition) (n : ℕ) (sim : Simulation) → (steps u n sim).dir ≡ sim.dir
dir-steps u zero sim = refl
dir-steps u (suc n) sim = dir-steps u n (next_simulation u sim)

pub step-steps : (u : Composition) (n : ℕ) (sim : Simulation) → (steps u n sim).step ≡ sim.step +ℤ sim.dir *ℤ pos n
step-steps u zero sim = omega (arith, ints)
step-steps u (suc n) sim =
    let next = step-steps u n (next_simulation u sim) in
    let same : sim.step +ℤ sim.dir +ℤ sim.dir *ℤ pos n ≡ sim.step +ℤ sim.dir *ℤ pos (suc n) = omega (arith, ints) in
    next ∙ same

-- the step number that a session is going to
pub target_is : (session : LiveSession) → (settled_session session).sim.step ≡ session.live.sim.step +ℤ session.live.sim.dir *ℤ pos session.pending
target_is session = step-steps session.live.composition session.pending session.live.sim

-- and its direction
pub dir_is : (session : LiveSession) → (settled_session session).sim.dir ≡ session.live.sim.dir
dir_is session = dir-steps session.live.composition session.pending session.live.sim

pub steps-add : (u : Composition) (m n : ℕ) (sim : Simulation) → steps u (m + n) sim ≡ steps u n (steps u m sim)
steps-add u zero n sim = ap (λ m. steps u m sim) (let same : 0 + n ≡ n = omega arith in same)
steps-add u (suc m) n sim =
    ap (λ k. steps u k sim) (let same : suc m + n ≡ suc (m + n) = omega arith in same) ∙ steps-add u m n (next_simulation u sim)

-- where no step is pending, the session that is meant is the one that is held
pub meant-settled : (session : LiveSession) → session.pending ≡ 0 → settled_session session ≡ as_session session
meant-settled session none = rw none refl

pub count-meant : (session : LiveSession) → atoms_of (settled_session session) ≡ length session.live.sim.cur
count-meant session = count-steps session.live.composition session.pending session.live.sim

-- more pending steps are more steps done in the end
pub meant-added : (n : ℕ) (session : LiveSession) → settled_session (with_more_pending n session)
    ≡ record (settled_session session) { sim = steps session.live.composition n (settled_session session).sim }
meant-added n session =
    let added = ap (λ (sim : Simulation). record (settled_session session) { sim = sim })
    (steps-add session.live.composition session.pending n session.live.sim) in
    by_test (nat_lt 0 n && nat_le session.pending 0) (λ t. rw t added) (λ t. rw t added)

-- a step that was pending is done
pub meant-turned : (session : LiveSession) → 0 < session.pending → settled_session (with_step_taken session) ≡ settled_session session
meant-turned session some = by session.pending refl
  where
    by : (n : ℕ) → session.pending ≡ n → settled_session (with_step_taken session) ≡ settled_session session
    by zero e = absurd (omega (arith, some, e))
    by (suc n) e =
        let less : session.pending - 1 ≡ n = omega (arith, e) in
        ap (λ m. record (settled_session (with_step_taken session)) { sim = steps session.live.composition m (next_simulation session.live.composition session.live.sim) }) less
        ∙ sym (ap (λ m. record (settled_session session) { sim = steps session.live.composition m session.live.sim }) e)

pub meant-passed : (session : LiveSession) → 0 < session.pending → settled_session (with_step_finished session) ≡ settled_session session
meant-passed session some =
    by_test (nat_lt 0 (with_step_taken session).pending) (λ t. rw t (meant-turned session some)) (λ t. rw t (meant-turned session some))

-- a step begun anew leaves what is meant
pub meant-rest : (session : LiveSession) → settled_session (with_step_restarted session) ≡ settled_session session
meant-rest session = by_test (nat_lt 0 session.pending) (λ t. rw t refl) (λ t. rw t refl)

-- noting a tile as posted leaves it
pub meant-posted : (session : LiveSession) → settled_session (with_posted session) ≡ settled_session session
meant-posted = posted-same settled_session (λ n session. refl)

-- more pending steps leave the count of atoms, and what is saved
pub count-added : (n : ℕ) (session : LiveSession) → length (with_more_pending n session).live.sim.cur ≡ length session.live.sim.cur
count-added n session = by_test (nat_lt 0 n && nat_le session.pending 0) (λ t. rw t refl) (λ t. rw t refl)

pub saved-added : (n : ℕ) (session : LiveSession) → length (with_more_pending n session).saved ≡ length session.saved
saved-added n session = by_test (nat_lt 0 n && nat_le session.pending 0) (λ t. rw t refl) (λ t. rw t refl)

pub pending-added : (n : ℕ) (session : LiveSession) → (with_more_pending n session).pending ≡ session.pending + n
pending-added n session = by_test (nat_lt 0 n && nat_le session.pending 0) (λ t. rw t refl) (λ t. rw t refl)
