-- A session whose steps are pending or passed: the step number that it is going to stays in range.
use Rattle.std.proofs.Common.{◌≡◌, ℕ, suc, ◌+◌, ◌-◌, ◌*◌, ◌^◌, ◌<◌, ◌≤◌, true, ℤ, pos, negsuc, ◌+ℤ◌, ◌*ℤ◌, length, sym, ◌∙◌, ap, subst, arith, w64, to_z, of_z}
use Rattle.std.specs.Prelude.{nat_le, unsigned_abs}
use Rattle.std.specs.List.{AllByRecursion}
use Rattle.std.proofs.lemmas.Bool.{and_parts, leb-true}
use Rattle.std.proofs.lemmas.Int.{ints, to_z-of_z, to_z_pos, fits_signed_from_abs}
use Rattle.lj_step.specs.Motion.{Simulation, next_simulation}
use Rattle.lj_step.specs.Sim.{Sim}
use Rattle.lj_session.specs.declared.live_session.LiveSession.TheInside.{Inside}
use Rattle.lj_session.specs.Answers.{can_advance}
use Rattle.lj_session.specs.KeptSessions.{IsHeld, session_of_kept}
use Rattle.lj_session.specs.UserState.{HasCount, settled_session}
use Rattle.lj_session.proofs.Counts.{count-stepped}
use Rattle.lj_session.proofs.PendingSteps.{target_is, dir-steps}

-- between two step numbers in range lie no more than 2 * 10^12 steps
few_between : (step dir : ℤ) (n : ℕ) → unsigned_abs dir ≡ 1 → unsigned_abs step ≤ 10 ^ 12
    → unsigned_abs (step +ℤ dir *ℤ pos n) ≤ 10 ^ 12 → n ≤ 2 * 10 ^ 12
few_between step (pos d) n one here there =
    let far = rw one at there in omega (arith, ints, here, far)
few_between step (negsuc d) n one here there =
    let none : d ≡ 0 = omega (arith, one) in
    let far = rw none at there in omega (arith, ints, here, far)

-- what is pending and more is in range together
together : (step dir : ℤ) (m n : ℕ) → step +ℤ dir *ℤ pos m +ℤ dir *ℤ pos n ≡ step +ℤ dir *ℤ pos (m + n)
together step dir m n = omega (arith, ints)

pub pending_more : (a : Inside) → IsHeld a → (n : ℕ) → unsigned_abs a.sim.sim.step ≤ 10 ^ 12 → unsigned_abs a.sim.sim.dir ≡ 1
    → can_advance (settled_session (session_of_kept a)) n ≡ true → IsHeld (record a { pending = a.pending + n })
pending_more a kept n here one near =
    let sim = a.sim.sim in
    let meant = (settled_session (session_of_kept a)).sim in
    let p = and_parts (nat_le n 1000000) (nat_le (unsigned_abs (meant.step +ℤ meant.dir *ℤ pos n)) (10 ^ 12)) near in
    let far = leb-true (unsigned_abs (meant.step +ℤ meant.dir *ℤ pos n)) (10 ^ 12) p.1 in
    let is : meant.step +ℤ meant.dir *ℤ pos n ≡ sim.step +ℤ sim.dir *ℤ pos (a.pending + n) =
    ap (λ s. s +ℤ meant.dir *ℤ pos n) (target_is (session_of_kept a))
    ∙ ap (λ d. sim.step +ℤ sim.dir *ℤ pos a.pending +ℤ d *ℤ pos n) (dir-steps a.sim.composition a.pending sim)
    ∙ together sim.step sim.dir a.pending n in
    let then : unsigned_abs (sim.step +ℤ sim.dir *ℤ pos (a.pending + n)) ≤ 10 ^ 12 = subst (λ z. unsigned_abs z ≤ 10 ^ 12) is far in
    record {
      symbols = kept.symbols;
      saved = kept.saved;
      near = then;
      few = few_between sim.step sim.dir (a.pending + n) one here then;
    }

-- a step passed
onward : (step dir : ℤ) (n : ℕ) → 0 < n → step +ℤ dir +ℤ dir *ℤ pos (n - 1) ≡ step +ℤ dir *ℤ pos n
onward step dir n some =
    let more : n ≡ suc (n - 1) = omega (arith, some) in
    let next : step +ℤ dir +ℤ dir *ℤ pos (n - 1) ≡ step +ℤ dir *ℤ pos (suc (n - 1)) = omega (arith, ints) in
    next ∙ ap (λ m. step +ℤ dir *ℤ pos m) (sym more)

pub passed_on : (a : Inside) → IsHeld a → 0 < a.pending → (live : Sim) (passed : ℕ)
    → live.sim ≡ next_simulation a.sim.composition a.sim.sim
    → IsHeld (record { symbols = a.symbols; sim = live; passed = passed; branches = a.branches; pending = a.pending - 1 })
passed_on a kept some live passed is =
    let sim = a.sim.sim in
    let count : length live.sim.cur ≡ length sim.cur = ap (λ (s : Simulation). length s.cur) is ∙ count-stepped a.sim.composition sim in
    let goes = onward sim.step sim.dir a.pending some in
    let most = kept.few in
    record {
      symbols = kept.symbols ∙ sym count;
      saved = subst (λ m. AllByRecursion (HasCount m) a.branches) (sym count) kept.saved;
      near = subst (λ (s : Simulation). unsigned_abs (s.step +ℤ s.dir *ℤ pos (a.pending - 1)) ≤ 10 ^ 12) (sym is)
          (subst (λ z. unsigned_abs z ≤ 10 ^ 12) (sym goes) kept.near);
      few = omega (arith, most);
    }

-- nothing pending
pub none_pending_near : (step dir : ℤ) (n : ℕ) → n ≡ 0 → unsigned_abs step ≤ 10 ^ 12
    → unsigned_abs (step +ℤ dir *ℤ pos n) ≤ 10 ^ 12
none_pending_near step dir n none here =
    let same : step +ℤ dir *ℤ pos 0 ≡ step = omega (arith, ints) in rw (none, same) here

-- the sum as the code has it
steps_small : (dir : ℤ) (n : ℕ) → unsigned_abs dir ≡ 1 → n ≤ 1000000 → unsigned_abs (dir *ℤ pos n) ≤ 1000000
steps_small (pos d) n one few = rw one (omega (arith, ints, few))
steps_small (negsuc d) n one few = let none : d ≡ 0 = omega (arith, one) in rw none (omega (arith, ints, few))

read : (z : ℤ) → unsigned_abs z ≤ 2 * 10 ^ 12 → to_z w64 (of_z w64 z) ≡ z
read z most = to_z-of_z w64 z (fits_signed_from_abs w64 z (omega (arith, most)))

pub read_target : (step dir : ℤ) (n : ℕ) → unsigned_abs step ≤ 10 ^ 12 → unsigned_abs dir ≡ 1 → n ≤ 1000000
    → to_z w64 (of_z w64 (to_z w64 (of_z w64 step) +ℤ to_z w64 (of_z w64 (to_z w64 (of_z w64 dir) *ℤ to_z w64 n))))
    ≡ step +ℤ dir *ℤ pos n
read_target step dir n here one few =
    let small = steps_small dir n one few in
    let number : to_z w64 n ≡ pos n = to_z_pos w64 n (omega (arith, few)) in
    let sum : unsigned_abs (step +ℤ dir *ℤ pos n) ≤ 2 * 10 ^ 12 = omega (arith, ints, here, small) in
    rw (read step (omega (arith, here)), read dir (omega (arith, one)), number, read (dir *ℤ pos n) (omega (arith, small))) (read (step +ℤ dir *ℤ pos n) sum)
