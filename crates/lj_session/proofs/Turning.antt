-- How many turns ADVANCE and MEASURE take, case by case.
use Rattle.std.proofs.Common.{◌≡◌, ℕ, ◌≤◌, ◌^◌, true, false, pos, ◌+ℤ◌, ◌*ℤ◌, unsigned_abs, List, Option, Some, None}
use Rattle.std.proofs.Common.{refl, arith}
use Rattle.std.proofs.lemmas.Int.{ints}
use Rattle.std.proofs.lemmas.Bool.{le-leb}
use Rattle.lj_session.specs.declared.command.Command.{Command}
use Rattle.lj_session.specs.declared.command.Command.TheVariants.{Load, Advance, Start, Reverse, Branch, Restore, Forget, Tug}
use Rattle.lj_session.specs.declared.command.Command.TheVariants.{Measure, Show, Dump, List as ListSessions}
use Rattle.lj_session.specs.declared.command.Command.TheVariants.{ListBranches, Unload, Bye}
use Rattle.lj_branch.specs.Named.{value_named}
use Rattle.lj_session.specs.Users.{Session, User}
use Rattle.lj_session.specs.Answers.{can_advance}
use Rattle.lj_session.specs.Turns.{turns}

module _ (user : User) (name : List ℕ) where
  pub advance-turns-none : (n : ℕ) → value_named name user.sessions ≡ None → turns user (Advance name n) ≡ 0
  unfolding turns
  advance-turns-none n absent = rw absent refl

  pub advance-turns-far : (n : ℕ) (session : Session) → value_named name user.sessions ≡ Some session
      → can_advance session n ≡ false → turns user (Advance name n) ≡ 0
  unfolding turns
  advance-turns-far n session found far = rw (found, far) refl

  pub advance-turns-near : (n : ℕ) (session : Session) → value_named name user.sessions ≡ Some session
      → can_advance session n ≡ true → turns user (Advance name n) ≡ n
  unfolding turns
  advance-turns-near n session found near = rw (found, near) refl

  pub measure-turns-none : value_named name user.sessions ≡ None → turns user (Measure name) ≡ 0
  unfolding turns
  measure-turns-none absent = rw absent refl

  pub measure-turns-one : (session : Session) → value_named name user.sessions ≡ Some session → turns user (Measure name) ≡ 1
  unfolding turns
  measure-turns-one session found = rw found refl

  -- where MEASURE takes no turn, there is no such session
  pub measure-nothing : turns user (Measure name) ≡ 0 → value_named name user.sessions ≡ None
  measure-nothing none = by (value_named name user.sessions) refl
    where
      by : (o : Option Session) → value_named name user.sessions ≡ o → o ≡ None
      by None e = refl
      by (Some session) e = let one = measure-turns-one session e in absurd (omega (arith, one, none))

-- a session may go on by no step
pub near-nothing : (session : Session) → unsigned_abs session.sim.step ≤ 10 ^ 12 → can_advance session 0 ≡ true
near-nothing session most =
    let same : session.sim.step +ℤ session.sim.dir *ℤ pos 0 ≡ session.sim.step = omega (arith, ints) in
    le-leb (unsigned_abs (session.sim.step +ℤ session.sim.dir *ℤ pos 0)) (10 ^ 12) (rw same most)

-- every other command takes no turn
pub no-turns : (user : User) (command : Command) → ((name : List ℕ) (n : ℕ) → command ≡ Advance name n → ⊥)
    → ((name : List ℕ) → command ≡ Measure name → ⊥) → 0 ≡ turns user command
unfolding turns
no-turns user (Load load) a m = refl
no-turns user (Advance name n) a m = absurd (a name n refl)
no-turns user (Start name n) a m = refl
no-turns user (Reverse name) a m = refl
no-turns user (Branch name branch) a m = refl
no-turns user (Restore name branch) a m = refl
no-turns user (Forget name branch) a m = refl
no-turns user (Tug name atom x y z) a m = refl
no-turns user (Measure name) a m = absurd (m name refl)
no-turns user (Show name atom) a m = refl
no-turns user (Dump name) a m = refl
no-turns user ListSessions a m = refl
no-turns user (ListBranches name) a m = refl
no-turns user (Unload name) a m = refl
no-turns user Bye a m = refl
