-- An ADVANCE whose steps are pending: it is answered in the end as it would have been.
use Rattle.std.proofs.Common.{◌≡◌, ℕ, ◌≤◌, ◌^◌, Bool, true, List, Some, Ok, pos, ◌+ℤ◌, ◌*ℤ◌, sym, ◌∙◌, ap}
use Rattle.std.specs.Prelude.{nat_le, unsigned_abs}
use Rattle.std.proofs.lemmas.Bool.{and_parts, leb-true}
use Rattle.lj_step.specs.Motion.{steps}
use Rattle.lj_session.specs.declared.command.Command.{Command}
use Rattle.lj_session.specs.declared.command.Command.TheVariants.{Advance}
use Rattle.lj_session.specs.declared.reply.Reply.{Reply}
use Rattle.lj_session.specs.declared.reply.Reply.TheVariants as reply
use Rattle.lj_branch.specs.Named.{value_named}
use Rattle.lj_session.specs.Users.{Session, User}
use Rattle.lj_session.specs.Answers.{command_result, answer, reply_and_user, can_advance, with_sim}
use Rattle.lj_session.proofs.Entries.{named-put, put-put}
use Rattle.lj_session.proofs.PendingSteps.{step-steps}
use Rattle.lj_session.proofs.Performing.{steps-done}
use Rattle.lj_session.proofs.Turning.{near-nothing}

-- what is answered where no refusal is
pub answered : (user : User) (command : Command) (mark : Bool) (reply : Reply) (next : User)
    → command_result user command mark ≡ Ok (reply, next) → (reply, next) ≡ answer user command mark
answered user command mark reply next h = sym (ap (reply_and_user user) h)

module _ (user : User) (name : List ℕ) (session : Session) (found : value_named name user.sessions ≡ Some session)
    (n : ℕ) (near : can_advance session n ≡ true) where
  -- the session with the steps done
  abbrev pub after : Session
  after = record session { sim = steps session.composition n session.sim }

  -- what the ADVANCE is answered
  pub advanced : (mark : Bool) → answer user (Advance name n) mark
      ≡ (reply.Advanced name after.sim.step, with_sim name session after.sim user)
  advanced mark = ap (reply_and_user user) (steps-done user name mark session found n near).0

  -- the step number after the steps is in range
  pub in_range : unsigned_abs (steps session.composition n session.sim).step ≤ 10 ^ 12
  in_range =
      let sim = session.sim in
      let p = and_parts (nat_le n 1000000) (nat_le (unsigned_abs (sim.step +ℤ sim.dir *ℤ pos n)) (10 ^ 12)) near in
      let most = leb-true (unsigned_abs (sim.step +ℤ sim.dir *ℤ pos n)) (10 ^ 12) p.1 in
      rw (step-steps session.composition n sim) most

  -- with the steps counted, an ADVANCE by 0 is answered as the whole
  pub alike : (mark : Bool) → answer (with_sim name session after.sim user) (Advance name 0) mark
      ≡ answer user (Advance name n) mark
  alike mark =
      let then : value_named name (with_sim name session after.sim user).sessions ≡ Some after =
      named-put name user.sessions session after found in
      let still = near-nothing after in_range in
      let again = put-put name user.sessions session after after found in
      ap (reply_and_user (with_sim name session after.sim user))
      (steps-done (with_sim name session after.sim user) name mark after then 0 still).0
      ∙ ap (λ (entries : List (List ℕ × Session)). (reply.Advanced name after.sim.step, record user { sessions = entries })) again
      ∙ sym (advanced mark)
