-- What each command that changes a session comes to, of what is held.
use Rattle.std.proofs.Common.{◌≡◌, ℕ, ◌<◌, ◌≤◌, ◌^◌, Bool, true, false, ℤ, unsigned_abs, List, length, Option, Some, None, Result, Ok}
use Rattle.std.proofs.Common.{nat_lt, refl, sym, ap, ◌∙◌, subst, arith, w64, to_z, of_z, FitsSigned, inl, inr}
use Rattle.std.specs.Prelude.{is_some}
use Rattle.std.specs.Int.{w128}
use Rattle.std.proofs.lemmas.Int.{to_z-of_z, fits_signed_from_abs}
use Rattle.std.proofs.lemmas.Bool.{lt-ltb, le-ltb}
use Rattle.lj_ring.specs.declared.coordinates.Place.{Place}
use Rattle.lj_step.specs.Motion.{Simulation, reversal, with_tug}
use Rattle.lj_session.specs.declared.command.Command.{Command}
use Rattle.lj_session.specs.declared.command.Command.TheVariants.{Advance, Start, Reverse, Branch, Restore, Forget, Tug}
use Rattle.lj_session.specs.declared.command.Command.TheVariants.{Unload}
use Rattle.lj_session.specs.declared.refusal.Refusal.{Refusal}
use Rattle.lj_session.specs.declared.reply.Reply.{Reply}
use Rattle.lj_session.specs.declared.reply.Reply.TheVariants as reply
use Rattle.lj_branch.specs.Named.{value_named, with_value, without_value}
use Rattle.lj_session.specs.Users.{Session, User, with_session, branches_used}
use Rattle.lj_session.specs.Answers.{session_named, command_result, answer, reply_and_user, can_advance, with_sim}
use Rattle.lj_session.specs.UserState.{LiveSession, UserState, Performs, with_simulation, with_saved, as_session, settled_session, user_of, live_session, with_live_session}
use Rattle.lj_session.specs.UserState.{StepsFollow, StepsAfter, with_more_pending}
use Rattle.lj_session.proofs.Entries.{put-same, named-put_any}
use Rattle.lj_session.proofs.Holding.{named-held, named-settled, user_of-put, user_of-taken}
use Rattle.lj_session.proofs.PendingSteps.{meant-settled, meant-added}
use Rattle.lj_session.proofs.Others.{others-put, others-taken}
use Rattle.lj_session.proofs.Performing as performing

module _ (old : UserState) (name : List ℕ) (session : LiveSession) (found : live_session old name ≡ Some session) where
  -- the steps of a session that was put
  steps-put : (command : Command) (new : LiveSession) → session_named command ≡ Some name
      → StepsAfter command (Some session) new → StepsFollow command old (with_live_session name new old)
  steps-put command new is steps other after value_named there =
      let one : name ≡ other = same_name name other (sym is ∙ value_named) in
      let new_is : new ≡ after =
      same_held new after (sym (named-put_any name old.sessions new) ∙ ap (live_session (with_live_session name new old)) one ∙ there) in
      subst (λ (h : LiveSession). StepsAfter command (live_session old other) h) new_is
      (subst (λ (n : List ℕ). StepsAfter command (live_session old n) new) one
      (subst (λ (o : Option LiveSession). StepsAfter command o new) (sym found) steps))
    where
      same_name : (a b : List ℕ) → Some a ≡ Some b → a ≡ b
      same_name a b e = cc

      same_held : (a b : LiveSession) → Some a ≡ Some b → a ≡ b
      same_held a b e = cc

  -- a command that puts its session
  put_in : (command : Command) (made : Reply) (new : LiveSession) → session_named command ≡ Some name
      → command_result (user_of old) command false ≡ Ok (made, with_session name (settled_session new) (user_of old))
      → StepsAfter command (Some session) new
      → Performs old command (Ok made) (with_live_session name new old)
  put_in command made new is h steps = performing.done old _ command made
      (h ∙ ap (λ (u : User). Ok (made, u)) (sym (user_of-put old name new)))
      (λ other apart. others-put old name new other (rw is at apart))
      (steps-put command new is steps)

  pub forget : (branch : List ℕ) (sim : Simulation) → value_named branch session.saved ≡ Some sim
      → Performs old (Forget name branch) (Ok (reply.Forgotten name branch))
      (with_live_session name (with_saved session (without_value branch session.saved)) old)
  forget branch sim saved = put_in _ _ (with_saved session (without_value branch session.saved)) refl
      (performing.forget-done (user_of old) name false (settled_session session) (named-held old name session found) branch sim saved)
      (record { live = refl; passed = refl; pending = refl })

  pub start : (n : ℕ) → can_advance (settled_session session) n ≡ true
      → Performs old (Start name n) (Ok (reply.Started name (settled_session (with_more_pending n session)).sim.step))
      (with_live_session name (with_more_pending n session) old)
  start n near = put_in _ _ (with_more_pending n session) refl
      ((performing.steps-done (user_of old) name false (settled_session session) (named-held old name session found) n near).1
      ∙ ap (λ (s : Session). Ok (reply.Started name s.sim.step, with_session name s (user_of old)))
      (sym (meant-added n session)))
      (rw near refl)

  -- the steps of an ADVANCE, pending in its session
  pub pending-user : (n : ℕ) → can_advance (settled_session session) n ≡ true
      → user_of (with_live_session name (with_more_pending n session) old) ≡ (answer (user_of old) (Advance name n) false).1
  pending-user n near =
      user_of-put old name (with_more_pending n session)
      ∙ ap (λ (s : Session). with_session name s (user_of old)) (meant-added n session)
      ∙ sym (ap (λ r. (reply_and_user (user_of old) r).1)
      (performing.steps-done (user_of old) name false (settled_session session) (named-held old name session found) n near).0)

  -- an ADVANCE by 0 leaves the user
  pub advance-nothing : can_advance (settled_session session) 0 ≡ true → (mark : Bool)
      → command_result (user_of old) (Advance name 0) mark ≡ Ok (reply.Advanced name (settled_session session).sim.step, user_of old)
  advance-nothing near mark =
      let session_found = named-held old name session found in
      (performing.steps-done (user_of old) name mark (settled_session session) session_found 0 near).0
      ∙ ap (λ (s : List (List ℕ × Session)). Ok (
        reply.Advanced name (settled_session session).sim.step,
        record { quota = old.quota; sessions = s },
      ))
      (put-same name (user_of old).sessions (settled_session session) session_found)

  -- commands of a session with no pending steps
  module _ (none : session.pending ≡ 0) where
    session_found : value_named name (user_of old).sessions ≡ Some (as_session session)
    session_found = named-settled old name session found none

    -- with another simulation, and no step open
    move : (command : Command) (made : Reply) (sim : Simulation) → session_named command ≡ Some name
        → command_result (user_of old) command false ≡ Ok (made, with_sim name (as_session session) sim (user_of old))
        → StepsAfter command (Some session) (with_simulation session sim)
        → Performs old command (Ok made) (with_live_session name (with_simulation session sim) old)
    move command made sim is h steps = put_in command made (with_simulation session sim) is
        (h ∙ ap (λ (s : Session). Ok (made, with_session name s (user_of old)))
        (sym (meant-settled (with_simulation session sim) none)))
        steps

    pub reverse : Performs old (Reverse name) (Ok (reply.Reversed name (reversal session.live.sim).step))
        (with_live_session name (with_simulation session (reversal session.live.sim)) old)
    reverse = move _ _ (reversal session.live.sim) refl
        (performing.reverse-done (user_of old) name false (as_session session) session_found)
        (inl (record { pending = none; closed = refl }))

    pub tug : (atom : ℕ) (x y z : ℤ) → nat_lt atom (length session.live.sim.cur) ≡ true
        → Performs old (Tug name atom x y z) (Ok (reply.Tugged name atom session.live.sim.step))
        (with_live_session name (with_simulation session (with_tug atom (record { x = x; y = y; z = z }) session.live.sim)) old)
    tug atom x y z there = move _ _ (with_tug atom (record { x = x; y = y; z = z }) session.live.sim) refl
        (performing.tug-done (user_of old) name false (as_session session) session_found atom x y z there)
        (inl (record { pending = none; closed = refl }))

    pub restore : (branch : List ℕ) (sim : Simulation) → value_named branch session.saved ≡ Some sim
        → Performs old (Restore name branch) (Ok (reply.Restored name branch sim.step))
        (with_live_session name (with_simulation session sim) old)
    restore branch sim saved = move _ _ sim refl
        (performing.restore-done (user_of old) name false (as_session session) session_found branch sim saved)
        (inl (record { pending = none; closed = refl }))

    pub branch : (saved_as : List ℕ) → is_some (value_named saved_as session.saved) ≡ false
        → nat_lt (branches_used (user_of old)) old.quota.branches ≡ true
        → Performs old (Branch name saved_as) (Ok (reply.Branched name saved_as session.live.sim.step))
        (with_live_session name (with_saved session (with_value saved_as session.live.sim session.saved)) old)
    branch saved_as new room =
        let next = with_saved session (with_value saved_as session.live.sim session.saved) in
        put_in _ _ next refl
        (performing.branch-done (user_of old) name (as_session session) session_found saved_as new room
        ∙ ap (λ (s : Session). Ok (reply.Branched name saved_as session.live.sim.step, with_session name s (user_of old)))
        (sym (meant-settled next none)))
        (inr (record { live = refl; passed = refl; pending = refl }))

    pub unload : value_named name (without_value name old.sessions) ≡ None
        → Performs old (Unload name) (Ok (reply.Unloaded name))
        (record old { sessions = without_value name old.sessions })
    unload gone = performing.done old _ _ _
        (performing.unload-done (user_of old) name false (as_session session) session_found
        ∙ ap (λ (u : User). Ok (reply.Unloaded name, u)) (sym (user_of-taken old name)))
        (others-taken old name)
        (λ other after is there. absurd (none_some after (sym gone
        ∙ ap (λ n. value_named n (without_value name old.sessions)) (same_name name other is) ∙ there)))
      where
        none_some : (x : LiveSession) → None ≡ Some x → ⊥
        none_some x e = cc

        same_name : (a b : List ℕ) → Some a ≡ Some b → a ≡ b
        same_name a b e = cc

-- a step number fits its word
pub read-step : (step : ℤ) → unsigned_abs step ≤ 10 ^ 12 → to_z w64 (of_z w64 step) ≡ step
read-step step most = to_z-of_z w64 step (fits_signed_from_abs w64 step (omega (arith, most)))

-- an atom of the session, and one past its last
pub there : (atom count : ℕ) → atom < count → nat_lt atom count ≡ true
there atom count below = lt-ltb atom count below

pub past : (atom count : ℕ) → count ≤ atom → nat_lt atom count ≡ false
past atom count above = le-ltb atom count above

-- what is held, read as the code has it
pub written-to : (old new new' : UserState) (command : Command) (result : Result Reply Refusal)
    → Performs old command result new → new' ≡ new → Performs old command result new'
written-to old new new' command result performs next = rw next performs

-- a potential fits its word
pub read-potential : (potential : ℤ) → FitsSigned w128 potential → to_z w128 (of_z w128 potential) ≡ potential
read-potential potential fits = to_z-of_z w128 potential fits

-- replies, read as the code has them
pub shown : (user : User) (name : List ℕ) (atom : ℕ) (step step' : ℤ) (place place' : Place)
    → step' ≡ step → place' ≡ place
    → ◌≡◌ {A = Result (Reply × User) Refusal} (Ok (reply.Shown name step atom place, user))
    (Ok (reply.Shown name step' atom place', user))
shown user name atom step step' place place' s p = rw (s, p) refl

pub measured : (user : User) (name : List ℕ) (step step' : ℤ) (atoms atoms' : ℕ) (momentum momentum' : List ℤ)
    (kinetic kinetic' : ℕ) (potential potential' : ℤ)
    → step' ≡ step → atoms' ≡ atoms → momentum' ≡ momentum → kinetic' ≡ kinetic → potential' ≡ potential
    → ◌≡◌ {A = Result (Reply × User) Refusal} (Ok (reply.Measured name step atoms momentum kinetic potential, user))
    (Ok (reply.Measured name step' atoms' momentum' kinetic' potential', user))
measured user name step step' atoms atoms' momentum momentum' kinetic kinetic' potential potential' s a m k p =
    rw (s, a, m, k, p) refl
