-- The answer to a command: a reply, and the user after it. A refusal leaves the user as it was.
use Rattle.std.specs.Prelude.{◌≡◌, ℕ, Bool, ◌&&◌, not, nat_le, nat_lt, is_some, pos, ◌+ℤ◌, ◌*ℤ◌, unsigned_abs, List, []}
use Rattle.std.specs.Prelude.{◌∷◌, Option, Some, None, Result, Ok, Err}
use Rattle.lj_step.specs.Motion.{Simulation, place_at, steps, reversal, with_tug, momentum, kinetic, potential}
use Rattle.lj_xyz.specs.Atoms.{◌>>=◌}
use Rattle.lj_session.specs.declared.command.Command.{Command}
use Rattle.lj_session.specs.declared.command.Command.TheVariants.{Load, Advance, Start, Reverse, Branch, Restore, Forget, Tug}
use Rattle.lj_session.specs.declared.command.Command.TheVariants.{Measure, Show, Dump, List as ListSessions}
use Rattle.lj_session.specs.declared.command.Command.TheVariants.{ListBranches, Unload, Bye}
use Rattle.lj_session.specs.declared.refusal.Refusal.{Refusal}
use Rattle.lj_session.specs.declared.refusal.Refusal.TheVariants.{NoSession, NoBranch, BranchExists, NoAtom}
use Rattle.lj_session.specs.declared.refusal.Refusal.TheVariants.{QuotaBranches, StepRange, Memory}
use Rattle.lj_session.specs.declared.reply.Reply.{Reply}
use Rattle.lj_session.specs.declared.reply.Reply.TheVariants as reply
use Rattle.lj_session.specs.declared.live_session.TheConstants.{MAX_STEPS}
use Rattle.lj_step.specs.declared.simulations.TheConstants.{MAX_STEP}
use Rattle.lj_branch.specs.Named.{value_named, with_value, without_value}
use Rattle.lj_session.specs.Users.{Session, User, with_session, atoms_of, branches_used}
use Rattle.lj_session.specs.Loads.{refusal_unless, admission, body_or_refusal, session_read}
use Rattle.lj_session.specs.Interactions.{load_reply}

-- the value under a name, or a refusal
abbrev pub value_or_refusal : {A : Type 0} → Option A → Refusal → Result A Refusal
value_or_refusal (Some value) refusal = Ok value
value_or_refusal None refusal = Err refusal

-- the session of a name, or a refusal
abbrev pub session_of : User → List ℕ → Result Session Refusal
session_of user name = value_or_refusal (value_named name user.sessions) NoSession

-- the simulation saved in a session under a name, or a refusal
abbrev pub simulation_saved : Session → List ℕ → Result Simulation Refusal
simulation_saved session branch = value_or_refusal (value_named branch session.saved) NoBranch

-- a refusal unless the session has the atom; they count from 0
abbrev pub atom_or_refusal : Session → ℕ → Result (Unit {0}) Refusal
atom_or_refusal session atom = refusal_unless (nat_lt atom (atoms_of session)) NoAtom

-- the user with this simulation in a session
abbrev pub with_sim : List ℕ → Session → Simulation → User → User
with_sim name session sim user = with_session name (record session { sim = sim }) user

-- a session may advance by at most a million steps, and to step numbers of size at most 10^12
abbrev pub can_advance : Session → ℕ → Bool
can_advance session n =
    nat_le n MAX_STEPS && nat_le (unsigned_abs (session.sim.step +ℤ session.sim.dir *ℤ pos n)) MAX_STEP

-- the session that a command names; LIST and BYE name none
abbrev pub session_named : Command → Option (List ℕ)
session_named (Load load) = Some load.name
session_named (Advance name n) = Some name
session_named (Start name n) = Some name
session_named (Reverse name) = Some name
session_named (Branch name branch) = Some name
session_named (Restore name branch) = Some name
session_named (Forget name branch) = Some name
session_named (Tug name atom x y z) = Some name
session_named (Measure name) = Some name
session_named (Show name atom) = Some name
session_named (Dump name) = Some name
session_named ListSessions = None
session_named (ListBranches name) = Some name
session_named (Unload name) = Some name
session_named Bye = None

-- the result of a command: its reply and the next user, or its first refusal
unfoldable pub command_result : User → Command → Bool → Result (Reply × User) Refusal
command_result user (Load load) mark = do
  mix ← admission user load
  bytes ← body_or_refusal load.body mark
  session ← session_read user mix load bytes
  Ok (load_reply load.interactions load.name (atoms_of session), with_session load.name session user)
command_result user (Advance name n) mark = do
  session ← session_of user name
  near ← refusal_unless (can_advance session n) StepRange
  let sim = steps session.composition n session.sim in Ok (reply.Advanced name sim.step, with_sim name session sim user)
command_result user (Start name n) mark = do
  session ← session_of user name
  near ← refusal_unless (can_advance session n) StepRange
  let sim = steps session.composition n session.sim in Ok (reply.Started name sim.step, with_sim name session sim user)
command_result user (Reverse name) mark = do
  session ← session_of user name
  let sim = reversal session.sim in Ok (reply.Reversed name sim.step, with_sim name session sim user)
command_result user (Branch name branch) mark = do
  session ← session_of user name
  new ← refusal_unless (not (is_some (value_named branch session.saved))) BranchExists
  room ← refusal_unless (nat_lt (branches_used user) user.quota.branches) QuotaBranches
  held ← refusal_unless (not mark) Memory
  let next = record session { saved = with_value branch session.sim session.saved } in
      Ok (reply.Branched name branch session.sim.step, with_session name next user)
command_result user (Restore name branch) mark = do
  session ← session_of user name
  sim ← simulation_saved session branch
  Ok (reply.Restored name branch sim.step, with_sim name session sim user)
command_result user (Forget name branch) mark = do
  session ← session_of user name
  sim ← simulation_saved session branch
  Ok (reply.Forgotten name branch, with_session name (record session { saved = without_value branch session.saved }) user)
command_result user (Tug name atom x y z) mark = do
  session ← session_of user name
  there ← atom_or_refusal session atom
  let sim = with_tug atom (record { x = x; y = y; z = z }) session.sim in
      Ok (reply.Tugged name atom sim.step, with_sim name session sim user)
command_result user (Measure name) mark = do
  session ← session_of user name
  let sim = session.sim in
      let m = momentum sim in
      let energy = potential session.composition sim.cur in
      Ok (reply.Measured name sim.step (atoms_of session) (m.x ∷ m.y ∷ m.z ∷ []) (kinetic sim) energy, user)
command_result user (Show name atom) mark = do
  session ← session_of user name
  there ← atom_or_refusal session atom
  Ok (reply.Shown name session.sim.step atom (place_at session.sim.cur atom), user)
command_result user (Dump name) mark = do
  session ← session_of user name
  Ok (reply.Dumped name, user)
command_result user ListSessions mark = Ok (reply.Listed, user)
command_result user (ListBranches name) mark = do
  session ← session_of user name
  Ok (reply.ListedBranches name, user)
command_result user (Unload name) mark = do
  session ← session_of user name
  Ok (reply.Unloaded name, record user { sessions = without_value name user.sessions })
command_result user Bye mark = Ok (reply.Bye, user)

-- a refusal becomes the reply, and leaves the user
abbrev pub reply_and_user : User → Result (Reply × User) Refusal → Reply × User
reply_and_user user (Ok answer) = answer
reply_and_user user (Err refusal) = (reply.Refused refusal, user)

-- The answer to a command. The mark says that memory was refused to it; it matters only to LOAD, LOADMIX and BRANCH.
abbrev pub answer : User → Command → Bool → Reply × User
answer user command mark = reply_and_user user (command_result user command mark)

-- The rest of a command is answered as the whole command is.
abbrev pub AnswersAlike : User → Command → User → Command → Type 0
AnswersAlike next left user command = (mark : Bool) → answer next left mark ≡ answer user command mark
