-- What each command comes to, case by case.
use Rattle.std.specs.Prelude.{is_some}
use Rattle.std.proofs.Common.{◌≡◌, ℕ, Bool, true, false, ℤ, List, [], ◌∷◌, Option, Some, None, Result, Ok, Err, nat_lt}
use Rattle.std.proofs.Common.{refl, sym, subst, inr}
use Rattle.lj_step.specs.Motion.{Simulation, place_at, steps, reversal, with_tug, momentum, kinetic, potential}
use Rattle.lj_session.specs.declared.command.Command.{Command}
use Rattle.lj_session.specs.declared.command.Command.TheVariants.{Load, Advance, Start, Reverse, Branch, Restore, Forget, Tug}
use Rattle.lj_session.specs.declared.command.Command.TheVariants.{Measure, Show, Dump, List as ListSessions}
use Rattle.lj_session.specs.declared.command.Command.TheVariants.{ListBranches, Unload, Bye}
use Rattle.lj_session.specs.declared.refusal.Refusal.{Refusal}
use Rattle.lj_session.specs.declared.refusal.Refusal.TheVariants.{NoSession, NoBranch, BranchExists, NoAtom}
use Rattle.lj_session.specs.declared.refusal.Refusal.TheVariants.{QuotaBranches, StepRange, Memory}
use Rattle.lj_session.specs.declared.reply.Reply.{Reply}
use Rattle.lj_session.specs.declared.reply.Reply.TheVariants as reply
use Rattle.lj_branch.specs.Named.{value_named, with_value, without_value}
use Rattle.lj_session.specs.Users.{Session, User, with_session, atoms_of, branches_used}
use Rattle.lj_session.specs.Answers.{session_named, command_result, can_advance, with_sim}
use Rattle.lj_session.specs.UserState.{LiveSession, UserState, OthersKept, StepsFollow, StepsAfter, Performs, outcome, user_of, live_session, settled_session}

-- a command that is done without the mark
pub done : (old new : UserState) (command : Command) (reply : Reply)
    → command_result (user_of old) command false ≡ Ok (reply, user_of new) → OthersKept command old new
    → StepsFollow command old new
    → Performs old command (Ok reply) new
done old new command reply h others steps =
    record { mark = false; performs = h; only_memory = λ marked. cc; others = others; steps = steps }

-- a START that the range does not allow, or another command
abbrev pub IsFar : Command → LiveSession → Type 0
IsFar (Start name n) session = can_advance (settled_session session) n ≡ false
IsFar command session = Unit {0}

abbrev pub IsFarIn : UserState → Command → Type 0
IsFarIn state command =
    (name : List ℕ) (session : LiveSession) → session_named command ≡ Some name → live_session state name ≡ Some session → IsFar command session

-- nothing has changed
same-after : (command : Command) (session : LiveSession) → IsFar command session → StepsAfter command (Some session) session
same-after (Load load) session far = record { live = refl; passed = refl; pending = refl }
same-after (Start name n) session far = rw far refl
same-after (Forget name branch) session far = record { live = refl; passed = refl; pending = refl }
same-after (ListBranches name) session far = record { live = refl; passed = refl; pending = refl }
same-after command session far = inr (record { live = refl; passed = refl; pending = refl })

pub steps-same : (state : UserState) (command : Command) → IsFarIn state command → StepsFollow command state state
steps-same state command far name session is there =
    subst (λ (o : Option LiveSession). StepsAfter command o session) (sym there) (same-after command session (far name session is there))

-- a command that is refused without it
pub refused : (old new : UserState) (command : Command) (refusal : Refusal)
    → command_result (user_of old) command false ≡ Err refusal → Performs old command (Err refusal) new
refused old new command refusal h =
    record { mark = false; performs = h; only_memory = λ marked. cc; others = tt; steps = tt }

-- a command that memory was refused to
pub starved : (old new : UserState) (command : Command) → command_result (user_of old) command true ≡ Err Memory
    → Performs old command (Err Memory) new
starved old new command h =
    record { mark = true; performs = h; only_memory = λ marked. refl; others = tt; steps = tt }

-- a command that only reads
pub read : (state : UserState) (command : Command) (result : Result Reply Refusal)
    → ((mark : Bool) → command_result (user_of state) command mark ≡ outcome result (user_of state))
    → IsFarIn state command → Performs state command result state
read state command (Ok reply) h far = done state state command reply (h false) (λ other apart. refl) (steps-same state command far)
read state command (Err refusal) h far = refused state state command refusal (h false)

-- no session has the name
abbrev pub IsNone : User → Option (List ℕ) → Type 0
IsNone user (Some name) = value_named name user.sessions ≡ None
IsNone user None = ⊥

-- the session of a command is not there; a load makes one
abbrev pub IsAbsent : User → Command → Type 0
IsAbsent user (Load load) = ⊥
IsAbsent user command = IsNone user (session_named command)

-- every command of a session but a load is refused where there is none
pub none : (user : User) (command : Command) (mark : Bool) → IsAbsent user command
    → command_result user command mark ≡ Err NoSession
unfolding command_result
none user (Load load) mark absent = absurd absent
none user (Advance name n) mark absent = rw absent refl
none user (Start name n) mark absent = rw absent refl
none user (Reverse name) mark absent = rw absent refl
none user (Branch name branch) mark absent = rw absent refl
none user (Restore name branch) mark absent = rw absent refl
none user (Forget name branch) mark absent = rw absent refl
none user (Tug name atom x y z) mark absent = rw absent refl
none user (Measure name) mark absent = rw absent refl
none user (Show name atom) mark absent = rw absent refl
none user (Dump name) mark absent = rw absent refl
none user ListSessions mark absent = absurd absent
none user (ListBranches name) mark absent = rw absent refl
none user (Unload name) mark absent = rw absent refl
none user Bye mark absent = absurd absent

module _ (user : User) (name : List ℕ) (mark : Bool) where
  module _ (session : Session) (found : value_named name user.sessions ≡ Some session) where
    pub steps-far : (n : ℕ) → can_advance session n ≡ false
        → (command_result user (Advance name n) mark ≡ Err StepRange) × (command_result user (Start name n) mark ≡ Err StepRange)
    unfolding command_result
    steps-far n far = (rw (found, far) refl, rw (found, far) refl)

    pub steps-done : (n : ℕ) → can_advance session n ≡ true
        → (let sim = steps session.composition n session.sim in
        let next = with_sim name session sim user in
        (command_result user (Advance name n) mark ≡ Ok (reply.Advanced name sim.step, next))
        × (command_result user (Start name n) mark ≡ Ok (reply.Started name sim.step, next)))
    unfolding command_result
    steps-done n near = (rw (found, near) refl, rw (found, near) refl)

    pub reverse-done : command_result user (Reverse name) mark
        ≡ Ok (reply.Reversed name (reversal session.sim).step, with_sim name session (reversal session.sim) user)
    unfolding command_result
    reverse-done = rw found refl

    pub no_branch : (branch : List ℕ) → value_named branch session.saved ≡ None
        → (command_result user (Restore name branch) mark ≡ Err NoBranch) × (command_result user (Forget name branch) mark ≡ Err NoBranch)
    unfolding command_result
    no_branch branch none = (rw (found, none) refl, rw (found, none) refl)

    pub restore-done : (branch : List ℕ) (sim : Simulation) → value_named branch session.saved ≡ Some sim
        → command_result user (Restore name branch) mark
        ≡ Ok (reply.Restored name branch sim.step, with_sim name session sim user)
    unfolding command_result
    restore-done branch sim saved = rw (found, saved) refl

    pub forget-done : (branch : List ℕ) (sim : Simulation) → value_named branch session.saved ≡ Some sim
        → command_result user (Forget name branch) mark
        ≡ Ok (
          reply.Forgotten name branch,
          with_session name
              (record session { saved = without_value branch session.saved }) user,
        )
    unfolding command_result
    forget-done branch sim saved = rw (found, saved) refl

    pub branch-exists : (branch : List ℕ) → is_some (value_named branch session.saved) ≡ true
        → command_result user (Branch name branch) mark ≡ Err BranchExists
    unfolding command_result
    branch-exists branch taken = rw (found, taken) refl

    pub branch-over : (branch : List ℕ) → is_some (value_named branch session.saved) ≡ false
        → nat_lt (branches_used user) user.quota.branches ≡ false
        → command_result user (Branch name branch) mark ≡ Err QuotaBranches
    unfolding command_result
    branch-over branch new over = rw (found, new, over) refl

    pub tug-no_atom : (atom : ℕ) (x y z : ℤ) → nat_lt atom (atoms_of session) ≡ false
        → command_result user (Tug name atom x y z) mark ≡ Err NoAtom
    unfolding command_result
    tug-no_atom atom x y z past = rw (found, past) refl

    pub tug-done : (atom : ℕ) (x y z : ℤ) → nat_lt atom (atoms_of session) ≡ true
        → command_result user (Tug name atom x y z) mark
        ≡ Ok (
          reply.Tugged name atom session.sim.step,
          with_sim name session (with_tug atom (record { x = x; y = y; z = z }) session.sim) user,
        )
    unfolding command_result
    tug-done atom x y z there = rw (found, there) refl

    pub measure-done : command_result user (Measure name) mark
        ≡ Ok (
          reply.Measured name session.sim.step (atoms_of session)
              (let m = momentum session.sim in m.x ∷ m.y ∷ m.z ∷ []) (kinetic session.sim)
              (potential session.composition session.sim.cur),
          user,
        )
    unfolding command_result
    measure-done = rw found refl

    pub show-no_atom : (atom : ℕ) → nat_lt atom (atoms_of session) ≡ false
        → command_result user (Show name atom) mark ≡ Err NoAtom
    unfolding command_result
    show-no_atom atom past = rw (found, past) refl

    pub show-done : (atom : ℕ) → nat_lt atom (atoms_of session) ≡ true
        → command_result user (Show name atom) mark ≡ Ok
        (reply.Shown name session.sim.step atom (place_at session.sim.cur atom), user)
    unfolding command_result
    show-done atom there = rw (found, there) refl

    pub dump-done : command_result user (Dump name) mark ≡ Ok (reply.Dumped name, user)
    unfolding command_result
    dump-done = rw found refl

    pub list_branches-done : command_result user (ListBranches name) mark ≡ Ok (reply.ListedBranches name, user)
    unfolding command_result
    list_branches-done = rw found refl

    pub unload-done : command_result user (Unload name) mark
        ≡ Ok (reply.Unloaded name, record user { sessions = without_value name user.sessions })
    unfolding command_result
    unload-done = rw found refl

-- a BRANCH that is refused for nothing else has memory, or not
module _ (user : User) (name : List ℕ) (session : Session)
    (found : value_named name user.sessions ≡ Some session) (branch : List ℕ)
    (new : is_some (value_named branch session.saved) ≡ false)
    (room : nat_lt (branches_used user) user.quota.branches ≡ true) where
  pub branch-memory : command_result user (Branch name branch) true ≡ Err Memory
  unfolding command_result
  branch-memory = rw (found, new, room) refl

  pub branch-done : command_result user (Branch name branch) false
      ≡ Ok (
        reply.Branched name branch session.sim.step,
        with_session name (record session { saved = with_value branch session.sim session.saved }) user,
      )
  unfolding command_result
  branch-done = rw (found, new, room) refl

-- LIST and BYE are always answered
pub list-done : (user : User) (mark : Bool) → command_result user ListSessions mark ≡ Ok (reply.Listed, user)
unfolding command_result
list-done user mark = refl

pub bye-done : (user : User) (mark : Bool) → command_result user Bye mark ≡ Ok (reply.Bye, user)
unfolding command_result
bye-done user mark = refl
