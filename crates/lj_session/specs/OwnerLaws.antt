-- Laws of owners and of answers, each proved on the function of its name.
use Rattle.std.specs.Prelude.{◌≡◌, ℕ, ◌<◌, Bool, false, List, Option, Some, None, IsSome, IfSome, if◌then◌else◌, nat_lt}
use Rattle.lj_task.specs.Task.{Task}
use Rattle.lj_branch.specs.Named.{value_named}
use Rattle.lj_session.specs.declared.command.Command.{Command}
use Rattle.lj_session.specs.declared.command.Command.TheVariants.{Advance}
use Rattle.lj_session.specs.declared.reply.Reply.{Reply}
use Rattle.lj_session.specs.declared.reply.Reply.TheVariants.{Dumped, ListedBranches}
use Rattle.lj_session.specs.Users.{User}
use Rattle.lj_session.specs.Answers.{answer, AnswersAlike}
use Rattle.lj_session.specs.UserState.{UserState, user_of, with_steps_restarted, steps_before, turns_before}
use Rattle.lj_session.specs.Owner.{Owner, user_in, owner_begun, with_task_posted, with_task_in}

-- Restarting each open step does not change the user.
abbrev pub RestartKeepsUser : Type 0
RestartKeepsUser = (state : UserState) → user_of (with_steps_restarted state) ≡ user_of state

-- Noting a task as posted does not change the user.
abbrev pub PostedKeepsUser : Type 0
PostedKeepsUser = (owner : Owner) → user_in (with_task_posted owner) ≡ user_in owner

-- Accepting the result of a tile does not change the user.
abbrev pub AcceptKeepsUser : Type 0
AcceptKeepsUser = (work : Task) (owner : Owner) → user_in (with_task_in work owner) ≡ user_in owner

-- the user, with all pending steps done, once a command begins its own steps: those of an ADVANCE are pending then, and
-- others change nothing
abbrev pub user_taking : User → Command → User
user_taking user (Advance name n) = (answer user (Advance name n) false).1
user_taking user command = user

-- A command that is begun and waits does not change the user, except for the steps of an ADVANCE that it begins; and it
-- will be answered as it would be now.
pub record BeginsAlike (command : Command) (owner : Owner) : Type 0 where
  pub user : user_in (owner_begun command owner)
      ≡ (if nat_lt 0 (steps_before owner.state command) then user_in owner else user_taking (user_in owner) command)
  pub left : IfSome (owner_begun command owner).waiting (λ left.
      AnswersAlike (user_in (owner_begun command owner)) left (user_in owner) command)

-- This holds for every command that has turns to wait for.
abbrev pub BegunWaitsAlike : Type 0
BegunWaitsAlike = (command : Command) (owner : Owner) → 0 < turns_before owner.state command
    → BeginsAlike command owner

-- the session that a reply lists, as those to DUMP and to LIST with a name do
abbrev pub session_listed : Reply → Option (List ℕ)
session_listed (Dumped name) = Some name
session_listed (ListedBranches name) = Some name
session_listed _ = None

-- The session that a reply lists is one of the user after it.
abbrev pub ListedIsThere : Type 0
ListedIsThere = (user : User) (command : Command) (mark : Bool) → let a = answer user command mark in
    IfSome (session_listed a.0) (λ name. IsSome (value_named name a.1.sessions))
