-- The last user of some commands, and of one command more.
use Rattle.std.proofs.Common.{◌≡◌, Bool, false, List, [], ◌∷◌, ◌++◌, Result, Ok, Err, refl, sym, ap, subst, ◌∙◌}
use Rattle.std.specs.Prelude.{OnErr}
use Rattle.lj_quota.specs.declared.Quota.{Quota}
use Rattle.lj_session.specs.declared.command.Command.{Command}
use Rattle.lj_session.specs.declared.refusal.Refusal.{Refusal}
use Rattle.lj_session.specs.declared.reply.Reply.{Reply}
use Rattle.lj_session.specs.Users.{User, fresh_user}
use Rattle.lj_session.specs.Answers.{answer, reply_and_user}
use Rattle.lj_session.specs.UserState.{UserState, Reached, Performs, empty_state, user_of, user_after}
use Rattle.lj_session.specs.Totals.{state_of_kept, IsState}
use Rattle.lj_session.specs.declared.state.UserState.TheInside.{Inside}

-- as many marks as commands: a missing one is not set
abbrev full : List Command → List Bool → List Bool
full [] marks = []
full (command ∷ commands) [] = false ∷ full commands []
full (command ∷ commands) (mark ∷ marks) = mark ∷ full commands marks

after-one_more : (user : User) (commands : List Command) (marks : List Bool) (command : Command) (mark : Bool)
    → user_after user (commands ++ command ∷ []) (full commands marks ++ mark ∷ [])
    ≡ (answer (user_after user commands marks) command mark).1
after-one_more user [] marks command mark = refl
after-one_more user (first ∷ commands) [] command mark =
    after-one_more (answer user first false).1 commands [] command mark
after-one_more user (first ∷ commands) (set ∷ marks) command mark =
    after-one_more (answer user first set).1 commands marks command mark

-- no command leads to no sessions
pub reached-empty : (quota : Quota) → Reached (empty_state quota)
reached-empty quota = record { commands = []; marks = []; leads = refl }

-- one command more
pub reached-answer : (old new : UserState) → Reached old → (command : Command) (mark : Bool) → new.quota ≡ old.quota
    → (answer (user_of old) command mark).1 ≡ user_of new → Reached new
reached-answer old new before command mark quota next = record {
  commands = before.commands ++ command ∷ [];
  marks = full before.commands before.marks ++ mark ∷ [];
  leads = sym next
      ∙ ap (λ user. (answer user command mark).1) before.leads
      ∙ sym (after-one_more (fresh_user old.quota) before.commands before.marks command mark)
      ∙ ap (λ quota. user_after (fresh_user quota) (before.commands ++ command ∷ [])
      (full before.commands before.marks ++ mark ∷ [])) (sym quota);
}

-- the same user
pub reached-same : (old new : UserState) → Reached old → user_of new ≡ user_of old → Reached new
reached-same old new before same = record {
  commands = before.commands;
  marks = before.marks;
  leads = same ∙ before.leads ∙ ap (λ (user : User). user_after (fresh_user user.quota) before.commands before.marks)
      (sym same);
}

-- a command that is performed
pub reached-performs : (old new : UserState) → Reached old → (command : Command) (result : Result Reply Refusal)
    → Performs old command result new
    → new.quota ≡ old.quota → OnErr result (new ≡ old) → Reached new
reached-performs old new before command (Ok reply) performs quota stays =
    reached-answer old new before command performs.mark quota (ap (λ r. (reply_and_user (user_of old) r).1) performs.performs)
reached-performs old new before command (Err refusal) performs quota stays =
    reached-same old new before (ap user_of stays)

-- one that is done on the state of a user
pub reached-done : (a : Inside) (old next : UserState) → state_of_kept a ≡ old → IsState a → (command : Command) (reply : Reply)
    → Performs old command (Ok reply) next → next.quota ≡ old.quota → Reached next
reached-done a old next view state command reply performs quota =
    reached-performs old next (subst Reached view state.reached) command (Ok reply) performs quota tt
