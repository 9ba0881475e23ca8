-- What beginning a command and turning the step of a session do to an owner.
use Rattle.std.specs.Prelude.{◌≡◌, ◌<◌, ℕ, IfSome, List, None}
use Rattle.lj_session.specs.declared.command.Command.{Command}
use Rattle.lj_session.specs.declared.reply.Reply.{Reply}
use Rattle.lj_session.specs.Answers.{AnswersAlike}
use Rattle.lj_session.specs.Begins.{OnRefusal}
use Rattle.lj_session.specs.Owner.{Owner, IsAnswered, IsReplied, IsSettled, owner_begun, state_turned, turns_left, user_in}
use Rattle.lj_session.specs.UserState.{IsIdleIn, OtherSessionsKept, OthersKept, StepsFollow, turns_before}

-- A command is answered at once: it has no turn to wait for, and no command waits afterwards.
pub record AnswersAtOnce (command : Command) (old new : Owner) (reply : Reply) : Type 0 where
  -- no step has to be turned before it
  pub at_once : turns_before old.state command ≡ 0
  -- the reply is that of the command to the user before it
  pub answered : IsAnswered (user_in old) command reply (user_in new)
  pub idle : new.waiting ≡ None
  -- no step is pending in a session whose frame the reply prints
  pub settled : IsSettled new.state reply
  -- the pending steps of the session that it names follow from the command
  pub steps : StepsFollow command old.state new.state

-- A command waits for turns, and will be answered as it would be now.
pub record WaitsForTurns (command : Command) (old new : Owner) : Type 0 where
  -- steps have to be turned before it
  pub takes_turns : 0 < turns_before old.state command
  -- what is left of it waits, and its own steps are pending
  pub begun : new ≡ owner_begun command old
  -- what waits will be answered as the command would be now
  pub alike : IfSome new.waiting (λ left. AnswersAlike (user_in new) left (user_in old) command)
  -- as many turns are left as it waits for
  pub turns : turns_left new ≡ turns_before old.state command

-- Every session except that of the command is unchanged, and so are the number of the user and the quota.
pub record KeptByCommand (command : Command) (old new : Owner) : Type 0 where
  pub others : OthersKept command old.state new.state
  pub number : new.number ≡ old.number
  pub quota : new.state.quota ≡ old.state.quota

-- The waiting command is answered at a turn of its session, in which no step is pending or open then. If it is refused,
-- the step is made and nothing else.
pub record AnswersAtTurn (name : List ℕ) (old new : Owner) (reply : Reply) : Type 0 where
  pub replied : IsReplied old reply (user_in new)
  pub idle : new.waiting ≡ None
  pub settled : IsSettled new.state reply
  pub rests : IsIdleIn new.state name
  pub refused : OnRefusal reply (new.state ≡ state_turned name old.state)

-- Every session except the one that is turned is unchanged, and so are the number of the user and the quota.
pub record KeptByTurn (name : List ℕ) (old new : Owner) : Type 0 where
  pub others : OtherSessionsKept name old.state new.state
  pub number : new.number ≡ old.number
  pub quota : new.state.quota ≡ old.state.quota
