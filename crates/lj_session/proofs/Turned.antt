-- The turn of the session that a command waits for: an energy step, which answers a MEASURE, or a pending step, after
-- which the command is begun again.
use Rattle.std.proofs.Common.{◌≡◌, ℕ, ◌+◌, ◌<◌, true, List, Option, Some, None, Ok, sym, ap, ◌∙◌, subst, arith}
use Rattle.std.specs.Prelude.{IfSome}
use Rattle.std.specs.Option.{option_map_or}
use Rattle.lj_task.specs.declared.task_name.Kind.TheVariants.{Force, Energy}
use Rattle.lj_session.specs.declared.command.Command.{Command}
use Rattle.lj_session.specs.declared.command.Command.TheVariants.{Measure}
use Rattle.lj_session.specs.declared.reply.Reply.{Reply}
use Rattle.lj_session.specs.Users.{User}
use Rattle.lj_session.specs.Turns.{waits_for}
use Rattle.lj_session.specs.UserState.{LiveSession, UserState, IsAtWork, IsIdleIn, HasWholeStep, OthersKept, OtherSessionsKept, Reads, StepsFollow, user_of, live_session, pending_in, with_session_changed, with_step_finished, with_no_step, is_whole_in, turns_before}
use Rattle.lj_session.specs.Owner.{Owner, IsAnswered, IsLastTurn, IsReplied, is_waited_for, user_in}
use Rattle.lj_session.proofs.Passing.{Energies, energies, forces, measures, measured_last, measured_answered, at_work-closed, at_work-passed, others-passed, rests-followed}
use Rattle.lj_session.proofs.Waiting.{passed_turns, same_name}

module _ (old : Owner) (name : List ℕ) (command : Command) (waiting : Some command ≡ old.waiting)
    (waited : is_waited_for old.waiting name ≡ true) (work : IsAtWork old.waiting old.state)
    (whole : is_whole_in old.state name ≡ true) where
  waits : waits_for command ≡ Some name
  waits = same_name command name (subst (λ (w : Option Command). is_waited_for w name ≡ true) (sym waiting) waited)

  at_work : IsAtWork (Some command) old.state
  at_work = subst (λ (w : Option Command). IsAtWork w old.state) (sym waiting) work

  -- the turn is the last one where one turn is left
  last_where : turns_before old.state command ≡ 1 → IsLastTurn name old
  last_where one = record {
    waited = waited;
    last = sym (ap (λ w. option_map_or (turns_before old.state) w 0) waiting) ∙ one;
  }

  pub replied_where : (reply : Reply) (next : User) → IsAnswered (user_in old) command reply next → IsReplied old reply next
  replied_where reply next answered =
      subst (λ (w : Option Command). IfSome w (λ k. IsAnswered (user_in old) k reply next)) waiting answered

  -- an energy step
  module _ (none : pending_in old.state name ≡ 0) where
    measured : Energies (Some command) old.state name
    measured = energies (Some command) old.state name whole at_work none

    pub measured-whole : (session : LiveSession) → live_session old.state name ≡ Some session → HasWholeStep Energy session
    measured-whole session there =
        subst (λ (h : LiveSession). HasWholeStep Energy h) (same measured.session session (sym measured.there ∙ there)) measured.whole
      where
        same : (a b : LiveSession) → Some a ≡ Some b → a ≡ b
        same a b k = cc

    pub measured-last : IsLastTurn name old
    measured-last = last_where (measured_last command old.state name measured)

    pub measured-replied : (next : UserState) (copy : List ℕ) (reply : Reply) → copy ≡ name
        → Reads old.state (Measure copy) (Ok reply) → user_of next ≡ user_of old.state → IsReplied old reply (user_of next)
    measured-replied next copy reply same reads user =
        replied_where reply (user_of next) (measured_answered command old.state next copy reply
        (measures command name measured.measured ∙ ap Measure (sym same)) reads user)

    pub measured-work : IsAtWork None (with_session_changed name with_no_step old.state)
    measured-work = at_work-closed command old.state name waits measured at_work

  -- a step that was pending
  module _ (some : 0 < pending_in old.state name) where
    pub passed-whole : (session : LiveSession) → live_session old.state name ≡ Some session → HasWholeStep Force session
    passed-whole = forces (Some command) old.state name whole at_work some

    module _ (passed : UserState) (is : passed ≡ with_session_changed name with_step_finished old.state) where
      pub passed-work : IsAtWork None passed
      passed-work = subst (λ (o : UserState). IsAtWork None o) (sym is) (at_work-passed command old.state name waits some at_work)

      fewer : turns_before passed command + 1 ≡ turns_before old.state command
      fewer = ap (λ (o : UserState). turns_before o command + 1) is ∙ passed_turns old.state name command waits some

      pub passed-last : turns_before passed command ≡ 0 → IsLastTurn name old
      passed-last none = let less = fewer in last_where (omega (arith, less, none))

      pub passed-more : 0 < turns_before passed command → IsLastTurn name old → ⊥
      passed-more more last =
          let less = fewer in
          let one = ap (λ w. option_map_or (turns_before old.state) w 0) waiting ∙ last.last in
          few (turns_before passed command) (turns_before old.state command) more less one
        where
          few : (m n : ℕ) → 0 < m → m + 1 ≡ n → n ≡ 1 → ⊥
          few m n more less one = omega (arith, more, less, one)

      pub passed-rests : (new : UserState) → turns_before passed command ≡ 0 → StepsFollow command passed new → IsIdleIn new name
      passed-rests new none steps = rests-followed command passed new name waits none passed-work steps

      pub passed-others : (new : UserState) → OthersKept command passed new → OtherSessionsKept name old.state new
      passed-others new others = others-passed command old.state new name waits
          (subst (λ (o : UserState). OthersKept command o new) is others)
