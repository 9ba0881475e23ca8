-- Items that are answered, where each reply is a text.
use Rattle.std.proofs.Common.{◌≡◌, ℕ, false, List, Option, Some, None, IfSome, refl, sym, ap, ◌∙◌, subst, true≢false}
use Rattle.lj_session.specs.declared.command.Command.{Command as Order}
use Rattle.lj_session.specs.declared.reply.Reply.{Reply}
use Rattle.lj_session.specs.declared.reply.Reply.TheVariants.{Refused}
use Rattle.lj_session.specs.Users.{User}
use Rattle.lj_session.specs.UserState.{turns_before, OthersKept, OtherSessionsKept, IsIdleIn, StepsFollow}
use Rattle.lj_session.specs.Begins.{OnRefusal}
use Rattle.lj_session.specs.Owner.{Owner, user_in, IsAnswered, IsReplied, IsLastTurn, is_waited_for, state_turned}
use Rattle.lj_wire.specs.declared.item.Fault.{Fault}
use Rattle.lj_wire.specs.declared.item.Item.TheVariants.{Command, Bad, Last}
use Rattle.lj_wire.specs.Items.{refusal_of}
use Rattle.lj_wire.specs.ReplyTexts as texts
use Rattle.lj_world.specs.OwnerReplies.{Answers, BeginsAtOnce, TurnsLast, OnRefusedItem}

-- a command that is answered, as a text
answer_made : (owner next : Owner) (command : Order) (reply : Reply) (text : List ℕ) → IsAnswered (user_in owner) command reply (user_in next)
    → next.waiting ≡ None → next.number ≡ owner.number → text ≡ texts.text (user_in next) reply → Answers owner (Command command) text next
answer_made owner next command reply text answered idle number made = record {
  mark = answered.mark;
  is_answer = ap (λ (t : List ℕ). (t, user_in next)) made
      ∙ ap (λ (a : Reply × User). (texts.text a.1 a.0, a.1)) answered.answers;
  idle = idle;
  number = number;
}

-- what holds where its reply is a refusal
refused_answer : (owner next : Owner) (command : Order) (reply : Reply) (P : Type 0)
    → (answered : IsAnswered (user_in owner) command reply (user_in next)) → OnRefusal reply P
    → OnRefusedItem owner (Command command) answered.mark P
refused_answer owner next command reply P answered fact =
    subst (λ (r : Reply). OnRefusal r P) (ap (λ a. a.0) answered.answers) fact

-- a command that needs no turn
pub command_answered : (owner next : Owner) (command : Order) (reply : Reply) (text : List ℕ)
    → turns_before owner.state command ≡ 0 → IsAnswered (user_in owner) command reply (user_in next)
    → next.waiting ≡ None → next.number ≡ owner.number → OthersKept command owner.state next.state
    → StepsFollow command owner.state next.state → OnRefusal reply (next ≡ owner) → text ≡ texts.text (user_in next) reply
    → BeginsAtOnce owner (Command command) text next
unfolding answer_made
command_answered owner next command reply text none answered idle number others steps unchanged made = record {
  at_once = none;
  answers = answer_made owner next command reply text answered idle number made;
  steps = (others, steps);
  unchanged = refused_answer owner next command reply (next ≡ owner) answered unchanged;
}

-- the pending command, at its last turn
pub wait_answered : (owner next : Owner) (name : List ℕ) (reply : Reply) (text : List ℕ) → IsLastTurn name owner
    → IsReplied owner reply (user_in next) → next.waiting ≡ None → next.number ≡ owner.number → IsIdleIn next.state name
    → OtherSessionsKept name owner.state next.state → OnRefusal reply (next.state ≡ state_turned name owner.state)
    → text ≡ texts.text (user_in next) reply → TurnsLast owner name text next
unfolding answer_made
wait_answered owner next name reply text last replied idle number rests others refused made = by owner.waiting refl
  where
    by : (waiting : Option Order) → owner.waiting ≡ waiting → TurnsLast owner name text next
    by None e = absurd (true≢false (sym last.waited ∙ ap (λ w. is_waited_for w name) e))
    by (Some command) e =
        let answered = subst (λ w. IfSome w (λ k. IsAnswered (user_in owner) k reply (user_in next))) e replied in record {
          last = last;
          command = command;
          waits = e;
          answers = answer_made owner next command reply text answered idle number made;
          is_idle = rests;
          others = others;
          refused = refused_answer owner next command reply (next.state ≡ state_turned name owner.state) answered refused;
        }

-- a line that is no command, and a fault that ends the connection
pub fault_answered : (owner : Owner) (fault : Fault) (text : List ℕ) → owner.waiting ≡ None
    → text ≡ texts.text (user_in owner) (Refused (refusal_of fault))
    → BeginsAtOnce owner (Bad fault) text owner × BeginsAtOnce owner (Last fault) text owner
fault_answered owner fault text idle made =
    let told = ap (λ (t : List ℕ). (t, user_in owner)) made in (
      record { at_once = refl; answers = record { mark = false; is_answer = told; idle = idle; number = refl }; steps = refl; unchanged = refl },
      record { at_once = refl; answers = record { mark = false; is_answer = told; idle = idle; number = refl }; steps = refl; unchanged = refl },
    )
