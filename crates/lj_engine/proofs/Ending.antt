-- What waited is answered at a turn, after work that went on; and a command that is answered once its work is done.
use Rattle.std.proofs.Common.{◌≡◌, ℕ, ◌+◌, ◌-◌, ◌<◌, ◌≤◌, true, List, Option, Some, None, Result, Ok, Err, refl, sym, ap, ◌∙◌, subst, arith}
use Rattle.std.specs.Prelude.{IfSome, IfNone, IsSome, IfOk, OnErr, is_some, if◌then◌else◌}
use Rattle.std.specs.List.{IsDistinct}
use Rattle.std.specs.Str.{bytes_eq}
use Rattle.std.proofs.lemmas.Bool.{true≢false}
use Rattle.lj_session.specs.declared.command.Command.{Command}
use Rattle.lj_session.specs.declared.reply.Reply.{Reply}
use Rattle.lj_session.specs.Users.{User}
use Rattle.lj_session.specs.Answers.{AnswersAlike}
use Rattle.lj_session.specs.Begins.{OnRefusal}
use Rattle.lj_session.specs.UserState.{UserState, IsIdleIn, OthersKept, OtherSessionsKept, StepsFollow, is_whole_in, loaded_names, pending_in, turns_before}
use Rattle.lj_session.specs.Owner.{Owner, IsAnswered, IsReplied, IsLastTurn, IsSettled, WaitsAlike, WaitsAlikeFor, owner_begun, is_waited_for, user_in}
use Rattle.lj_session.proofs.Entries.{by_test}
use Rattle.lj_wire.specs.declared.item.Item.TheVariants.{Command as Ordered}
use Rattle.lj_engine.specs.declared.running.Halt.{Halt}
use Rattle.lj_engine.specs.declared.running.Halt.TheVariants.{PoolClosed, TooManyStrays}
use Rattle.lj_end.specs.Seen.{Seen}
use Rattle.lj_engine.specs.Gathering.{Gathers}
use Rattle.lj_engine.specs.Counting.{CountsRise, FallsShort, StraysRise}
use Rattle.lj_engine.specs.Coming.{GoesOn, HasNoMorePending, HasNonePendingWhereWaited, state_tiles_coming, tiles_coming, tiles_with_item}
use Rattle.lj_engine.specs.PendingBounds.{HasPendingAfter, most_after, steps_started}
use Rattle.lj_engine.specs.Running.{AnswersNext, AnswersPending, FinishesWork, IsHalted, LeavesUnanswered}
use Rattle.lj_engine.specs.Serving.{AnswersItem}
use Rattle.lj_engine.proofs.Sessions.{distinct-answered}
use Rattle.lj_engine.proofs.Begun.{Begins, begins, begun-waits, begun-pending}
use Rattle.lj_engine.proofs.Answered.{Ended, answered_at_once, ended_at_turn}
use Rattle.lj_engine.proofs.Going.{rises_more, rises_none, replied_alike}

-- what waits goes on waiting, and where nothing waits nothing does
pub alike_some : (a b : Owner) → WaitsAlike a b → IsSome a.waiting → IsSome b.waiting
alike_some a b alike some = by a.waiting b.waiting alike some
  where
    by : (x y : Option Command) → WaitsAlikeFor x y (user_in a) (user_in b) → IsSome x → IsSome y
    by None y p s = absurd (true≢false (sym s))
    by (Some c) None p s = absurd p
    by (Some c) (Some d) p s = refl

pub alike_none : (a b : Owner) → WaitsAlike a b → a.waiting ≡ None → (b.waiting ≡ None) × (user_in b ≡ user_in a)
alike_none a b alike none = by b.waiting refl (subst (λ x. WaitsAlikeFor x b.waiting (user_in a) (user_in b)) none alike)
  where
    by : (y : Option Command) → b.waiting ≡ y → WaitsAlikeFor None y (user_in a) (user_in b)
        → (y ≡ None) × (user_in b ≡ user_in a)
    by None e p = (refl, p)
    by (Some d) e p = absurd p

-- where nothing waits no turn is the last
pub none_last : (name : List ℕ) (owner : Owner) → owner.waiting ≡ None → IsLastTurn name owner → ⊥
none_last name owner none last = true≢false (sym last.waited ∙ rw none refl)

distinct_replied : (now next : Owner) (reply : Reply) → IsSome now.waiting → IsReplied now reply (user_in next)
    → IsDistinct bytes_eq (loaded_names now.state) → IsDistinct bytes_eq (loaded_names next.state)
distinct_replied now next reply some replied distinct = by now.waiting some replied
  where
    by : (w : Option Command) → IsSome w → IfSome w (λ command. IsAnswered (user_in now) command reply (user_in next))
        → IsDistinct bytes_eq (loaded_names next.state)
    by None s r = absurd (true≢false (sym s))
    by (Some command) s r = distinct-answered now.state next.state command r.mark reply r.answers distinct

-- the last turn
module _ (start : Owner) (before : Seen) (now : Owner) (after : Seen) (goes : GoesOn start before now after) (name : List ℕ)
    (whole : is_whole_in now.state name ≡ true) (last : IsLastTurn name now) (next : Owner) (reply : Reply)
    (number : next.number ≡ now.number) (done : next.waiting ≡ None)
    (others : OtherSessionsKept name now.state next.state) (rests : IsIdleIn next.state name)
    (some : IsSome now.waiting) (replied : IsReplied now reply (user_in next)) (settled : IsSettled next.state reply) where
  its_end : Ended now after.owed next
  its_end = ended_at_turn now after.owed goes.gathers name whole last next number done others rests
      (distinct_replied now next reply some replied goes.gathers.distinct)

  pub ends : AnswersPending start before reply next after
  ends =
      let same = its_end.tiles in
      let handed = goes.handed in
      record {
        replied = replied_alike start now reply (user_in next) goes.alike replied;
        finished = record {
          settled = settled;
          idle = done;
          gathers = its_end.gathers;
          counted = rises_more (tiles_coming start - tiles_coming now) 0 (tiles_coming start - state_tiles_coming next.state)
              goes.counted (rises_none after after 0 refl refl (omega arith)) (omega (arith, same));
          handed = omega (arith, same, handed);
        };
        no_more = λ other quiet.
            let went = goes.pending other quiet in
            let ended = its_end.pending other (goes.waits other ∙ quiet) in
            omega (arith, went, ended);
        rests = λ other for_it. its_end.rests other (goes.waits other ∙ for_it);
      }

-- a command that begins
module _ (owner : Owner) (seen : Seen) (t : Gathers owner seen.owed) (idle : owner.waiting ≡ None) (command : Command)
    (next : Owner) where
  -- and waits
  module _ (takes : 0 < turns_before owner.state command) (is : next ≡ owner_begun command owner) where
    its : Begins owner seen.owed command (owner_begun command owner)
    its = begins owner seen.owed t idle command takes

    pub begun_gathers : Gathers next seen.owed
    begun_gathers = subst (λ (o : Owner). Gathers o seen.owed) (sym is) its.gathers

    begun_tiles : tiles_coming next ≡ tiles_with_item owner (Ordered command)
    begun_tiles = ap tiles_coming is ∙ its.tiles

    begun_some : IsSome next.waiting
    begun_some = ap (λ (o : Owner). is_some o.waiting) is

    -- an answer to what is left is one to the command
    begun_answers : (reply : Reply) (last : User) → IfSome next.waiting (λ left. AnswersAlike (user_in next) left (user_in owner) command)
        → IsReplied next reply last → AnswersItem (user_in owner) (Ordered command) reply last
    begun_answers reply last alike replied = by next.waiting begun_some alike replied
      where
        by : (w : Option Command) → IsSome w → IfSome w (λ left. AnswersAlike (user_in next) left (user_in owner) command)
            → IfSome w (λ left. IsAnswered (user_in next) left reply last) → AnswersItem (user_in owner) (Ordered command) reply last
        by None s a r = absurd (true≢false (sym s))
        by (Some left) s a r = (r.mark, sym (r.answers ∙ a r.mark))

    -- no more steps are pending after it than may be
    begun_pending : (last : UserState) → HasNoMorePending next last → HasNonePendingWhereWaited next last
        → HasPendingAfter owner.state (Ordered command) last
    begun_pending last no_more rests name = by_test (is_waited_for next.waiting name)
        (λ t. let none = rests name t in omega (arith, none))
        (λ t.
        let quiet = sym (ap (λ (o : Owner). is_waited_for o.waiting name) is ∙ begun-waits command owner name) ∙ t in
        let begins_with = ap (λ (o : Owner). pending_in o.state name) is ∙ begun-pending command owner name quiet in
        let few = no_more name t in
        let most : most_after (user_in owner) (Ordered command) name (pending_in owner.state name)
        ≡ pending_in owner.state name + steps_started (user_in owner) command name =
        ap (λ b. if b then 0 else pending_in owner.state name + steps_started (user_in owner) command name) quiet in
        omega (arith, begins_with, few, most))

    -- once it is answered
    pub begun_answered : IfSome next.waiting (λ left. AnswersAlike (user_in next) left (user_in owner) command)
        → (last : Owner) (after : Seen) (reply : Reply) → AnswersPending next seen reply last after
        → AnswersNext owner (Ordered command) seen reply last after
    begun_answered alike last after reply answers = record {
      answered = begun_answers reply (user_in last) alike answers.replied;
      finished = subst (λ number. FinishesWork number seen reply last after) begun_tiles answers.finished;
      pending = begun_pending last.state answers.no_more answers.rests;
    }

    -- where it is given up
    pub begun_unanswered : (after : Seen) → FallsShort (tiles_coming next) seen after
        → LeavesUnanswered owner (Ordered command) seen after
    begun_unanswered after short =
        record { waits = takes; missing = subst (λ number. FallsShort number seen after) begun_tiles short }

  -- and is answered at once
  pub answers_at_once : (reply : Reply) → next.number ≡ owner.number → next.waiting ≡ None
      → turns_before owner.state command ≡ 0 → IsAnswered (user_in owner) command reply (user_in next)
      → OnRefusal reply (next ≡ owner) → OthersKept command owner.state next.state
      → StepsFollow command owner.state next.state → IsSettled next.state reply
      → AnswersNext owner (Ordered command) seen reply next seen
  answers_at_once reply number done at_once answered unchanged others steps settled =
      let it = answered_at_once owner seen.owed t idle command reply next number done at_once answered unchanged others steps in
      let same = it.tiles in
      record {
        answered = (answered.mark, sym answered.answers);
        finished = record {
          settled = settled;
          idle = done;
          gathers = it.gathers;
          counted = rises_none seen seen (tiles_with_item owner (Ordered command) - state_tiles_coming next.state) refl refl
              (omega (arith, same));
          handed = omega (arith, same);
        };
        pending = it.pending;
      }

-- strays in a row, and what halts
pub strays_then : (a b c : Seen) (n : ℕ) → StraysRise n a b → StraysRise 1 b c → b.strays ≤ c.strays → StraysRise (n + 1) a c
strays_then a b c n first one more = λ below.
    let last = one below in
    let before = first (omega (arith, below, more)) in
    omega (arith, last, before)

pub strays_none : {n : ℕ} (a b : Seen) → CountsRise n a b → StraysRise 0 a b
strays_none a b risen = λ below. let more = risen.strays in omega (arith, more)

pub strays_on : {k : ℕ} (a b c : Seen) (n : ℕ) → StraysRise n a b → CountsRise k b c → StraysRise n a c
strays_on a b c n first risen = λ below.
    let more = risen.strays in
    let before = first (omega (arith, below, more)) in
    omega (arith, more, before)

pub halted_on : {k : ℕ} (halt : Halt) (a b c : Seen) → CountsRise k a b → IsHalted halt b c → IsHalted halt a c
halted_on PoolClosed a b c risen halted = halted
halted_on TooManyStrays a b c risen halted = λ below.
    let more = risen.strays in
    let last = halted below in
    omega (arith, more, last)

-- what is said of no answer, and of answers
pub when_none : {A : Type 0} {P : Type 0} (o : Option A) → (IsSome o → ⊥) → IfNone o P → P
when_none None not_some h = h
when_none (Some x) not_some h = absurd (not_some refl)

pub if_ok : {A B : Type 0} {P Q : A → Type 0} (r : Result A B) → ((x : A) → P x → Q x) → IfOk r P → IfOk r Q
if_ok (Ok x) f p = f x p
if_ok (Err e) f p = tt

pub on_err : {A B : Type 0} {P Q : Type 0} (r : Result A B) → (P → Q) → OnErr r P → OnErr r Q
on_err (Ok x) f p = tt
on_err (Err e) f p = f p

pub at_err : {A B : Type 0} {P : Type 0} (r : Result A B) → P → OnErr r P
at_err (Ok x) p = tt
at_err (Err e) p = p
