-- Items before which turns come: they do not end the connection.
use Rattle.std.proofs.Common.{◌≡◌, ◌<◌, Bool, true, false, cond, nat_lt, refl, ap, arith}
use Rattle.lj_session.specs.declared.command.Command.{Command}
use Rattle.lj_session.specs.declared.command.Command.TheVariants.{Load, Advance, Start, Reverse, Branch, Restore, Forget, Tug}
use Rattle.lj_session.specs.declared.command.Command.TheVariants.{Measure, Show, Dump, List as ListSessions}
use Rattle.lj_session.specs.declared.command.Command.TheVariants.{ListBranches, Unload, Bye}
use Rattle.lj_session.specs.Users.{User}
use Rattle.lj_session.specs.Answers.{AnswersAlike}
use Rattle.lj_session.specs.Turns.{turns, waits_for}
use Rattle.lj_session.specs.UserState.{UserState, steps_before, turns_before}
use Rattle.lj_session.specs.Owner.{rest_of, command_left}
use Rattle.lj_wire.specs.declared.item.Item.{Item}
use Rattle.lj_wire.specs.declared.item.Item.TheVariants as items
use Rattle.lj_wire.specs.Items.{is_ending}
use Rattle.lj_wire.specs.ReplyTexts.{text}
use Rattle.lj_wire.specs.Told.{item_text}
use Rattle.lj_wire.specs.PendingItems.{item_before}

pub told_alike : (new : User) (left : Command) (old : User) (command : Command) (mark : Bool)
    → AnswersAlike new left old command
    → item_text new (items.Command left) mark ≡ item_text old (items.Command command) mark
told_alike new left old command mark alike = ap (λ a. (text a.1 a.0, a.1)) (alike mark)

-- before BYE no turn comes
bye_at_once : (state : UserState) → turns_before state Bye ≡ 0
unfolding turns waits_for
bye_at_once state = refl

command_goes_on : (state : UserState) (command : Command) → 0 < turns_before state command
    → (is_ending (items.Command command) ≡ false) × (is_ending (items.Command (rest_of command)) ≡ false)
unfolding rest_of
command_goes_on state Bye h = absurd (omega (arith, h, bye_at_once state))
command_goes_on state (Advance name n) h = (refl, refl)
command_goes_on state (Start name n) h = (refl, refl)
command_goes_on state (Measure name) h = (refl, refl)
command_goes_on state (Load load) h = (refl, refl)
command_goes_on state (Reverse name) h = (refl, refl)
command_goes_on state (Branch name branch) h = (refl, refl)
command_goes_on state (Restore name branch) h = (refl, refl)
command_goes_on state (Forget name branch) h = (refl, refl)
command_goes_on state (Tug name atom x y z) h = (refl, refl)
command_goes_on state (Show name atom) h = (refl, refl)
command_goes_on state (Dump name) h = (refl, refl)
command_goes_on state ListSessions h = (refl, refl)
command_goes_on state (ListBranches name) h = (refl, refl)
command_goes_on state (Unload name) h = (refl, refl)

pub waits_on : (state : UserState) (item : Item) → 0 < item_before state item → is_ending item ≡ false
waits_on state (items.Command command) h = (command_goes_on state command h).0
waits_on state (items.Bad fault) h = refl
waits_on state (items.Last fault) h = absurd (omega (arith, h))

pub left_goes_on : (state : UserState) (command : Command) → 0 < turns_before state command
    → is_ending (items.Command (command_left command state)) ≡ false
left_goes_on state command h = by_test (nat_lt 0 (steps_before state command))
  where
    by_test : (pending : Bool) → is_ending (items.Command (cond pending command (rest_of command))) ≡ false
    by_test true = (command_goes_on state command h).0
    by_test false = (command_goes_on state command h).1
