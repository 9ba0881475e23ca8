-- Items after which no step is pending where none was before.
use Rattle.std.proofs.Common.{◌≡◌, ℕ, Bool, true, false, ◌||◌, List, Some, refl, sym, ap, ◌∙◌, arith}
use Rattle.std.proofs.lemmas.Bool.{true≢false}
use Rattle.lj_session.specs.declared.command.Command.{Command}
use Rattle.lj_session.specs.declared.command.Command.TheVariants.{Load, Advance, Start, Reverse, Branch, Restore, Forget, Tug}
use Rattle.lj_session.specs.declared.command.Command.TheVariants.{Measure, Show, Dump, List as ListCommand, ListBranches, Unload, Bye}
use Rattle.lj_session.specs.Users.{User}
use Rattle.lj_session.specs.UserState.{UserState, user_of}
use Rattle.lj_session.specs.Owner.{is_waited_for}
use Rattle.lj_session.proofs.Entries.{by_test}
use Rattle.lj_wire.specs.declared.item.Item.{Item}
use Rattle.lj_wire.specs.declared.item.Item.TheVariants.{Command as Ordered, Bad, Last}
use Rattle.lj_engine.specs.Gathering.{NonePending}
use Rattle.lj_engine.specs.PendingBounds.{HasPendingAfter, leaves_pending, most_after, steps_started}

none-started : (user : User) (command : Command) (name : List ℕ) → leaves_pending (Ordered command) ≡ false
    → steps_started user command name ≡ 0
unfolding steps_started
none-started user (Load load) name quiet = refl
none-started user (Advance session n) name quiet = refl
none-started user (Start session n) name quiet = absurd (true≢false quiet)
none-started user (Reverse session) name quiet = refl
none-started user (Branch session branch) name quiet = refl
none-started user (Restore session branch) name quiet = refl
none-started user (Forget session branch) name quiet = refl
none-started user (Tug session atom x y z) name quiet = refl
none-started user (Measure session) name quiet = refl
none-started user (Show session atom) name quiet = refl
none-started user (Dump session) name quiet = refl
none-started user ListCommand name quiet = refl
none-started user (ListBranches session) name quiet = refl
none-started user (Unload session) name quiet = refl
none-started user Bye name quiet = refl

none-after : (user : User) (item : Item) (name : List ℕ) → leaves_pending item ≡ false → most_after user item name 0 ≡ 0
none-after user (Ordered command) name quiet = by_test (is_waited_for (Some command) name)
    (λ t. rw t refl)
    (λ t. let none = none-started user command name quiet in rw t (omega (arith, none)))
none-after user (Bad fault) name quiet = refl
none-after user (Last fault) name quiet = refl

-- neither of two flags is set
neither : (a b : Bool) → (a || b) ≡ false → (a ≡ false) × (b ≡ false)
neither false false e = (refl, refl)
neither false true e = absurd (true≢false e)
neither true b e = absurd (true≢false e)

-- where no step was pending, none is after an item that is no START
pub quiet-after : (old : UserState) (item : Item) (new : UserState) → HasPendingAfter old item new → (before starts : Bool)
    → (before || starts) ≡ false → (before ≡ false → NonePending old) → starts ≡ leaves_pending item → NonePending new
quiet-after old item new bound before starts none quiet is name =
    let flags = neither before starts none in
    let was = quiet flags.0 name in
    let most = bound name in
    let least = ap (most_after (user_of old) item name) was ∙ none-after (user_of old) item name (sym is ∙ flags.1) in
    omega (arith, most, least)
