-- Why serving ends: with an item only at a BYE or at a last fault.
use Rattle.std.proofs.Common.{◌≡◌, ℕ, Bool, true, false, List, Option, Some, None, refl, sym, ap, ◌∙◌, subst}
use Rattle.std.specs.Io.KnownBytes.{IsAtEnd}
use Rattle.lj_session.specs.declared.command.Command.TheVariants as command
use Rattle.lj_wire.specs.declared.item.Item.{Item}
use Rattle.lj_wire.specs.declared.item.Item.TheVariants.{Command, Bad, Last}
use Rattle.lj_wire.specs.Ends.{Rises}
use Rattle.lj_engine.specs.declared.running.Halt.{Halt}
use Rattle.lj_engine.specs.declared.running.Halt.TheVariants as halts
use Rattle.lj_engine.specs.declared.served.Served.{Served}
use Rattle.lj_engine.specs.declared.served.Served.TheVariants.{End, Bye, Ended, ReadFault, WriteFault, PoolClosed}
use Rattle.lj_engine.specs.declared.served.Served.TheVariants.{TooManyStrays}
use Rattle.lj_end.specs.declared.pool.TheConstants.{MAX_STRAYS}
use Rattle.lj_engine.specs.Counting.{StraysRise}
use Rattle.lj_engine.specs.Endings.{ending_of, served_of}
use Rattle.lj_engine.specs.Running.{IsHalted}
use Rattle.lj_end.specs.Seen.{Seen}
use Rattle.lj_engine.specs.Served.{HasCause}

-- whether serving may end so with an item
abbrev pub may_end_item : Option Served → Bool
may_end_item None = true
may_end_item (Some Bye) = true
may_end_item (Some Ended) = true
may_end_item (Some served) = false

ends_so : (item : Item) → may_end_item (ending_of item) ≡ true
ends_so (Command (command.Load load)) = refl
ends_so (Command (command.Advance name steps)) = refl
ends_so (Command (command.Start name steps)) = refl
ends_so (Command (command.Reverse name)) = refl
ends_so (Command (command.Branch name branch)) = refl
ends_so (Command (command.Restore name branch)) = refl
ends_so (Command (command.Forget name branch)) = refl
ends_so (Command (command.Tug name atom x y z)) = refl
ends_so (Command (command.Measure name)) = refl
ends_so (Command (command.Show name atom)) = refl
ends_so (Command (command.Dump name)) = refl
ends_so (Command command.List) = refl
ends_so (Command (command.ListBranches name)) = refl
ends_so (Command (command.Unload name)) = refl
ends_so (Command command.Bye) = refl
ends_so (Bad fault) = refl
ends_so (Last fault) = refl

-- serving does not end with an item in another way
pub no_item_ends : {P : Type 0} (item : Item) (served other : Served) → ending_of item ≡ Some served
    → may_end_item (Some other) ≡ false → served ≡ other → P
no_item_ends item served other ends never is =
    absurd (let differ : true ≡ false = sym (ends_so item) ∙ ap may_end_item ends
    ∙ ap (λ (kind : Served). may_end_item (Some kind)) is ∙ never in cc)

module _ (rest : Option (List ℕ)) (errors more_errors faults more_faults : Option ℕ) (old new : Seen) where
  -- what is seen where serving ends so
  abbrev Cause : Served → Type 0
  Cause End = IsAtEnd rest
  Cause Bye = Unit {0}
  Cause Ended = Unit {0}
  Cause ReadFault = Rises errors more_errors
  Cause WriteFault = Rises faults more_faults
  Cause PoolClosed = new.closed ≡ true
  Cause TooManyStrays = StraysRise MAX_STRAYS old new

  pub has_cause : (served : Served) → Cause served → HasCause served rest errors more_errors faults more_faults old new
  has_cause served cause = record {
    end = λ e. subst Cause e cause;
    read_fault = λ e. subst Cause e cause;
    write_fault = λ e. subst Cause e cause;
    closed = λ e. subst Cause e cause;
    strays = λ e. subst Cause e cause;
  }

  pub halt_cause : (halt : Halt) → IsHalted halt old new
      → HasCause (served_of halt) rest errors more_errors faults more_faults old new
  halt_cause halts.PoolClosed halted = has_cause PoolClosed halted
  halt_cause halts.TooManyStrays halted = has_cause TooManyStrays halted

  pub item_cause : (item : Item) (served : Served) → ending_of item ≡ Some served
      → HasCause served rest errors more_errors faults more_faults old new
  item_cause item Bye ends = has_cause Bye tt
  item_cause item Ended ends = has_cause Ended tt
  item_cause item End ends = no_item_ends item End End ends refl refl
  item_cause item ReadFault ends = no_item_ends item ReadFault ReadFault ends refl refl
  item_cause item WriteFault ends = no_item_ends item WriteFault WriteFault ends refl refl
  item_cause item PoolClosed ends = no_item_ends item PoolClosed PoolClosed ends refl refl
  item_cause item TooManyStrays ends = no_item_ends item TooManyStrays TooManyStrays ends refl refl
