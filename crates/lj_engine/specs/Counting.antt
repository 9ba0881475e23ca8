-- The number of tiles of commands, and how far the counts of a pool's results rise.
use Rattle.std.specs.Prelude.{ℕ, zero, suc, ◌+◌, ◌<◌, ◌≤◌, Bool, List, [], ◌∷◌, length, Option, Some, None}
use Rattle.std.specs.Prelude.{if◌then◌else◌}
use Rattle.std.specs.List.{sum_by}
use Rattle.lj_task.specs.Species.{Composition}
use Rattle.lj_step.specs.Motion.{Simulation, next_simulation}
use Rattle.lj_step.specs.OpenSteps.{cover}
use Rattle.lj_session.specs.declared.command.Command.{Command}
use Rattle.lj_session.specs.declared.command.Command.TheVariants.{Advance, Start, Measure}
use Rattle.lj_branch.specs.Named.{value_named}
use Rattle.lj_session.specs.Users.{Session, User}
use Rattle.lj_session.specs.Answers.{can_advance}
use Rattle.lj_session.specs.UserState.{LiveSession, UserState}
use Rattle.lj_wire.specs.declared.item.Item.{Item}
use Rattle.lj_wire.specs.declared.item.Item.TheVariants.{Command as Ordered, Bad, Last}
use Rattle.lj_wire.specs.Told.{item_text, first_mark, other_marks}
use Rattle.lj_end.specs.Seen.{Seen, last_count}

-- the number of tiles of a step from the frame of a simulation
abbrev pub frame_tiles : Composition → Simulation → ℕ
frame_tiles u sim = length (cover u sim.cur)

-- the number of tiles of n steps
abbrev pub steps_tiles : Composition → ℕ → Simulation → ℕ
steps_tiles u zero sim = 0
steps_tiles u (suc n) sim = frame_tiles u sim + steps_tiles u n (next_simulation u sim)

-- the number of tiles of n steps of a session; 0 where it may not make them
abbrev pub advance_tiles : Option Session → ℕ → ℕ
advance_tiles None n = 0
advance_tiles (Some session) n = if can_advance session n then steps_tiles session.composition n session.sim else 0

-- the number of tiles of the energy step of a session
abbrev pub measure_tiles : Option Session → ℕ
measure_tiles None = 0
measure_tiles (Some session) = frame_tiles session.composition session.sim

-- the number of tiles of a command's steps: those of ADVANCE and START, and the energy step of MEASURE
unfoldable pub command_tiles : User → Command → ℕ
command_tiles user (Advance name n) = advance_tiles (value_named name user.sessions) n
command_tiles user (Start name n) = advance_tiles (value_named name user.sessions) n
command_tiles user (Measure name) = measure_tiles (value_named name user.sessions)
command_tiles user _ = 0

-- the number of tiles of an item's steps
abbrev pub item_tiles : User → Item → ℕ
item_tiles user (Ordered command) = command_tiles user command
item_tiles user (Bad fault) = 0
item_tiles user (Last fault) = 0

-- the number of tiles of the steps of items, each item answered from the user that those before it leave
abbrev pub tiles : User → List Item → List Bool → ℕ
tiles user [] marks = 0
tiles user (item ∷ items) marks =
    item_tiles user item + tiles (item_text user item (first_mark marks)).1 items (other_marks marks)

-- the number of tiles of the pending steps of a session
abbrev pub pending_tiles : LiveSession → ℕ
pending_tiles session = steps_tiles session.live.composition session.pending session.live.sim

-- the sum of a number over the sessions of a state
abbrev pub sum_over : (LiveSession → ℕ) → UserState → ℕ
sum_over number state = sum_by (λ entry. number entry.1) state.sessions

-- the number of tiles of the pending steps of all sessions
abbrev pub tiles_pending : UserState → ℕ
tiles_pending state = sum_over pending_tiles state

-- Neither count has fallen, and together they rose by at least `number`, unless one of them is saturated.
pub record CountsRise (number : ℕ) (old new : Seen) : Type 0 where
  pub expected : old.expected ≤ new.expected
  pub strays : old.strays ≤ new.strays
  pub together : new.expected < last_count → new.strays < last_count
      → old.expected + old.strays + number ≤ new.expected + new.strays

-- At most `number - left` results that were owed were handed out: those of the tiles that are not left.
abbrev pub HandedWithin : ℕ → ℕ → Seen → Seen → Type 0
HandedWithin number left old new = new.expected + left ≤ old.expected + number

-- Fewer than `number` results that were owed were handed out.
abbrev pub FallsShort : ℕ → Seen → Seen → Type 0
FallsShort number old new = new.expected < old.expected + number

-- The count of strays rose by at least `number`, or is saturated.
abbrev pub StraysRise : ℕ → Seen → Seen → Type 0
StraysRise number old new = new.strays < last_count → old.strays + number ≤ new.strays
