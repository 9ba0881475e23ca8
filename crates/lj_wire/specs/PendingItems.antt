-- Items that wait: how many steps are made before an item is answered.
use Rattle.std.specs.Prelude.{ℕ}
use Rattle.lj_session.specs.UserState.{UserState, turns_before}
use Rattle.lj_wire.specs.declared.item.Item.{Item}
use Rattle.lj_wire.specs.declared.item.Item.TheVariants.{Command, Bad, Last}

-- the number of steps before an item is answered: those pending in the session it waits for, and its own
abbrev pub item_before : UserState → Item → ℕ
item_before state (Command command) = turns_before state command
item_before state (Bad fault) = 0
item_before state (Last fault) = 0
