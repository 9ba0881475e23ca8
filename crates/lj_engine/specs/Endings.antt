-- How serving ends: with an item, or with a command that is given up.
use Rattle.std.specs.Prelude.{Option, Some, None}
use Rattle.lj_session.specs.declared.command.Command.TheVariants.{Bye as ByeCommand}
use Rattle.lj_wire.specs.declared.item.Item.{Item}
use Rattle.lj_wire.specs.declared.item.Item.TheVariants.{Command, Bad, Last}
use Rattle.lj_engine.specs.declared.running.Halt.{Halt}
use Rattle.lj_engine.specs.declared.running.Halt.TheVariants as halt
use Rattle.lj_engine.specs.declared.served.Served.{Served}
use Rattle.lj_engine.specs.declared.served.Served.TheVariants.{Bye, Ended, PoolClosed, TooManyStrays}

-- how serving ends where a command is given up
abbrev pub served_of : Halt → Served
served_of halt.PoolClosed = PoolClosed
served_of halt.TooManyStrays = TooManyStrays

-- how serving ends with an item, if it does
abbrev pub ending_of : Item → Option Served
ending_of (Command ByeCommand) = Some Bye
ending_of (Command command) = None
ending_of (Bad fault) = None
ending_of (Last fault) = Some Ended
