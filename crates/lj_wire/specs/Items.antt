-- Items of a stream: which of them end the connection, how a load gets its body, and which refusal answers a fault.
use Rattle.std.specs.Prelude.{Bool, true, false}
use Rattle.lj_session.specs.declared.body.LoadBody.{LoadBody}
use Rattle.lj_session.specs.declared.command.Command.TheVariants.{Bye, Load}
use Rattle.lj_session.specs.declared.refusal.Refusal.{Refusal}
use Rattle.lj_session.specs.declared.refusal.Refusal.TheVariants as refusal
use Rattle.lj_wire.specs.declared.item.Fault.{Fault}
use Rattle.lj_wire.specs.declared.item.Fault.TheVariants as fault
use Rattle.lj_wire.specs.declared.item.Item.{Item}
use Rattle.lj_wire.specs.declared.item.Item.TheVariants.{Command, Bad, Last}

-- the refusal of a fault
abbrev pub refusal_of : Fault → Refusal
refusal_of fault.Line = refusal.Line
refusal_of fault.Syntax = refusal.Syntax
refusal_of fault.Body = refusal.Body
refusal_of fault.Long = refusal.Long
refusal_of fault.Command = refusal.Command
refusal_of fault.Enough = refusal.Enough

-- BYE and a last fault end the connection
abbrev pub is_ending : Item → Bool
is_ending (Command Bye) = true
is_ending (Command _) = false
is_ending (Bad fault) = false
is_ending (Last fault) = true

-- a load with this body; any other item unchanged
abbrev pub with_body : Item → LoadBody → Item
with_body (Command (Load load)) body = Command (Load (record load { body = body }))
with_body (Command command) body = Command command
with_body (Bad fault) body = Bad fault
with_body (Last fault) body = Last fault
