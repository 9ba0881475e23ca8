-- Worked items: the limits of a stream, and want of memory.
use Rattle.std.specs.Prelude.{◌≡◌, true, [], Some, None, pos, negsuc, codes, refl}
use Rattle.std.proofs.Common.{inl, inr}
use Rattle.std.proofs.Math.ListN.{replicate}
use Rattle.std.proofs.lemmas.Bool.{ltb-true}
use Rattle.lj_session.specs.Users.{fresh_user}
use Rattle.lj_wire.specs.declared.item.Fault.TheVariants.{Body, Line, Long, Enough}
use Rattle.lj_wire.specs.declared.item.Item.TheVariants.{Bad, Last}
use Rattle.lj_wire.specs.Commands.{body_len_announced, item_of}
use Rattle.lj_wire.specs.Displacements.{displacement_of}
use Rattle.lj_wire.specs.Told.{item_text}
use Rattle.lj_wire.specs.Streams.{IsItem}
use Rattle.lj_quota.specs.declared.TheConstants.Quota.{USUAL}
use Rattle.lj_wire.specs.Played.{computed}

-- a line of 257 bytes is no command
pub long_line : item_of (replicate 257 120) [] ≡ Bad Line
long_line = refl

-- a body has at most 1,048,576 bytes
pub greatest_count : body_len_announced (codes "LOAD a 256 1 1 rest 1048576") ≡ 1048576
unfolding computed
greatest_count = refl

pub great_count : item_of (codes "LOAD a 256 1 1 rest 1048577") [] ≡ Last Body
unfolding computed
great_count = refl

-- a count has at most 7 digits
pub long_count : item_of (codes "LOAD a 256 1 1 rest 00000002") [] ≡ Last Body
unfolding computed
long_count = refl

-- a displacement is from -2^31 to 2^31 - 1
pub least_displacement : displacement_of (codes "-2147483648") ≡ Some (negsuc 2147483647)
unfolding computed
least_displacement = refl

pub greatest_displacement : displacement_of (codes "2147483647") ≡ Some (pos 2147483647)
unfolding computed
greatest_displacement = refl

pub great_displacement : displacement_of (codes "2147483648") ≡ None
unfolding computed
great_displacement = refl

-- the body of a LOAD that is refused memory is not parsed
pub load_without_memory : (item_text (fresh_user USUAL) (item_of (codes "LOAD a 256 1 1 rest 2") (codes "9\n")) true).0
    ≡ codes "ERR 90 MEMORY\n"
unfolding computed
load_without_memory = refl

-- a wrong word of its line is answered first
pub sigma_without_memory : (item_text (fresh_user USUAL) (item_of (codes "LOAD a 256 99 1 rest 2") (codes "9\n")) true).0
    ≡ codes "ERR 37 SIGMA\n"
unfolding computed
sigma_without_memory = refl

-- 65,536 bytes without a line feed are the last fault
pub long_item : IsItem 0 (replicate 65536 120) (Last Long)
long_item = inl (ltb-true 0 1000000 refl, inr (record { one_line = refl; long = refl; means = refl }))

-- after a million items comes the last fault, and nothing else; it takes no byte
pub last_item : IsItem 1000000 [] (Last Enough)
last_item = inr (refl, refl, refl)
