use Rattle.std.proofs.Common.{◌/◌, ◌^◌, refl, arith}
use Rattle.lj_book.proofs.KeyStateLemmas.{no_bit_from, lowest_bit_is}
use Rattle.lj_book.proofs.key_states.lowest_bit.Goals as goal

pub returns-then-rest-eq0-clause-none : goal.returns-then-rest-eq0-clause-none
returns-then-rest-eq0-clause-none c = no_bit_from c.args.mask c.args.from c.if-rest-eq0.true

pub returns-clause-some : goal.returns-clause-some
returns-clause-some c =
    lowest_bit_is c.args.mask c.args.from (c.args.mask / 2 ^ c.args.from) (omega (arith, c.ranges.mask.fits)) refl c.if-rest-eq0.false
    (omega (arith, c.ranges.mask.fits))
