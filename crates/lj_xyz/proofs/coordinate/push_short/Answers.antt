use Rattle.std.proofs.lemmas.Fmt.{decimal_digit}
use Rattle.lj_xyz.proofs.Pairs.{decimal_two}
use Rattle.lj_xyz.proofs.coordinate.push_short.Goals as goal

pub returns-then-number-lt10-clause-text : goal.returns-then-number-lt10-clause-text
returns-then-number-lt10-clause-text g c = rw (c.push.ensures.items, decimal_digit c.args.number c.if-number-lt10.true)

pub returns-else-number-lt10-clause-text : goal.returns-else-number-lt10-clause-text
returns-else-number-lt10-clause-text g c =
    rw (c.push_pair.ensures.text, decimal_two c.args.number c.if-number-lt10.false c.requires.number)
