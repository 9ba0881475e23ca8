use Rattle.std.proofs.Common.{append_assoc}
use Rattle.lj_xyz.proofs.Pairs.{decimal_four}
use Rattle.lj_xyz.proofs.coordinate.push_whole.Goals as goal

pub returns-else-number-lt100-clause-text : goal.returns-else-number-lt100-clause-text
returns-else-number-lt100-clause-text g c =
    rw (
      c.push_pair.ensures.text,
      c.push_short-else-number-lt100.ensures.text,
      append_assoc,
      decimal_four c.args.number c.if-number-lt100.false c.requires.number,
    )
