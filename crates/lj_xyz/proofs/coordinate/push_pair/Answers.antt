use Rattle.std.proofs.Common.{append_assoc}
use Rattle.lj_xyz.proofs.Pairs.{pair_at, two_digits}
use Rattle.lj_xyz.proofs.coordinate.push_pair.Goals as goal

pub returns-clause-text : goal.returns-clause-text
returns-clause-text g c =
    let digits = pair_at c.args.number c.requires.number in
    rw (
      c.push-2.ensures.items,
      c.push.ensures.items,
      digits.0,
      digits.1,
      append_assoc,
      two_digits c.args.number c.requires.number,
    )
