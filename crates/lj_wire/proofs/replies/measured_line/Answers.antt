use Rattle.std.proofs.Common.{map, w64, codes}
use Rattle.std.specs.Int.{w128}
use Rattle.std.specs.Fmt.{decimal, signed_decimal}
use Rattle.std.proofs.lemmas.Int.{to_z-of_z}
use Rattle.lj_wire.proofs.ReplyLines.{words_text}
use Rattle.lj_wire.proofs.replies.measured_line.Goals as goal

pub returns : goal.returns
returns c =
    let step = to_z-of_z w64 c.args.step c.ranges.step in
    let potential = to_z-of_z w128 c.args.potential c.ranges.potential in
    rw (
      c.end.ensures,
      c.push_number-2.ensures.text,
      c.push_number.ensures.text,
      c.push_momentum.ensures.text,
      c.begin_measured.ensures.text,
      step,
      potential,
    )
    (words_text (codes "OK") (codes "MEASURE") c.args.name.now (signed_decimal c.args.step) (decimal c.args.atoms)
    (map signed_decimal c.args.momentum.now)
    (decimal c.args.kinetic) (signed_decimal c.args.potential))
