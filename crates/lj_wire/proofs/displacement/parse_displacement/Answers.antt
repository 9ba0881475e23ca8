use Rattle.std.proofs.Common.{◌∙◌, sym, FitsSigned, rules}
use Rattle.std.specs.Int.{w128}
use Rattle.std.proofs.lemmas.Int.{to_z-of_z}
use Rattle.lj_wire.specs.Displacements.{displacement_of}
use Rattle.lj_wire.proofs.Displacements.{displacement_read}
use Rattle.lj_wire.proofs.displacement.parse_displacement.Goals as goal

pub returns-in_err-parse_integer : goal.returns-in_err-parse_integer
unfolding displacement_of
returns-in_err-parse_integer c = rw (sym c.in_err-parse_integer.ensures) c.from_residual.ensures

pub returns : goal.returns
unfolding displacement_of
returns c =
    let z = c.in_ok-parse_integer.field-0 in
    let fits : FitsSigned w128 z = search rules in
    rw (sym c.in_ok-parse_integer.ensures) (c.ok.ensures.value
    ∙ displacement_read z c.try_from.result (rw (to_z-of_z w128 z fits) at c.try_from.ensures))
