use Rattle.std.proofs.Common.{◌-◌, ◌*◌, ◌/◌, ◌^◌, ◌<◌, ◌≤◌, arith, ◌∙◌, sym}
use Rattle.std.proofs.lemmas.Nat.{div_below, mul-le}
use Rattle.lj_table.proofs.Quotients.{quotient_under, negated, negated_size}
use Rattle.lj_table.proofs.table_entries.signed_quotient.Goals as goal

small : (c : goal.Else-cube-top) → c.args.factor * (c.args.cube - c.args.top) / c.args.power < 2 ^ 37
small c =
    let under : c.args.factor * (c.args.cube - c.args.top) ≤ c.args.factor * c.args.cube =
    mul-le c.args.factor _ c.args.factor c.args.cube (omega arith) (omega arith) in
    let some : 0 < c.args.power = omega (arith, c.requires.under) in
    div_below (c.args.factor * (c.args.cube - c.args.top)) c.args.power (2 ^ 37) some
    (omega (arith, under, c.requires.under))

pub returns-else-cube-top-clause-value : goal.returns-else-cube-top-clause-value
returns-else-cube-top-clause-value c =
    negated (c.args.factor * (c.args.cube - c.args.top) / c.args.power) (small c)
    ∙ sym (quotient_under c.args.factor c.args.top c.args.cube c.args.power c.if-cube-top.false)

pub returns-else-cube-top-clause-size : goal.returns-else-cube-top-clause-size
returns-else-cube-top-clause-size c = negated_size (c.args.factor * (c.args.cube - c.args.top) / c.args.power) (small c)
