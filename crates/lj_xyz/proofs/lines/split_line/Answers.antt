use Rattle.std.proofs.Common.{length, sym, ◌∙◌, eqb-true, arith}
use Rattle.std.proofs.lemmas.Bool.{eqb-false}
use Rattle.lj_xyz.proofs.LineLaws.{lines_of_empty, lines_at, lines_at_none}
use Rattle.lj_xyz.proofs.lines.split_line.Goals as goal

pub returns-then-is_empty-clause-line : goal.returns-then-is_empty-clause-line
returns-then-is_empty-clause-line c =
    lines_of_empty c.args.text.now (eqb-true (length c.args.text.now) 0 (sym c.is_empty.ensures ∙ c.if-is_empty.true))

pub returns-in-None-clause-line : goal.returns-in-None-clause-line
returns-in-None-clause-line c =
    let some = eqb-false (length c.args.text.now) 0 (sym c.is_empty.ensures ∙ c.if-is_empty.false) in
    lines_at_none c.args.text.now _ (omega (arith, some)) c.in-None.ensures c.without_return.ensures

pub returns-in-Some-clause-line : goal.returns-in-Some-clause-line
returns-in-Some-clause-line c =
    lines_at c.args.text.now _ c.in-Some.end c.in-Some.ensures.0 c.in-Some.ensures.1 c.without_return-in-Some.ensures
