-- The word's answer follows from the numeral and its size.
use Rattle.std.proofs.Common.{Ok, ◌∙◌, ap}
use Rattle.std.proofs.lemmas.Result.{err_from_is_err_and}
use Rattle.lj_fixed.proofs.Answered.{nano_of-bad, nano_of-beyond, nano_of-within}
use Rattle.lj_fixed.proofs.decimal_words.parse_nano.Goals as goal

pub returns-in_err-numeral : goal.returns-in_err-numeral
returns-in_err-numeral c =
    let p = err_from_is_err_and c.from_residual.result c.from_residual.ensures.1 in
    rw (p.1, p.2) (nano_of-bad c.args.word.now c.read.result c.in_err-numeral.field-0.0 c.read.ensures
    c.in_err-numeral.ensures.value)

pub returns-in_err-size : goal.returns-in_err-size
returns-in_err-size c =
    let p = err_from_is_err_and c.from_residual-in_err-size.result c.from_residual-in_err-size.ensures.1 in
    rw (p.1, p.2) (nano_of-beyond c.args.word.now c.read.result c.in_ok-numeral.numeral c.nano_size.result
    c.in_err-size.field-0.0 c.read.ensures c.in_ok-numeral.ensures.value
    c.nano_size.ensures c.in_err-size.ensures.value)

pub returns : goal.returns
returns c =
    ap Ok c.with_sign.ensures ∙ nano_of-within c.args.word.now c.read.result c.in_ok-numeral.numeral c.nano_size.result
    c.in_ok-size.size c.read.ensures c.in_ok-numeral.ensures.value c.nano_size.ensures c.in_ok-size.ensures.value
