-- Three digits at most are all kept.
use Rattle.std.proofs.Common.{◌<◌, Some, ap, sym, ◌∙◌, arith, length}
use Rattle.std.proofs.lemmas.Bool.{eqb-false, and_right, cond-true, cond-false}
use Rattle.std.specs.List.{prefix_len}
use Rattle.std.specs.Char.{is_ascii_digit}
use Rattle.lj_fixed.proofs.Answered.{short_number, digits_end, is_short_number-yes}
use Rattle.lj_fixed.proofs.decimal_words.read_short_number.Goals as goal

pub returns-then-count-digits-clause-value : goal.returns-then-count-digits-clause-value
returns-then-count-digits-clause-value c =
    let less : prefix_len is_ascii_digit c.args.digits.now < length c.args.digits.now = omega arith in
    sym (cond-false _ _ _ (and_right _ _ (digits_end c.args.digits.now less)))

pub overflow_cast-result : goal.overflow_cast-result
overflow_cast-result c =
    let read =
    short_number c.args.digits.now _ _ _ c.read_on-count.ensures.count c.if-count-digits.false
    c.if-digits-gt-MAX_EXPONENT_DIGITS.false (c.read_on-count.ensures.number 0 c.zero.ensures.number) in
    omega (arith, read.small)

pub returns-clause-value : goal.returns-clause-value
returns-clause-value c =
    let read =
    short_number c.args.digits.now _ _ _ c.read_on-count.ensures.count c.if-count-digits.false
    c.if-digits-gt-MAX_EXPONENT_DIGITS.false (c.read_on-count.ensures.number 0 c.zero.ensures.number) in
    let filled = eqb-false (length c.args.digits.now) 0 (sym c.if-is_empty.ensures) in
    let some : 0 < length c.args.digits.now = omega arith in
    ap Some read.value ∙ sym (cond-true _ _ _ (is_short_number-yes c.args.digits.now some
    c.if-digits-gt-MAX_EXPONENT_DIGITS.false read.digits))

pub returns-clause-short : goal.returns-clause-short
returns-clause-short c =
    let read =
    short_number c.args.digits.now _ _ _ c.read_on-count.ensures.count c.if-count-digits.false
    c.if-digits-gt-MAX_EXPONENT_DIGITS.false (c.read_on-count.ensures.number 0 c.zero.ensures.number) in
    read.small
