-- What was read from left to right is what the cuts of the grammar give.
use Rattle.std.proofs.Common.{ℕ, ◌<◌, List, length, subst, sym, ◌∙◌, ap, arith, rules, FitsSigned, w32}
use Rattle.std.proofs.lemmas.Int.{to_z-of_z}
use Rattle.std.specs.Str.Parse.{digits_value, without_leading_sign}
use Rattle.lj_fixed.specs.WordParts.{Leads, fraction_of, tail_of}
use Rattle.lj_fixed.proofs.Grammar.{read_digits, decimal_of-long, decimal_of-empty}
use Rattle.lj_fixed.proofs.Answered.{Exponent, decimal_of-no_exponent, decimal_of-exponent}
use Rattle.lj_fixed.proofs.decimal_words.Numeral.read.Goals as goal

pub returns-then-word-gt-MAX_WORD_BYTES : goal.returns-then-word-gt-MAX_WORD_BYTES
returns-then-word-gt-MAX_WORD_BYTES c = rw (decimal_of-long c.args.word.now c.if-word-gt-MAX_WORD_BYTES.true) tt

pub returns-then-mantissa-eq0 : goal.returns-then-mantissa-eq0
returns-then-mantissa-eq0 c =
    let count =
    c.read_mantissa-mantissa.ensures.count ∙ ap (λ (ys : List ℕ). length (read_digits ys))
    c.split_sign-negative.ensures.rest in
    rw (decimal_of-empty c.args.word.now (sym count ∙ c.if-mantissa-eq0.true)) tt

pub returns-in_err-exponent : goal.returns-in_err-exponent
returns-in_err-exponent c =
    let rest = c.split_sign-negative.ensures.rest in
    let count = c.read_mantissa-mantissa.ensures.count ∙ ap (λ (ys : List ℕ). length (read_digits ys)) rest in
    let some : 0 < length (read_digits (without_leading_sign c.args.word.now)) = omega arith in
    let tail = c.read_mantissa-mantissa.ensures.tail ∙ ap tail_of rest in
    rw (
      c.from_residual.ensures,
      decimal_of-no_exponent c.args.word.now c.if-word-gt-MAX_WORD_BYTES.false some
          (c.in_err-exponent.ensures.value ∙ ap Exponent tail),
    ) tt

pub returns : goal.returns
returns c =
    let rest = c.split_sign-negative.ensures.rest in
    let count = c.read_mantissa-mantissa.ensures.count ∙ ap (λ (ys : List ℕ). length (read_digits ys)) rest in
    let some : 0 < length (read_digits (without_leading_sign c.args.word.now)) = omega arith in
    let tail = c.read_mantissa-mantissa.ensures.tail ∙ ap tail_of rest in
    let fits : FitsSigned w32 c.in_ok-exponent.exponent = search rules in
    let number : ℕ = c.read_mantissa-mantissa.result.significand.number in
    let dropped : ℕ = c.read_mantissa-mantissa.result.significand.dropped in
    rw (decimal_of-exponent c.args.word.now c.in_ok-exponent.exponent c.if-word-gt-MAX_WORD_BYTES.false some
    (c.in_ok-exponent.ensures.value ∙ ap Exponent tail))
    record {
      negative = c.split_sign-negative.ensures.negative;
      digits = subst (λ (ys : List ℕ). Leads number dropped (digits_value 10 (read_digits ys)))
          rest c.read_mantissa-mantissa.ensures.number;
      behind = c.read_mantissa-mantissa.ensures.behind ∙ ap (λ (ys : List ℕ). length (fraction_of ys)) rest;
      exponent = to_z-of_z w32 c.in_ok-exponent.exponent fits;
    }
