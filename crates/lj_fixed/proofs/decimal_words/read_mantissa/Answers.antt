-- The digits of the whole part and then those of the fraction are the digits of the text.
use Rattle.std.proofs.Common.{arith, subst, ℕ}
use Rattle.std.proofs.lemmas.List.{length-drop, length-take}
use Rattle.std.proofs.lemmas.List.Sums.{prefix_len-le-length}
use Rattle.std.specs.Char.{is_ascii_digit}
use Rattle.lj_fixed.specs.WordParts.{Leads}
use Rattle.lj_fixed.proofs.Answered.{read_digits-value}
use Rattle.lj_fixed.proofs.decimal_words.read_mantissa.Goals as goal

pub returns-clause-number : goal.returns-clause-number
returns-clause-number c =
    subst (λ (n : ℕ). Leads c.read_fraction-behind.result.0.number c.read_fraction-behind.result.0.dropped n)
    (read_digits-value c.args.text.now c.read_on-count.result.1 c.read_on-count.ensures.count)
    (c.read_fraction-behind.ensures.number _ (c.read_on-count.ensures.number 0 c.zero.ensures.number))

pub returns-clause-few_dropped : goal.returns-clause-few_dropped
returns-clause-few_dropped c =
    omega (arith, length-drop {A = ℕ}, length-take {A = ℕ}, prefix_len-le-length is_ascii_digit c.args.text.now)
