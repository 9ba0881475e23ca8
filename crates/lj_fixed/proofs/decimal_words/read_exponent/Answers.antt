-- Behind a letter stands the whole exponent.
use Rattle.std.proofs.Common.{sym, ◌∙◌}
use Rattle.lj_fixed.proofs.Answered.{exponent_behind}
use Rattle.lj_fixed.proofs.decimal_words.read_exponent.Goals as goal

pub returns-in-len1-up-clause-value : goal.returns-in-len1-up-clause-value
returns-in-len1-up-clause-value c = c.read_power.ensures.value
    ∙ exponent_behind c.args.tail.now c.in-len1-up.len_at_least (sym c.if-is_exponent_letter.ensures)
