-- An exponent that is not below zero moves the point up.
use Rattle.std.proofs.Common.{◌≡◌, ◌≤ℤ◌, ◌∙◌, ap, arith, rules, pos, FitsSigned, w32, ℕ, ◌+◌, ◌*◌, ◌^◌}
use Rattle.std.proofs.lemmas.Int.{ints, to_z-of_z}
use Rattle.std.specs.Prelude.{nat_abs}
use Rattle.lj_fixed.specs.Decimal.{rounded_quotient}
use Rattle.lj_fixed.specs.WordParts.{number_within_limit}
use Rattle.lj_fixed.proofs.Answered.{size_up}
use Rattle.lj_fixed.proofs.decimal_words.Numeral.nano_size.Goals as goal

pub returns-else-self-lt0 : goal.returns-else-self-lt0
returns-else-self-lt0 c d h =
    let fits : FitsSigned w32 c.args.self.now.exponent = search rules in
    let same = to_z-of_z w32 c.args.self.now.exponent fits in
    let places : c.unsigned_abs-places.result ≡ nat_abs d.exponent =
    c.unsigned_abs-places.ensures.value ∙ ap nat_abs (same ∙ h.exponent) in
    let low : pos 0 ≤ℤ d.exponent = grind (arith, ints) in
    c.scaled-else-self-lt0.ensures d.digits h.digits
    ∙ ap number_within_limit (ap (λ (k : ℕ). rounded_quotient (d.digits * 10 ^ (k + 9)) (10 ^ c.args.self.now.behind)) places
    ∙ ap (λ (k : ℕ). rounded_quotient (d.digits * 10 ^ (nat_abs d.exponent + 9)) (10 ^ k)) h.behind
    ∙ size_up d.digits d.behind d.exponent low)
