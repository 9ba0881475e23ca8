-- How a parsed numeral stands for a decimal.
use Rattle.std.specs.Prelude.{◌≡◌, Option, Some, None}
use Rattle.lj_fixed.specs.Decimal.{Decimal}
use Rattle.lj_fixed.specs.WordParts.{Leads}
use Rattle.lj_fixed.specs.declared.decimal_words.Numeral.{Numeral}

-- the numeral has the parts of the decimal, except for dropped digits
pub record StandsFor (numeral : Numeral) (d : Decimal) : Type 0 where
  pub negative : numeral.negative ≡ d.negative
  pub digits : Leads numeral.significand.number numeral.significand.dropped d.digits
  pub behind : numeral.behind ≡ d.behind
  pub exponent : numeral.exponent ≡ d.exponent

-- the numeral stands for the decimal, or both are None
abbrev pub AreAlike : Option Numeral → Option Decimal → Type 0
AreAlike None None = Unit {0}
AreAlike (Some numeral) (Some d) = StandsFor numeral d
AreAlike None (Some d) = ⊥
AreAlike (Some numeral) None = ⊥
