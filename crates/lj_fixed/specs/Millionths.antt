-- Millionths as they are printed.
use Rattle.std.specs.Prelude.{ℕ, zero, suc, ◌+◌, ◌/◌, ◌%◌, ◌^◌, List, [], ◌∷◌, ◌++◌}
use Rattle.std.specs.Fmt.{decimal}

-- the last k digits of n, zeros in front included
abbrev pub last_digits : ℕ → ℕ → List ℕ
last_digits zero n = []
last_digits (suc k) n = last_digits k (n / 10) ++ (48 + n % 10) ∷ []

-- n millionths: the whole part, a point and six decimals
unfoldable pub millionths : ℕ → List ℕ
millionths n = decimal (n / 10 ^ 6) ++ 46 ∷ last_digits 6 (n % 10 ^ 6)
