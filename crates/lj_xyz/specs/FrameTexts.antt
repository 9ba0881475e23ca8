-- The text of a frame, line by line, each without its line feed.
use Rattle.std.specs.Prelude.{ℕ, ℤ, List, ◌++◌, codes}
use Rattle.std.specs.Fmt.{decimal, signed_decimal}
use Rattle.lj_fixed.specs.Millionths.{millionths}

-- the number of atoms
abbrev pub count_text : ℕ → List ℕ
count_text atoms = decimal atoms

-- `step` and the number of the step
abbrev pub comment_text : ℤ → List ℕ
comment_text step = codes "step " ++ signed_decimal step

-- the symbol and three coordinates in millionths, one blank between
abbrev pub atom_text : List ℕ → ℕ → ℕ → ℕ → List ℕ
atom_text symbol x y z = symbol ++ codes " " ++ millionths x ++ codes " " ++ millionths y ++ codes " " ++ millionths z
