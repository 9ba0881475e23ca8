-- Words of a line, worked out.
use Rattle.std.specs.Prelude.{◌≡◌, [], ◌∷◌, codes, refl}
use Rattle.lj_base.specs.Words.{words_of}

-- only space and tab are blanks, and the vertical tab is not
words_of_line : words_of (codes " \tNa  1\u{b}2\t") ≡ codes "Na" ∷ codes "1\u{b}2" ∷ []
unfolding words_of
words_of_line = refl
