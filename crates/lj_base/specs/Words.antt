-- The words of a line.
use Rattle.std.specs.Prelude.{ℕ, Bool, ◌==◌, ◌||◌, nat_lt, List, length, filter}
use Rattle.std.specs.List.{slice_split}

-- space or tab, the only bytes between words
abbrev pub is_blank : ℕ → Bool
is_blank b = b == 32 || b == 9

-- a part between blanks that is not empty
abbrev pub is_word : List ℕ → Bool
is_word part = nat_lt 0 (length part)

-- the words of a line: the longest parts without a blank
unfoldable pub words_of : List ℕ → List (List ℕ)
words_of line = filter is_word (slice_split is_blank line)
