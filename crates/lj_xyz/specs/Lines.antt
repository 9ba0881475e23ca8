-- The lines of a text.
use Rattle.std.specs.Prelude.{ℕ, Bool, ◌==◌, List, [], ◌∷◌, map, if◌then◌else◌}
use Rattle.std.specs.List.{slice_split}
use Rattle.std.specs.Str.Lines.{strip_carriage_return}
use Rattle.lj_base.specs.Words.{is_word}

-- the line feed, which ends a line
abbrev pub is_line_feed : ℕ → Bool
is_line_feed b = b == 10

-- the parts, without an empty last one
abbrev pub but_empty_last : List (List ℕ) → List (List ℕ)
but_empty_last [] = []
but_empty_last (part ∷ []) = if is_word part then part ∷ [] else []
but_empty_last (part ∷ next ∷ parts) = part ∷ but_empty_last (next ∷ parts)

-- The lines of a text: the parts between line feeds, each without one carriage return at its end. The text after the
-- last line feed is a line if it is not empty.
unfoldable pub lines_of : List ℕ → List (List ℕ)
lines_of text = map strip_carriage_return (but_empty_last (slice_split is_line_feed text))
