-- Counts of errors and of calls, where they are kept: counters of 64 bits that saturate. And bytes that are held back.
use Rattle.std.specs.Prelude.{◌≡◌, ℕ, ◌+◌, ◌-◌, ◌^◌, min, max, Bool, true, List, [], ◌∷◌, Option, Some, None}

-- a count plus one, saturating at 2^64 - 1
abbrev pub next_count : ℕ → ℕ
next_count n = max n (min (n + 1) (2 ^ 64 - 1))

-- a count goes up by one, saturating; where none is kept, None stays None
abbrev pub Rises : Option ℕ → Option ℕ → Type 0
Rises None None = Unit {0}
Rises None (Some m) = ⊥
Rises (Some n) None = ⊥
Rises (Some n) (Some m) = m ≡ next_count n

-- bytes are held back in front of a sink, or may be in the sink
abbrev pub unflushed_or : List ℕ → Bool → Bool
unflushed_or [] unflushed = unflushed
unflushed_or (byte ∷ bytes) unflushed = true
