-- One connection's end of a pool.
use Rattle.std.specs.Prelude.{Bool, false}
use Rattle.lj_end.specs.Seen.{Seen, nothing_seen}

-- what an end has of its pool, what the end has seen, and whether the result that it shows was taken, and is not counted yet
pub record LinkedEnd (X : Type 0) : Type 0 where
  pub link : X
  pub seen : Seen
  pub uncounted : Bool

-- an end over this link, to which nothing is owed
abbrev pub end_over : {X : Type 0} → X → LinkedEnd X
end_over link = record { link = link; seen = nothing_seen; uncounted = false }
