use Rattle.std.proofs.Common.{ℕ, ◌<◌, slice_index_or}
use Rattle.lj_task.specs.Pushes.{no_push}
use Rattle.lj_tile.specs.Pairs.{IsPushOnRing}
use Rattle.lj_tile.proofs.sums.read_sums.Given as goal

abbrev pub invariant-loop-sum : goal.invariant-loop-sum
invariant-loop-sum l = (k : ℕ) → k < l.sum-index → IsPushOnRing (slice_index_or l.sums k no_push)
