use Rattle.std.proofs.Common.{ℕ, ◌<◌}
use Rattle.lj_ring.specs.Ring.{IsOnRing}
use Rattle.lj_task.specs.Tiles.{place_at}
use Rattle.lj_tile.proofs.sums.read_each.Given as goal

abbrev pub invariant-loop-place : goal.invariant-loop-place
invariant-loop-place l = (k : ℕ) → k < l.place-index → IsOnRing (place_at l.places k)
