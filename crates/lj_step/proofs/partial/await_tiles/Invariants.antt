use Rattle.std.proofs.Common.{◌≡◌, ◌<◌, ℕ, length, slice_index_or, false}
use Rattle.lj_step.specs.OpenSteps.{is_tile}
use Rattle.lj_step.proofs.partial.await_tiles.Given as goal

abbrev pub invariant-loop-number : goal.invariant-loop-number
invariant-loop-number l = record {
  same : length l.awaited.items ≡ length l.fn.awaited.items;
  done : (k : ℕ) → k < l.number → slice_index_or l.awaited.items k false ≡ is_tile l.atoms l.frame k;
}
