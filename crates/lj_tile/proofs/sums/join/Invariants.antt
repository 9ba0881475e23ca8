use Rattle.std.proofs.Common.{◌≡◌, ◌≤◌, ◌<◌, ℕ, length, slice_index_or}
use Rattle.lj_task.specs.Pushes.{no_push, sum_of_pushes}
use Rattle.lj_tile.proofs.sums.join.Given as goal

abbrev pub invariant-loop-t : goal.invariant-loop-t
invariant-loop-t l = record {
  room : length l.sums.first ≡ 64;
  done : (k : ℕ) → k < l.t
      → slice_index_or l.sums.first k no_push
      ≡ sum_of_pushes (slice_index_or l.fn.sums.first k no_push) (slice_index_or l.fn.sums.second k no_push);
  rest : (k : ℕ) → l.t ≤ k → slice_index_or l.sums.first k no_push ≡ slice_index_or l.fn.sums.first k no_push;
  second : l.sums.second ≡ l.fn.sums.second;
}
