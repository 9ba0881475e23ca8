use Rattle.std.proofs.Common.{◌≡◌, ◌≤◌, length, slice_index_or, vec_capacity, false}
use Rattle.std.specs.List.{range_with_len, filter}
use Rattle.lj_step.proofs.partial.list_tiles.Given as goal

abbrev pub invariant-loop-number : goal.invariant-loop-number
invariant-loop-number l = record {
  tiles : l.tiles.items ≡ filter (λ k. slice_index_or l.awaited k false) (range_with_len 0 l.number);
  few : length l.tiles.items ≤ l.number;
  room : vec_capacity l.tiles ≡ vec_capacity l.fn.tiles;
}
