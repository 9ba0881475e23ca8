use Rattle.std.proofs.Common.{◌≡◌, map, vec_capacity}
use Rattle.std.specs.List.{range_with_len}
use Rattle.lj_step.specs.KeptSims.{block_arcs}
use Rattle.lj_step.proofs.partial.list_arcs.Given as goal

abbrev pub invariant-loop-index : goal.invariant-loop-index
invariant-loop-index l = record {
  arcs : l.arcs.items ≡ map (block_arcs l.frame) (range_with_len 0 l.index);
  room : vec_capacity l.arcs ≡ vec_capacity l.fn.arcs;
}
