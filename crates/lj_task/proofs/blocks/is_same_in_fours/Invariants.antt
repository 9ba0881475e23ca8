use Rattle.std.specs.Prelude.{◌≡◌, ◌*◌, ◌&&◌, drop}
use Rattle.lj_task.specs.Block.{are_same_places, has_none}
use Rattle.lj_task.proofs.blocks.is_same_in_fours.Given as goal

abbrev pub invariant-loop-group : goal.invariant-loop-group
invariant-loop-group l =
    (has_none l.differences && are_same_places (drop (4 * l.group) l.a) (drop (4 * l.group) l.b)) ≡ are_same_places l.a l.b
