use Rattle.std.specs.Prelude.{◌≡◌, ◌≤◌, ◌&&◌, drop, length}
use Rattle.lj_task.specs.Block.{are_same_places}
use Rattle.lj_task.proofs.blocks.is_same_from.Given as goal

abbrev pub invariant-loop-i : goal.invariant-loop-i
invariant-loop-i l = record {
  end : l.i-end ≡ length l.a;
  within : l.i ≤ length l.a;
  told : (l.same && are_same_places (drop l.i l.a) (drop l.i l.b)) ≡ are_same_places (drop l.from l.a) (drop l.from l.b);
}
