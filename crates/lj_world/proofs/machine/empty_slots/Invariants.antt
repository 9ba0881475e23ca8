use Rattle.std.proofs.Common.{◌≡◌, ◌≤◌, ◌-◌, None, replicate}
use Rattle.std.specs.Prelude.{vec_len}
use Rattle.lj_world.proofs.machine.empty_slots.Given as goal

abbrev pub invariant-loop-slots : goal.invariant-loop-slots
invariant-loop-slots g l = record {
  empty : l.slots.items ≡ replicate (vec_len l.slots) None;
  within : vec_len l.slots ≤ l.count;
}

abbrev pub decreases-loop-slots : goal.decreases-loop-slots
decreases-loop-slots g l = l.count - vec_len l.slots
