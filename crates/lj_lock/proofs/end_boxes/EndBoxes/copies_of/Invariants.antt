use Rattle.std.proofs.Common.{◌≡◌, ◌+◌, ◌<◌, ◌≤◌, ℕ, Some, None, length, get_or}
use Rattle.lj_task.specs.Blank.{blank_task}
use Rattle.lj_lock.specs.declared.end_boxes.TheConstants.{MAX_SPARE}
use Rattle.lj_lock.proofs.end_boxes.EndBoxes.copies_of.Given as goal

abbrev pub invariant-loop-here : goal.invariant-loop-here
invariant-loop-here l = record {
  count : length l.copies.items ≡ l.here;
  each : (k : ℕ) → k < l.here → get_or l.copies.items k None ≡ Some (get_or l.tasks k blank_task);
  taken : l.fn.self ≡ record l.self { spare = l.self.spare + l.here };
  places : length l.self.hand + l.self.spare + l.here ≤ MAX_SPARE;
}
