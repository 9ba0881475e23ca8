use Rattle.std.proofs.Common.{◌≡◌, ◌+◌, ◌≤◌, length}
use Rattle.std.specs.Prelude.{count_by, is_some}
use Rattle.lj_lock.specs.declared.end_boxes.TheConstants.{MAX_SPARE}
use Rattle.lj_lock.proofs.end_boxes.EndBoxes.take_back.Given as goal

abbrev pub invariant-loop-place : goal.invariant-loop-place
invariant-loop-place l = record {
  last : l.self.last ≡ l.fn.self.last;
  hand : l.self.hand ≡ l.fn.self.hand;
  took_all : l.self.took_all ≡ l.fn.self.took_all;
  spare : l.self.spare + count_by is_some l.left.items ≡ l.fn.self.spare + count_by is_some l.fn.copies.items;
  places : length l.self.hand + l.self.spare + length l.left.items ≤ MAX_SPARE;
}

abbrev pub decreases-loop-place : goal.decreases-loop-place
decreases-loop-place l = length l.left.items
