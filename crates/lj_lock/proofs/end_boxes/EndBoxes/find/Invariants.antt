use Rattle.std.specs.Prelude.{◌≡◌, ◌≢◌, ◌<◌, ℕ, length, slice_index_or}
use Rattle.lj_task.specs.Blank.{blank_task}
use Rattle.lj_book.specs.Book.{user_of_task}
use Rattle.lj_lock.proofs.end_boxes.EndBoxes.find.Given as goal

abbrev pub invariant-loop-here : goal.invariant-loop-here
invariant-loop-here l = record {
  end : l.here-end ≡ length l.self.hand;
  before : (k : ℕ) → k < l.here → user_of_task (slice_index_or l.self.hand k blank_task) ≢ l.user;
}
