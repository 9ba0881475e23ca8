use Rattle.std.specs.Prelude.{◌≡◌, ◌<◌, ℕ, false, length, slice_index_or}
use Rattle.std.specs.Fn.{FnReturnsAt}
use Rattle.lj_task.specs.Blank.{blank_task}
use Rattle.lj_end.specs.Accounts.{AnswersOf}
use Rattle.lj_end.proofs.account.Account.find.Given as goal

abbrev pub invariant-loop-here : goal.invariant-loop-here
invariant-loop-here g l = record {
  end : l.here-end ≡ length l.self.owed;
  before : (k : ℕ) → k < l.here → AnswersOf l.tile (FnReturnsAt g.F.Fn l.is_wanted) (slice_index_or l.self.owed k blank_task) false;
}
