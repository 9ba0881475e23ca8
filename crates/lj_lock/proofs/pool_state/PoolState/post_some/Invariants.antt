use Rattle.std.proofs.Common.{◌≡◌, ◌<◌, ◌≤◌, ℕ, None, length, get_or, take}
use Rattle.std.specs.Option.{ForSome}
use Rattle.lj_task.specs.Blank.{blank_task}
use Rattle.lj_lock.specs.PoolStates.{PostsEach}
use Rattle.lj_lock.specs.Copies.{HandsOver}
use Rattle.lj_lock.proofs.pool_state.PoolState.post_some.Given as goal

abbrev pub invariant-loop-here : goal.invariant-loop-here
invariant-loop-here g l = record {
  posts : PostsEach (take l.here l.tasks) l.fn.self.book l.self.book;
  copies : (k : ℕ) → l.here ≤ k → k < length l.tasks
      → ForSome (get_or l.copies.items k None) (λ copy. copy ≡ get_or l.tasks k blank_task);
  hands_over : HandsOver l.here l.fn.copies.items l.copies.items;
  stays : l.self ≡ record l.fn.self { book = l.self.book; unsignalled = l.self.unsignalled };
  unsignalled : 0 < l.here → 1 ≤ l.self.unsignalled;
}
