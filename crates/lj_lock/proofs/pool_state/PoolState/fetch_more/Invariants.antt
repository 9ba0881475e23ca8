use Rattle.std.specs.Prelude.{◌≡◌, ◌+◌, ◌++◌, List, length}
use Rattle.std.specs.List.{All}
use Rattle.lj_task.specs.Task.{Task}
use Rattle.lj_book.specs.Book.{user_of_task}
use Rattle.lj_book.specs.Boxes.{boxes}
use Rattle.lj_lock.specs.PoolStates.{FetchesEach}
use Rattle.lj_lock.proofs.pool_state.PoolState.fetch_more.Given as goal

abbrev pub invariant-loop-in_hand : goal.invariant-loop-in_hand
invariant-loop-in_hand g l = record {
  in_hand : l._in_hand ≡ length l.own.hand;
  last : l.own.last ≡ l.fn.own.last;
  spare : l.own.spare ≡ l.fn.own.spare;
  took_all : l.own.took_all ≡ l.fn.own.took_all;
  others : (xs : List Task) × (l.own.hand ≡ l.fn.own.hand ++ xs) × FetchesEach xs l.fn.self.book.inner l.self-inside.book.inner
      × All (λ done. user_of_task done ≡ l.user) xs;
  kept : boxes l.self-inside.book + length l.own.hand ≡ boxes l.fn.self.book + length l.fn.own.hand;
  made : l.self-inside.book.made ≡ l.fn.self.book.made;
  next : l.self-inside.next ≡ l.fn.self.next;
  unsignalled : l.self-inside.unsignalled ≡ l.fn.self.unsignalled;
  idle : l.self-inside.idle ≡ l.fn.self.idle;
  wait_queues : l.self-inside.wait_queues ≡ l.fn.self.wait_queues;
  closed : l.self-inside.closed ≡ l.fn.self.closed;
  counted : l.self-inside.book.inner.given ≡ l.self-inside.results.total;
}
