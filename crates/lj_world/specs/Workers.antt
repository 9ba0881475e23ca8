-- The transitions of a worker: for each event, when it is possible, and the view after it. A worker sees what it holds
-- and the book.
use Rattle.std.specs.Prelude.{◌≡◌, ℕ, true, false, Option, Some}
use Rattle.lj_task.specs.Task.{Task}
use Rattle.lj_book.specs.Book.{Book, Takes, Gives, HandsBack}
use Rattle.lj_world.specs.declared.event.WorkerEvent.{WorkerEvent}
use Rattle.lj_world.specs.declared.event.WorkerEvent.TheVariants.{Take, Compute, Give, HandBack}
use Rattle.lj_world.specs.Machine.{Worker}

-- what a worker sees: what it holds, if anything, and the book
pub record WorkerView : Type 0 where
  pub worker : Option Worker
  pub book : Book

abbrev pub worker_view : Option Worker → Book → WorkerView
worker_view worker book = record { worker = worker; book = book }

-- TAKE: some task is open. The worker holds it with its key, in place of what it held.
pub record TakesTask (old new : WorkerView) : Type 0 where
  pub key : ℕ
  pub work : Task
  pub takes : Takes old.book new.book key work
  pub next : new.worker ≡ Some (record { key = key; work = work; computed = false })

-- COMPUTE: the worker holds a task. It holds the result under the same key.
pub record ComputesTask (old new : WorkerView) : Type 0 where
  pub worker : Worker
  pub holds : old.worker ≡ Some worker
  pub task : worker.computed ≡ false
  pub next : new ≡ worker_view (Some (record worker { computed = true })) old.book

-- GIVE: the worker holds a result whose task is out under its key. The result stands there, and the worker keeps a
-- copy.
pub record GivesResult (old new : WorkerView) : Type 0 where
  pub worker : Worker
  pub holds : old.worker ≡ Some worker
  pub result : worker.computed ≡ true
  pub gives : Gives old.book new.book worker.key worker.work
  pub next : new.worker ≡ old.worker

-- HANDBACK: the worker holds a task, computed or not, that is out under its key. It is open again, and the worker keeps
-- a copy.
pub record HandsBackTask (old new : WorkerView) : Type 0 where
  pub worker : Worker
  pub holds : old.worker ≡ Some worker
  pub hands_back : HandsBack old.book new.book worker.key worker.work
  pub next : new.worker ≡ old.worker

-- The event is possible, and this is the view after it.
abbrev pub WorkerTransition : WorkerEvent → WorkerView → WorkerView → Type 0
WorkerTransition (Take pick) old new = TakesTask old new
WorkerTransition Compute old new = ComputesTask old new
WorkerTransition Give old new = GivesResult old new
WorkerTransition HandBack old new = HandsBackTask old new
