-- The limits of a pool with a queue: its open tasks, the results that it keeps, and its ends.
use Rattle.std.specs.Prelude.{◌≡◌, refl}
use Rattle.lj_book.specs.declared.book_entry.TheConstants.{MAX_ENTRIES}
use Rattle.lj_end.specs.declared.pool.TheConstants.{MAX_ENDS, MAX_OWED}
use Rattle.lj_end.specs.declared.waking.TheConstants.{WAIT_QUEUES}
use Rattle.lj_queue.specs.declared.mailboxes.TheConstants.{USERS}
use Rattle.lj_queue.specs.declared.result_list.TheConstants.{MAX_RESULTS}
use Rattle.lj_queue.specs.declared.queue_pool.TheConstants.{CONNECTIONS, MAX_OPEN_TASKS}

-- as many tasks are open at once as a book has entries
most_open : MAX_OPEN_TASKS ≡ MAX_ENTRIES
most_open = refl

-- as many results of a user are kept as tasks may be owed to an end
most_results : MAX_RESULTS ≡ MAX_OWED
most_results = refl

-- as many connections have an end at once as a pool behind a lock has boxes for
connections : CONNECTIONS ≡ MAX_ENDS
connections = refl

-- results are kept in a mailbox for each wait queue
users_apart : USERS ≡ WAIT_QUEUES
users_apart = refl
