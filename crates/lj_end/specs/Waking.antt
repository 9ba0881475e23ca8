-- When ends that wait for results are woken, and how many workers that wait for tasks.
use Rattle.std.specs.Prelude.{◌%◌, ◌-◌, ◌/◌, ℕ, List, cond, max, min, nat_eq, nat_lt, slice_index_or, slice_set}
use Rattle.lj_end.specs.declared.waking.TheConstants.{RESULTS_AT_ONCE, WAIT_QUEUES}

-- the wait queue of a user
abbrev pub wait_queue_of : ℕ → ℕ
wait_queue_of user = user % WAIT_QUEUES

-- the number of further results of the user after which its wait queue is woken; 0 where none waits in it
abbrev pub due_at : List ℕ → ℕ → ℕ
due_at due user = slice_index_or due (wait_queue_of user) 0

-- with this number for the wait queue of the user, and every other one unchanged
abbrev pub with_due : List ℕ → ℕ → ℕ → List ℕ
with_due due user results = slice_set due (wait_queue_of user) results

-- the number of results after which an end is woken to which `owed` are owed: half of them, but no fewer than 16 or all
abbrev pub results_for : ℕ → ℕ
results_for owed = max (min owed (max (owed / 2) RESULTS_AT_ONCE)) 1

-- after an end, to which `owed` results are owed, began to wait in the wait queue of the user
abbrev pub with_waiting : List ℕ → ℕ → ℕ → List ℕ
with_waiting due user owed = with_due due user (cond (nat_eq (due_at due user) 0) (results_for owed) 1)

-- after a result was given to the user
abbrev pub with_given : List ℕ → ℕ → List ℕ
with_given due user = with_due due user (due_at due user - 1)

-- the number of tasks that no worker was woken for, if it has reached `least`; else 0
abbrev pub due_of : ℕ → ℕ → ℕ
due_of unsignalled least = cond (nat_lt unsignalled least) 0 unsignalled

-- how many of the idle workers are woken for so many tasks: one for one task, all for more
abbrev pub woken_for : ℕ → ℕ → ℕ
woken_for tasks idle = cond (nat_lt tasks 2) (min idle tasks) idle
