-- The state under the lock of a pool with a queue: for each user a list of results and the number of the present end.
use Rattle.std.specs.Prelude.{ℕ, ◌+◌, ◌%◌, Bool, false, List, replicate, slice_index_or, slice_set, Option, None}
use Rattle.lj_task.specs.Task.{Task}
use Rattle.lj_end.specs.declared.waking.TheConstants.{WAIT_QUEUES}
use Rattle.lj_queue.specs.ResultList.{ResultList, empty_list, with_last}
use Rattle.lj_queue.specs.declared.mailboxes.TheConstants.{USERS}

-- the list of results and the number of the present end in each mailbox, the number of the end that came last, how many results
-- were given, after how many more each wait queue is woken, and whether the pool is closed
pub record Mailboxes : Type 0 where
  pub lists : List ResultList
  pub present : List (Option ℕ)
  pub last : ℕ
  pub given : ℕ
  pub wait_queues : List ℕ
  pub closed : Bool

-- the mailbox of a user
abbrev pub mailbox_of : ℕ → ℕ
mailbox_of user = user % USERS

-- with another value in the mailbox of a user, and every other one unchanged
abbrev pub with_list : {X : Type 0} → List X → ℕ → X → List X
with_list places user own = slice_set places (mailbox_of user) own

-- the list in a user's mailbox
abbrev pub list_of : List ResultList → ℕ → ResultList
list_of lists user = slice_index_or lists (mailbox_of user) (empty_list user)

-- the number of the present end of a user's mailbox, if there is one
abbrev pub present_of : List (Option ℕ) → ℕ → Option ℕ
present_of present user = slice_index_or present (mailbox_of user) None

-- open mailboxes with these lists, where no end came, no result was given and none is waited for
abbrev pub new_mailboxes : List ResultList → Mailboxes
new_mailboxes lists = record {
  lists = lists;
  present = replicate USERS None;
  last = 0;
  given = 0;
  wait_queues = replicate WAIT_QUEUES 0;
  closed = false;
}

-- with an empty list in the user's mailbox
abbrev pub without_results : Mailboxes → ℕ → Mailboxes
without_results old user = record old { lists = with_list old.lists user (empty_list user) }

-- with an empty list and this present end, or none, in the user's mailbox
abbrev pub with_end : Mailboxes → ℕ → Option ℕ → Mailboxes
with_end old user end = record (without_results old user) { present = with_list old.present user end }

-- one more result was given, and kept in the user's mailbox behind the others
abbrev pub with_result : Mailboxes → ℕ → Task → Mailboxes
with_result old user done =
    record old { lists = with_list old.lists user (with_last (list_of old.lists user) done); given = old.given + 1 }
