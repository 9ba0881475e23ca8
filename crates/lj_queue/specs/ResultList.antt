-- The list of a user's results.
use Rattle.std.specs.Prelude.{◌≡◌, ℕ, ◌≤◌, ◌<◌, Bool, true, false, length, List, [], ◌∷◌, ◌++◌}
use Rattle.std.specs.List.{All}
use Rattle.std.specs.Global.{Global}
use Rattle.std.specs.VecDeque.{deque_len, deque_capacity}
use Rattle.std.specs.declared.collections.VecDeque.{VecDeque}
use Rattle.lj_task.specs.Task.{Task}
use Rattle.lj_queue.specs.declared.result_list.TheConstants.{MAX_RESULTS}

-- a user, and the tasks of the results kept for the user, in the order in which they are fetched
pub record ResultList : Type 0 where
  pub user : ℕ
  pub results : List Task

-- no results, for a user
abbrev pub empty_list : ℕ → ResultList
empty_list user = record { user = user; results = [] }

-- with one more result behind the others
abbrev pub with_last : ResultList → Task → ResultList
with_last kept done = record { user = kept.user; results = kept.results ++ done ∷ [] }

-- with a result in front of the others
abbrev pub with_first : Task → ResultList → ResultList
with_first done kept = record { user = kept.user; results = done ∷ kept.results }

-- The results are of this user, at most `MAX_RESULTS`, and the deque has memory for all.
pub record HasPlaces (user : ℕ) (results : VecDeque Task Global) : Type 0 where
  pub most : deque_len results ≤ MAX_RESULTS
  pub places : MAX_RESULTS ≤ deque_capacity results
  pub whose : All (λ done. done.name.label.user ≡ user) results.items

-- Where results of this user were fetched, there are some in the list; else it is as it was.
pub record FetchesResults (user : ℕ) (fetched : Bool) (old new : ResultList) : Type 0 where
  pub whose : new.user ≡ user
  pub some : fetched ≡ true → 0 < length new.results
  pub stays_empty : fetched ≡ false → new ≡ old
