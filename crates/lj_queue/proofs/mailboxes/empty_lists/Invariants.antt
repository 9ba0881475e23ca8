use Rattle.std.specs.Prelude.{◌≡◌, [], vec_len}
use Rattle.std.specs.List.{All}
use Rattle.lj_queue.proofs.mailboxes.empty_lists.Given as goal

abbrev pub invariant-loop-user : goal.invariant-loop-user
invariant-loop-user l = record {
  count : vec_len l.lists ≡ l.user;
  empty : All (λ list. list.results ≡ []) l.lists.items;
}
