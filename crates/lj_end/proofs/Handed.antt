-- A result that was taken and then counted.
use Rattle.std.proofs.Common.{sym, ap, ◌∙◌, subst, inl, inr}
use Rattle.std.specs.List.{Contains}
use Rattle.lj_task.specs.Task.{Task}
use Rattle.lj_end.specs.Seen.{IsHandedOut, SameOwed, Seen, one_more}

-- what is handed out after nothing has changed is handed out
pub handed_after : (task : Task) (old mid new : Seen) → SameOwed old mid → IsHandedOut task mid new → IsHandedOut task old new
handed_after task old mid new same (inl taken) = inl (record {
  front = taken.front;
  behind = taken.behind;
  was = sym same.owed ∙ taken.was;
  first = taken.first;
  owed = taken.owed;
  expected = taken.expected ∙ ap one_more same.expected;
  strays = taken.strays ∙ same.strays;
})
handed_after task old mid new same (inr stray) = inr (record {
  absent = λ has. stray.absent (subst (λ owed. Contains owed task) (sym same.owed) has);
  owed = stray.owed ∙ same.owed;
  expected = stray.expected ∙ same.expected;
  strays = stray.strays ∙ ap one_more same.strays;
})
