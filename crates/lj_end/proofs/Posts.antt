-- Several tasks posted one after the other: what is owed then.
use Rattle.std.proofs.Common.{◌≡◌, ℕ, ◌+◌, ◌<◌, ◌≤◌, List, [], ◌∷◌, ◌++◌, length, take, get_or}
use Rattle.std.proofs.Common.{refl, sym, ap, ◌∙◌, arith}
use Rattle.std.proofs.lemmas.List.{append-nil, append_assoc, length-append, length-take-le, take_more}
use Rattle.lj_task.specs.Blank.{blank_task}
use Rattle.lj_task.specs.Task.{Task}
use Rattle.lj_end.specs.Seen.{ArePosted, IsPosted, Seen}

-- no task is posted, and then one more
pub posted_none : (tasks : List Task) (seen : Seen) → ArePosted (take 0 tasks) seen seen
posted_none tasks seen = record { owed = sym (append-nil seen.owed); expected = refl; strays = refl }

pub posted_more : (tasks : List Task) (k : ℕ) (work : Task) (a b c : Seen) → k < length tasks → work ≡ get_or tasks k blank_task
    → ArePosted (take k tasks) a b → IsPosted work b c → ArePosted (take (k + 1) tasks) a c
posted_more tasks k work a b c inside read before posted = record {
  owed = posted.owed ∙ ap (λ front. front ++ work ∷ []) before.owed ∙ append_assoc a.owed (take k tasks) (work ∷ [])
      ∙ ap (λ x. a.owed ++ (take k tasks ++ x ∷ [])) read ∙ ap (λ l. a.owed ++ l) (sym (take_more tasks k blank_task inside));
  expected = posted.expected ∙ before.expected;
  strays = posted.strays ∙ before.strays;
}

-- how many are owed then
pub owed_then : (tasks : List Task) (k : ℕ) (a b : Seen) → k ≤ length tasks → ArePosted (take k tasks) a b
    → length b.owed ≡ length a.owed + k
owed_then tasks k a b inside posted =
    ap length posted.owed ∙ length-append a.owed (take k tasks) ∙ ap (λ n. length a.owed + n) (length-take-le k tasks inside)
