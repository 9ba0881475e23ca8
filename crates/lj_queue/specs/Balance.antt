-- The rule of a queue of open tasks: each task that was pushed was popped or is still in the queue, as often as it was pushed.
use Rattle.std.specs.Prelude.{◌≡◌, ℕ, ◌+◌, ◌^◌, List, [], ◌∷◌, ◌++◌}
use Rattle.std.specs.List.{sum_by}
use mathlib.Core.Option.{some}
use lib.ListN.{get_elem?}
use Rattle.lj_queue.specs.declared.open_task.OpenTask.{OpenTask}
use Rattle.lj_queue.specs.declared.rule.PassHistory.{PassHistory}

-- the parts of all passes together
abbrev pub all_parts : ℕ
all_parts = 2 ^ 65

-- the history of a pass: its parts, and what it pushed and popped
abbrev pub history_of : ℕ → List OpenTask → List OpenTask → PassHistory
history_of parts pushed popped = record { parts = parts; pushed = pushed; popped = popped }

-- one more open task was pushed
abbrev pub with_pushed : PassHistory → OpenTask → PassHistory
with_pushed v ticket = history_of v.parts (v.pushed ++ ticket ∷ []) v.popped

-- one more open task was popped
abbrev pub with_popped : PassHistory → OpenTask → PassHistory
with_popped v ticket = history_of v.parts v.pushed (v.popped ++ ticket ∷ [])

-- two histories as one: their parts added, the lists of the second behind those of the first
abbrev pub joined_history : PassHistory → PassHistory → PassHistory
joined_history v w = history_of (v.parts + w.parts) (v.pushed ++ w.pushed) (v.popped ++ w.popped)

-- the pushed tasks are those popped together with these, each as often: for every weight the sums agree
abbrev pub LeavesTasks : List OpenTask → List OpenTask → List OpenTask → Type 0
LeavesTasks pushed popped tickets = (h : OpenTask → ℕ) → sum_by h pushed ≡ sum_by h popped + sum_by h tickets

-- a pass without parts has pushed and popped nothing
abbrev pub IdleIsEmpty : List PassHistory → Type 0
IdleIsEmpty views =
    (port : ℕ) (v : PassHistory) → get_elem? views port ≡ some v → v.parts ≡ 0 → (v.pushed ≡ []) × (v.popped ≡ [])

-- What all passes pushed is what they popped together with what the queue holds.
pub record Balanced (tickets : List OpenTask) (views : List PassHistory) : Type 0 where
  pub parts : sum_by (λ v. v.parts) views ≡ all_parts
  pub leaves :
      (h : OpenTask → ℕ)
      → sum_by (λ v. sum_by h v.pushed) views ≡ sum_by (λ v. sum_by h v.popped) views + sum_by h tickets
  pub idle : IdleIsEmpty views
