-- What all passes of a pool pushed and popped.
use Rattle.std.specs.Prelude.{◌≡◌, ℕ, ◌+◌, ◌*◌, ◌^◌, ◌<◌, ◌≤◌, List, length}
use Rattle.std.specs.List.{sum_by}
use Rattle.lj_queue.specs.declared.open_task.OpenTask.{OpenTask}
use Rattle.atomic_table.specs.Seated.{TableId}
use Rattle.crossbeam_queue.specs.Passes.{Pass, view}
use Rattle.lj_queue.specs.declared.rule.PassHistory.{PassHistory}
use Rattle.lj_queue.specs.Balance.{all_parts}
use Rattle.lj_queue.specs.PoolPass.{IsOf, PoolPass}

-- the number of tasks that the passes pushed
abbrev pub pushes_of : List PoolPass → ℕ
pushes_of passes = sum_by (λ pass. length pass.pushed) passes

-- the number of tasks that the passes popped
abbrev pub pops_of : List PoolPass → ℕ
pops_of passes = sum_by (λ pass. length pass.popped) passes

-- The tasks that the passes pushed are those that they popped together with `left` others, each as often: for every weight the
-- sums agree.
pub record LeavesOf (passes : List PoolPass) (left : ℕ) : Type 0 where
  pub tickets : List OpenTask
  pub are_left : length tickets ≡ left
  pub same :
      (h : OpenTask → ℕ)
      → sum_by (λ pass. sum_by h pass.pushed) passes
      ≡ sum_by (λ pass. sum_by h pass.popped) passes + sum_by h tickets

-- One pass takes in all passes, one after the other: those in `rest` are still to come, and the others pushed `pushed` tasks and
-- popped `popped`.
pub record GathersPasses (table : TableId) (count : ℕ) (all rest : List PoolPass) (into : Pass OpenTask PassHistory) (pushed popped : ℕ)
    : Type 0 where
  pub is_of : IsOf table into
  pub most : count < 2 ^ 64
  pub parts : (view into).parts + length rest ≡ all_parts
  pub pushed_is : pushed + pushes_of rest ≡ pushes_of all
  pub popped_is : popped + pops_of rest ≡ pops_of all
  pub pushed_all : pushed ≡ length (view into).pushed
  pub popped_all : popped ≡ length (view into).popped
  pub pushed_most : pushed + length rest * 2 ^ 64 ≤ count * 2 ^ 64
  pub popped_most : popped + length rest * 2 ^ 64 ≤ count * 2 ^ 64
  pub pushed_weight :
      (h : OpenTask → ℕ)
      → sum_by h (view into).pushed + sum_by (λ pass. sum_by h pass.pushed) rest
      ≡ sum_by (λ pass. sum_by h pass.pushed) all
  pub popped_weight :
      (h : OpenTask → ℕ)
      → sum_by h (view into).popped + sum_by (λ pass. sum_by h pass.popped) rest
      ≡ sum_by (λ pass. sum_by h pass.popped) all
