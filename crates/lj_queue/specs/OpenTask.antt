-- Open tasks.
use Rattle.std.specs.Prelude.{ℕ}
use Rattle.lj_task.specs.Task.{Task}

-- a task, with the number of the end that posted it and that end's user
pub record OpenTask : Type 0 where
  pub end : ℕ
  pub user : ℕ
  pub task : Task
