-- Lists of tasks that are posted together.
use Rattle.std.specs.Prelude.{◌≡◌, ◌≤◌, List, Option, true, is_some, length, unwrap_or}
use Rattle.std.specs.List.{All}
use Rattle.lj_task.specs.Blank.{blank_task}
use Rattle.lj_task.specs.Task.{Task}
use Rattle.lj_end.specs.declared.pool.TheConstants.{MAX_POSTS}

-- the task in a place, blank where there is none
abbrev pub task_in : Option Task → Task
task_in place = unwrap_or place blank_task

-- each place has a task
pub record AreThere (places : List (Option Task)) : Type 0 where
  pub some : All (λ place. is_some place ≡ true) places
  pub few : length places ≤ MAX_POSTS
