-- The sums that a result stores.
use Rattle.std.specs.Prelude.{ℕ, ◌≡◌, ◌<◌, length, slice_index_or}
use Rattle.lj_task.specs.declared.task_name.Kind.TheVariants.{Force, Energy}
use Rattle.lj_task.specs.declared.results.Sums.{Sums}
use Rattle.lj_task.specs.Pushes.{no_push}
use Rattle.lj_task.specs.Task.{Task, IsTask, task_force, task_second, task_energy}

-- the sums are the value of the task: pushes for a force task, an energy for an energy task
pub record AreSums (w : Task) (sums : Sums) : Type 0 where
  pub sound : IsTask w
  pub first : w.name.kind ≡ Force → (t : ℕ) → t < length w.a.places
      → slice_index_or sums.pushes.first t no_push ≡ task_force w t
  pub second : w.name.kind ≡ Force → w.name.bi < w.name.bj → (s : ℕ) → s < length w.b.places
      → slice_index_or sums.pushes.second s no_push ≡ task_second w s
  pub sum : w.name.kind ≡ Energy → sums.energy ≡ task_energy w
