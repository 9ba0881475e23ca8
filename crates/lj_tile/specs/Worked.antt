-- Worked examples of rows: two atoms 1.5 sigma apart in a box of 256 sigma, as one block.
use Rattle.std.specs.Prelude.{◌≡◌, refl}
use Rattle.lj_table.specs.Entries.{push_entry}
use Rattle.lj_task.specs.declared.task_name.Kind.TheVariants.{Force}
use Rattle.lj_task.specs.Pushes.{push}
use Rattle.lj_task.specs.Worked.{both, task_of}
use Rattle.lj_tile.specs.Rows.{sum_on_first, sum_on_second}

-- sums over the pairs i < j: in one block those of an atom with the later ones, and with the earlier ones
pub row_left : sum_on_first (task_of Force 0 0 both both) 0 2 ≡ record { x = 589; y = 0; z = 0 }
unfolding push push_entry
row_left = refl

pub row_right : sum_on_second (task_of Force 0 0 both both) 1 2 ≡ record { x = 4294966707; y = 0; z = 0 }
unfolding push push_entry
row_right = refl

pub row_right_later : sum_on_first (task_of Force 0 0 both both) 1 2 ≡ record { x = 0; y = 0; z = 0 }
unfolding push push_entry
row_right_later = refl
