-- Frames, their blocks, and tasks whose blocks lie in one.
use Rattle.std.specs.Prelude.{ℕ, ◌+◌, ◌*◌, ◌≡◌, ◌≤◌, min, List, length, slice_range, Option, Some, None, option_map}
use Rattle.lj_ring.specs.declared.coordinates.Place.{Place}
use Rattle.lj_task.specs.declared.blocks.TheConstants.{BLOCK}
use Rattle.lj_task.specs.declared.task_name.TaskName.{TaskName}
use Rattle.lj_task.specs.declared.shared_frames.SharedBlocks.{SharedBlocks}
use Rattle.lj_ring.specs.Mix.{Mix}
use Rattle.lj_task.specs.Block.{Block}
use Rattle.lj_task.specs.Task.{Task, IsTask}

-- the places of a block of a frame
abbrev pub frame_block : List Place → ℕ → List Place
frame_block frame b = slice_range frame (BLOCK * b) (min (BLOCK * b + BLOCK) (length frame))

-- the first block of a task: its own, or block b of a frame that it shares
abbrev pub first_in : Option SharedBlocks → ℕ → Block → Block
first_in None b own = own
first_in (Some shared) b own = record { places = frame_block shared.frame b; species_bits = shared.first_species }

-- its second block
abbrev pub second_in : Option SharedBlocks → ℕ → Block → Block
second_in None b own = own
second_in (Some shared) b own = record { places = frame_block shared.frame b; species_bits = shared.second_species }

-- the blocks of a task lie in a frame
pub record IsIn (frame : List Place) (w : Task) : Type 0 where
  pub within_first : BLOCK * w.name.bi ≤ length frame
  pub within_second : BLOCK * w.name.bj ≤ length frame
  pub first : w.a.places ≡ frame_block frame w.name.bi
  pub second : w.b.places ≡ frame_block frame w.name.bj

-- the blocks of a task lie in the frame that it shares, if it shares one
abbrev pub IsInShared : Option (List Place) → Task → Type 0
IsInShared None w = Unit {0}
IsInShared (Some frame) w = IsIn frame w

-- the blocks of a task are these of a frame
pub record AreBlocksOf (shared : SharedBlocks) (w : Task) : Type 0 where
  pub lies : IsIn shared.frame w
  pub first_species : shared.first_species ≡ w.a.species_bits
  pub second_species : shared.second_species ≡ w.b.species_bits

-- a task by its parts
abbrev pub task_of_parts : TaskName → Mix → Option SharedBlocks → Block → Block → Task
task_of_parts name mix shared first second =
    record { name = name; mix = mix; a = first_in shared name.bi first; b = second_in shared name.bj second }

-- a task by reference is sound, and lies in the frame that it shares
pub record IsByRef (frame : Option (List Place)) (w : Task) : Type 0 where
  pub sound : IsTask w
  pub shared : IsInShared frame w

-- the parts of a task make one, which lies in the frame that it shares, and the two blocks that it keeps have 1 to 64 places
pub record IsKeptTask (name : TaskName) (mix : Mix) (shared : Option SharedBlocks) (first second : Block) : Type 0 where
  pub task : IsTask (task_of_parts name mix shared first second)
  pub lies : IsInShared (option_map (λ s. s.frame) shared) (task_of_parts name mix shared first second)
  pub some_first : 1 ≤ length first.places
  pub some_second : 1 ≤ length second.places
  pub most_first : length first.places ≤ BLOCK
  pub most_second : length second.places ≤ BLOCK
