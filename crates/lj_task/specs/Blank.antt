-- A task that is made to be overwritten.
use Rattle.std.specs.Prelude.{[], ◌∷◌, pos}
use Rattle.lj_ring.specs.Mix.{pure_mix}
use Rattle.lj_ring.specs.Scale.{least_scale}
use Rattle.lj_task.specs.declared.task_name.Kind.TheVariants.{Energy}
use Rattle.lj_task.specs.Block.{Block}
use Rattle.lj_base.specs.Names.{blank_name}
use Rattle.lj_task.specs.Task.{Task}

-- one atom of the first species, in the corner of the box
abbrev pub one_atom : Block
one_atom = record { places = (record { x = 0; y = 0; z = 0 }) ∷ []; species_bits = 0 }

-- the energy task of one atom in the greatest box
abbrev pub blank_task : Task
blank_task = record {
  name = record { label = record { user = 0; session = blank_name }; step = pos 0; kind = Energy; bi = 0; bj = 0 };
  mix = pure_mix least_scale;
  a = one_atom;
  b = one_atom;
}
