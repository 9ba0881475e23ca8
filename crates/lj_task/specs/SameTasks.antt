-- When two tasks are equal, by the equality of their parts.
use Rattle.std.specs.Prelude.{Bool}
use Rattle.std.specs.Cmp.{IsEquivalence, IsPartialEquivalence, and_equiv, on_equiv, partial_equiv_from_equiv}
use Rattle.std.specs.Ordering.{on, eq_of_both}
use Rattle.lj_ring.specs.contracts.mixes.MixPartialEq.TheImpl as mixes
use Rattle.lj_ring.specs.contracts.mixes.MixEq.TheImpl.Laws as mixes_laws
use Rattle.lj_task.specs.contracts.task_name.TaskNamePartialEq.TheImpl as names
use Rattle.lj_task.specs.contracts.task_name.TaskNameEq.TheImpl.Laws as names_laws
use Rattle.lj_task.specs.contracts.blocks.BlockPartialEq.TheImpl as blocks
use Rattle.lj_task.specs.contracts.blocks.BlockEq.TheImpl.Laws as blocks_laws
use Rattle.lj_task.specs.Task.{Task}

-- two tasks have equal names, mixtures and blocks
abbrev pub is_same_task : Task → Task → Bool
is_same_task =
    eq_of_both (eq_of_both (on (λ w. w.name) (names.ghosts).eq) (on (λ w. w.mix) (mixes.ghosts).eq))
    (eq_of_both (on (λ w. w.a) (blocks.ghosts).eq) (on (λ w. w.b) (blocks.ghosts).eq))

pub same_task_equiv : IsEquivalence is_same_task
same_task_equiv =
    and_equiv (and_equiv (on_equiv (λ w. w.name) names_laws.laws-law) (on_equiv (λ w. w.mix) mixes_laws.laws-law))
    (and_equiv (on_equiv (λ w. w.a) blocks_laws.laws-law) (on_equiv (λ w. w.b) blocks_laws.laws-law))

pub same_task_partial_equiv : IsPartialEquivalence is_same_task
same_task_partial_equiv = partial_equiv_from_equiv same_task_equiv
