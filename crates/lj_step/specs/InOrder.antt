-- A step whose tiles come in one after the other, in the order of its cover.
use Rattle.std.specs.Prelude.{◌≡◌, ◌-◌, ◌<◌, ◌≤◌, ℕ, Bool, true, false, List, length, count_by, slice_index_or, Option}
use Rattle.std.specs.Prelude.{Some}
use Rattle.lj_ring.specs.declared.coordinates.Place.{Place}
use Rattle.lj_task.specs.Species.{Composition}
use Rattle.lj_task.specs.declared.task_name.Kind.{Kind}
use Rattle.lj_step.specs.Sim.{OpenStep}
use Rattle.lj_step.specs.OpenSteps.{cover}

-- a step of a kind is open, the first i tiles of its cover are in, and the others are awaited
pub record AwaitsFrom (kind : Kind) (u : Composition) (frame : List Place) (i : ℕ) (part : Option OpenStep) : Type 0 where
  pub flags : List Bool
  pub is_open : part ≡ Some (record { kind = kind; awaited = flags })
  pub waiting : (k : ℕ) → i ≤ k → k < length (cover u frame)
      → slice_index_or flags (slice_index_or (cover u frame) k 0) false ≡ true
  pub left : count_by (λ awaited. awaited) flags ≡ length (cover u frame) - i
