-- An open step in the code that takes in the result of a task it awaits.
use Rattle.std.proofs.Common.{◌+◌, ◌/◌, ◌%◌, ◌^◌, ◌<◌, ◌≤◌, ◌≡◌, ◌+ℤ◌, unsigned_abs, Bool, true, false, List}
use Rattle.std.proofs.Common.{length, slice_index_or, slice_set, Option, Some, None, refl, sym, ap, ◌∙◌, subst, arith}
use Rattle.lj_base.specs.declared.names.Label.{Label}
use Rattle.lj_task.specs.declared.task_name.Kind.{Kind}
use Rattle.lj_task.specs.declared.task_name.Kind.TheVariants.{Energy}
use Rattle.lj_task.specs.Task.{Task, task_energy}
use Rattle.lj_step.specs.declared.partial.Partial.{Partial}
use Rattle.lj_step.specs.Sim.{Sim}
use Rattle.lj_step.specs.OpenSteps.{sites_of, tile_number_of, tile_task, IsAwaitedTaskIn, IsAwaitedTask}
use Rattle.lj_step.specs.Sums.{CanAdd, HasCapacity, HasAdded, IsOpen, IsPartial}
use Rattle.lj_step.specs.KeptSims.{open_step_of}
use Rattle.lj_step.proofs.Flags.{set_within}
use Rattle.lj_step.proofs.Accepted.{accepted_is, can_add}

-- the step that awaits a task, its flag, and the task
pub awaited_in : (live : Sim) (label : Label) (work : Task) (o : Option Kind) (flags : List Bool)
    → IsAwaitedTaskIn live label work (open_step_of o flags)
    → (kind : Kind) × (o ≡ Some kind) × (slice_index_or flags (tile_number_of work) false ≡ true)
    × (work ≡ tile_task live label kind (tile_number_of work))
awaited_in live label work None flags h = absurd h
awaited_in live label work (Some kind) flags h = (kind, refl, h.0, h.1)

pub awaited_at : (live now : Sim) (label : Label) (asked work : Task) (o : Option Kind) (flags : List Bool)
    → live ≡ now → live.part ≡ open_step_of o flags → asked ≡ work → IsAwaitedTask now label asked
    → (kind : Kind) × (o ≡ Some kind) × (slice_index_or flags (tile_number_of work) false ≡ true)
    × (work ≡ tile_task live label kind (tile_number_of work))
awaited_at live now label asked work o flags view part same h =
    let at_live : IsAwaitedTask live label asked = subst (λ v. IsAwaitedTask v label asked) (sym view) h in
    let at_work : IsAwaitedTask live label work = subst (λ w. IsAwaitedTask live label w) same at_live in
    awaited_in live label work o flags (subst (λ q. IsAwaitedTaskIn live label work q) part at_work)

-- the step that takes in an awaited task
module _ (live : Sim) (label : Label) (work : Task) (p : Partial) (few : length live.sim.cur ≤ 4096)
    (room : HasCapacity (length live.sim.cur) p) (before : IsPartial live.composition live.sim.cur p p.kind)
    (wanted : (kind : Kind) × (p.kind ≡ Some kind) × (slice_index_or p.awaited.items (tile_number_of work) false ≡ true)
    × (work ≡ tile_task live label kind (tile_number_of work))) where
  within : tile_number_of work < length p.awaited.items
  within = set_within p.awaited.items (tile_number_of work) wanted.2

  first_is : work.name.bi ≡ tile_number_of work / 64
  first_is = ap (λ (w : Task). w.name.bi) wanted.3

  second_is : work.name.bj ≡ tile_number_of work % 64
  second_is = ap (λ (w : Task). w.name.bj) wanted.3

  second_below : work.name.bj < 64
  second_below = omega (arith, second_is)

  first_block_is : work.a ≡ sites_of live.composition live.sim.cur work.name.bi
  first_block_is = ap (λ (w : Task). w.a) wanted.3 ∙ sym (ap (sites_of live.composition live.sim.cur) first_is)

  second_block_is : work.b ≡ sites_of live.composition live.sim.cur work.name.bj
  second_block_is = ap (λ (w : Task). w.b) wanted.3 ∙ sym (ap (sites_of live.composition live.sim.cur) second_is)

  opened : IsOpen live.composition live.sim.cur p wanted.0
  opened = subst (λ (o : Option Kind). IsPartial live.composition live.sim.cur p o) wanted.1 before

  pub accepts : CanAdd work p
  accepts =
      can_add live.composition live.sim.cur p p wanted.0 work few opened room (ap (λ (w : Task). w.mix) wanted.3)
      first_block_is second_block_is (ap (λ (w : Task). w.name.kind) wanted.3) second_below within wanted.2

  pub partial_after : (q : Partial) → q.kind ≡ p.kind → q.tiles.items ≡ p.tiles.items
      → q.awaited.items ≡ slice_set p.awaited.items (tile_number_of work) false → q.left + 1 ≡ p.left
      → HasAdded work p.pushes.items q.pushes.items
      → (work.name.kind ≡ Energy → q.energy ≡ p.energy +ℤ task_energy work)
      → unsigned_abs q.energy ≤ unsigned_abs p.energy + 2 ^ 63 → IsPartial live.composition live.sim.cur q q.kind
  partial_after q kind tiles flags less added energy size =
      subst (λ (o : Option Kind). IsPartial live.composition live.sim.cur q o) (sym (kind ∙ wanted.1))
      (accepted_is live.composition live.sim.cur p q wanted.0 work few opened room (ap (λ (w : Task). w.mix) wanted.3)
      first_block_is second_block_is (ap (λ (w : Task). w.name.kind) wanted.3) second_below within wanted.2
      tiles flags less added energy size)
