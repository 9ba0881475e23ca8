-- The tile that is read at the i-th place, and the task made of it.
use Rattle.std.proofs.Common.{◌≡◌, ◌<◌, ◌*◌, ap, ◌∙◌, refl, Some, length, true}
use Rattle.lj_step.specs.Sim.{Sim, OpenStep}
use Rattle.lj_step.specs.KeptSims.{sim_of}
use Rattle.lj_step.specs.OpenSteps.{is_tile, blocks, cover}
use Rattle.lj_step.proofs.Steps.{tile_found, task_found, step_part}
use Rattle.lj_step.proofs.TileValues.{open_value}
use Rattle.std.specs.Prelude.{slice_get}
use Rattle.lj_step.proofs.simulations.Sim.task_ref.Goals.{In-Some-get}
use Rattle.lj_step.proofs.simulations.Sim.task_ref.Goals as goal

-- the tile is one of the cover
found : (c : In-Some-get) → (is_tile c.args.self.now.composition c.args.self.now.sim.cur c.in-Some-get.tile.now ≡ true)
    × (c.in-Some-get.tile.now < 64 * blocks (length c.args.self.now.sim.cur))
    × (slice_get (cover c.args.self.now.composition c.args.self.now.sim.cur) c.args.i ≡ Some c.in-Some-get.tile.now)
found c =
    let a = c.self.inside in
    let read = c.in-Some-get.ensures.lookup in
    tile_found a.atoms a.cur.items a.partial c.in-Some.kind c.as_slice.result.now c.args.self.now c.args.i
    c.in-Some-get.tile.now c.in-Some.is c.self.invariant.partial c.as_slice.ensures.value
    (ap (λ (v : Sim). v.composition) c.self.view_is) (ap (λ (v : Sim). v.sim.cur) c.self.view_is) read.3.0 read.1

abbrev open_step : In-Some-get → OpenStep
open_step c = record { kind = c.in-Some.kind; awaited = c.self.inside.partial.awaited.items }

part : (c : In-Some-get) → c.args.self.now.part ≡ Some (open_step c)
part c =
    let p = c.self.inside.partial in
    step_part (sim_of c.self.inside) c.args.self.now p.kind p.awaited.items c.in-Some.kind c.self.view_is refl c.in-Some.is

pub tile_task-requires-clause-tile : goal.tile_task-requires-clause-tile
tile_task-requires-clause-tile c = (found (goal.at.tile_task-requires-clause-tile c).In-Some-get).0

pub tile_task-requires-clause-within : goal.tile_task-requires-clause-within
tile_task-requires-clause-within c = (found (goal.at.tile_task-requires-clause-within c).In-Some-get).1

pub returns-clause-value : goal.returns-clause-value
returns-clause-value c =
    let at = (goal.at.returns-clause-value c).In-Some-get in
    ap Some c.tile_task.ensures
    ∙ task_found c.args.self.now c.args.label.now (open_step at) c.args.i c.in-Some-get.tile.now (part at) (found at).2

pub returns-clause-tile : goal.returns-clause-tile
returns-clause-tile c =
    let at = (goal.at.returns-clause-tile c).In-Some-get in
    open_value c.args.self.now c.args.label.now (open_step at) c.args.i c.in-Some-get.tile.now c.tile_task.result
    (part at) (found at).2 c.tile_task.ensures
