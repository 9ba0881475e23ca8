-- The tile that is read at the i-th place, and its flag.
use Rattle.std.proofs.Common.{◌≡◌, ◌<◌, false, length, ap, ◌∙◌, refl, sym, Some, arith}
use Rattle.std.proofs.lemmas.List.{get_or_default}
use Rattle.std.specs.Prelude.{slice_get}
use Rattle.lj_step.specs.Sim.{Sim}
use Rattle.lj_step.specs.KeptSims.{sim_of}
use Rattle.lj_step.specs.OpenSteps.{cover}
use Rattle.lj_step.proofs.Steps.{tile_found, awaits_found, step_part}
use Rattle.lj_step.proofs.simulations.Sim.is_tile_awaited.Goals.{After-number}
use Rattle.lj_step.proofs.simulations.Sim.is_tile_awaited.Goals as goal

-- the tile is one of the cover, and has a flag
found : (c : After-number) → (c.number.result < length c.self.inside.partial.awaited.items)
    × (slice_get (cover c.args.self.now.composition c.args.self.now.sim.cur) c.args.i ≡ Some c.number.result)
found c =
    let a = c.self.inside in
    let read = c.in-Some-get.ensures.lookup in
    let frame = ap (λ (v : Sim). v.sim.cur) c.self.view_is in
    let tile =
    tile_found a.atoms a.cur.items a.partial c.in-Some.field-0 c.as_slice.result.now c.args.self.now c.args.i
    c.in-Some-get.tile.now c.in-Some.is c.self.invariant.partial c.as_slice.ensures.value
    (ap (λ (v : Sim). v.composition) c.self.view_is) frame read.3.0 read.1 in
    (omega (arith, tile.1, c.number.ensures, c.self.invariant.room.awaited, ap length frame), tile.2 ∙ ap Some (sym c.number.ensures))

pub index-requires : goal.index-requires
index-requires c = omega (arith, (found (goal.at.index-requires c).After-number).0, c.self.inside.partial.awaited.ok.0)

pub returns : goal.returns
returns c =
    let p = c.self.inside.partial in
    let tile = found (goal.at.returns c).After-number in
    let part = step_part (sim_of c.self.inside) c.args.self.now p.kind p.awaited.items c.in-Some.field-0 c.self.view_is refl c.in-Some.is in
    c.index.ensures
    ∙ get_or_default p.awaited.items c.number.result c.index.result.now false tile.0
    ∙ awaits_found c.args.self.now (record { kind = c.in-Some.field-0; awaited = p.awaited.items })
    c.args.i c.number.result part tile.1
