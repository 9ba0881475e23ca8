use Rattle.std.proofs.Common.{◌≡◌, ◌<◌, sym, ap, ◌∙◌, arith}
use Rattle.lj_step.specs.OpenSteps.{is_tile_awaited, tiles_of}
use Rattle.lj_session.specs.UserState.{LiveSession, next_tile}
use Rattle.lj_session.proofs.Tiles.{find-on, find-here}
use Rattle.lj_session.proofs.live_session.LiveSession.next_tile_past.Goals.{After-is_tile_awaited}
use Rattle.lj_session.proofs.live_session.LiveSession.next_tile_past.Goals as goal

-- the tile is one of the step
below : (c : After-is_tile_awaited) → c.loop-i.i < tiles_of c.args.self.now.live
below c =
    let test =
    c.loop-i-test.true in omega (
      arith,
      test,
      c.tiles-i-end.ensures.value
          ∙ ap tiles_of (ap (λ (h : LiveSession). h.live) c.self.view_is),
    )

-- whether it is awaited
awaited : (c : After-is_tile_awaited) → is_tile_awaited c.args.self.now.live c.loop-i.i ≡ c.is_tile_awaited.result
awaited c = ap (λ (h : LiveSession). is_tile_awaited h.live c.loop-i.i) (sym c.self.view_is) ∙ sym c.is_tile_awaited.ensures

pub loop-i-preserved : goal.loop-i-preserved
loop-i-preserved c =
    let now = c.args.self.now in
    let at = (goal.at.loop-i-preserved c).After-is_tile_awaited in
    find-on (is_tile_awaited now.live) c.loop-i.i (tiles_of now.live) (next_tile (record now { passed = c.args.from })) (below at)
    (awaited at ∙ c.if-is_tile_awaited.false) c.loop-i.invariant

pub returns-then-is_tile_awaited-clause-value : goal.returns-then-is_tile_awaited-clause-value
returns-then-is_tile_awaited-clause-value c =
    let now = c.args.self.now in
    let at = (goal.at.returns-then-is_tile_awaited-clause-value c).After-is_tile_awaited in
    find-here (is_tile_awaited now.live) c.loop-i.i (tiles_of now.live) (next_tile (record now { passed = c.args.from })) (below at)
    (awaited at ∙ c.if-is_tile_awaited.true) c.loop-i.invariant

pub returns-then-is_tile_awaited-clause-below : goal.returns-then-is_tile_awaited-clause-below
returns-then-is_tile_awaited-clause-below c = below (goal.at.returns-then-is_tile_awaited-clause-below c).After-is_tile_awaited
