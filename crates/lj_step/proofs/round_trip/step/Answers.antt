use Rattle.std.proofs.Common.{◌≡◌, ◌≤◌, ◌<◌, ◌^◌, ◌+◌, ◌+ℤ◌, unsigned_abs, length, Some, refl, ap, sym, ◌∙◌, subst}
use Rattle.std.proofs.Common.{arith}
use Rattle.lj_task.specs.declared.task_name.Kind.TheVariants.{Force}
use Rattle.lj_step.specs.Motion.{Simulation}
use Rattle.lj_step.specs.Sim.{Sim}
use Rattle.lj_step.specs.OpenSteps.{cover, tiles_of}
use Rattle.lj_step.specs.InOrder.{AwaitsFrom}
use Rattle.lj_step.proofs.TilesTaken.{opened_awaits, kind_is, all_taken, is_awaited, awaits_next}
use Rattle.lj_step.proofs.RoundTrip.{task_some, when_ok}
use Rattle.lj_step.proofs.round_trip.step.Goals as goal

pub unwrap-task-requires : goal.unwrap-task-requires
unwrap-task-requires g c =
    let live = c.loop-i.sim in
    let within : c.loop-i.i < length (cover live.composition live.sim.cur) = omega arith in
    task_some live c.args.label.now Force c.loop-i.i c.task.result c.loop-i.invariant.tiles c.task.ensures.value within

pub loop-i-init : goal.loop-i-init
loop-i-init g c =
    let opened = c.open_step.ensures in
    record {
      composition = ap (λ (v : Sim). v.composition) opened;
      motion = ap (λ (v : Sim). v.sim) opened;
      end = c.tiles-i-end.ensures.value ∙ ap tiles_of opened
          ∙ sym (ap (λ (v : Sim). length (cover v.composition v.sim.cur)) opened);
      tiles = subst (λ (v : Sim). AwaitsFrom Force v.composition v.sim.cur 0 v.part) (sym opened)
          (opened_awaits Force c.args.sim.now.composition c.args.sim.now.sim.cur _ refl);
    }

pub loop-i-preserved : goal.loop-i-preserved
loop-i-preserved g c =
    let live = c.loop-i.sim in
    let is_work : c.task.result ≡ Some c.compute.result = c.unwrap-task.ensures ∙ ap Some (sym c.compute.ensures) in
    let awaited =
    is_awaited live c.args.label.now Force c.loop-i.i c.task.result c.compute.result c.loop-i.invariant.tiles
    c.task.ensures.value is_work in
    let next =
    awaits_next live c.args.label.now Force c.loop-i.i c.task.result c.compute.result c.loop-i.invariant.tiles
    c.task.ensures.value is_work in
    let taken = when_ok c.accept.result (c.accept.ensures.accepted.1 awaited) c.accept.ensures.taken in
    record {
      composition = ap (λ (v : Sim). v.composition) taken ∙ c.loop-i.invariant.composition;
      motion = ap (λ (v : Sim). v.sim) taken ∙ c.loop-i.invariant.motion;
      end = c.loop-i.invariant.end ∙ sym (ap (λ (v : Sim). length (cover v.composition v.sim.cur)) taken);
      tiles = subst (λ (v : Sim). AwaitsFrom Force v.composition v.sim.cur (c.loop-i.i + 1) v.part) (sym taken) next;
    }

pub turn-requires : goal.turn-requires
turn-requires g c =
    let live = c.loop-i.sim in
    let past : length (cover live.composition live.sim.cur) ≤ c.loop-i.i = omega arith in
    record {
      kind = kind_is Force live.composition live.sim.cur c.loop-i.i live.part c.loop-i.invariant.tiles;
      whole = all_taken Force live.composition live.sim.cur c.loop-i.i live.part c.loop-i.invariant.tiles past;
      step = subst (λ (s : Simulation). unsigned_abs (s.step +ℤ s.dir) ≤ 10 ^ 12)
          (sym c.loop-i.invariant.motion) c.requires;
    }

pub returns : goal.returns
returns g c =
    let composition = c.loop-i.invariant.composition in
    let motion = c.loop-i.invariant.motion in
    let turned = c.turn.ensures in
    cc (composition, motion, turned)
