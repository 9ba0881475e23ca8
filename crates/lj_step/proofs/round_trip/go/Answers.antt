use Rattle.std.proofs.Common.{◌≡◌, ◌≤◌, ◌+◌, unsigned_abs, ap, sym, ◌∙◌, subst, add-one, arith}
use Rattle.lj_step.specs.Motion.{steps, next_simulation}
use Rattle.lj_step.specs.MotionLaws.{drift}
use Rattle.lj_step.specs.Sim.{Sim}
use Rattle.lj_step.proofs.Drift.{drift_kept}
use Rattle.lj_step.proofs.Undone.{steps_more}
use Rattle.lj_step.proofs.RoundTrip.{next_size}
use Rattle.lj_step.proofs.round_trip.go.Goals as goal

pub step-requires : goal.step-requires
step-requires g c =
    let sim = c.loop.sim.sim in
    (next_size sim.step sim.dir (unsigned_abs c.args.sim.now.sim.step)
    c.loop.counter c.args.steps c.loop.invariant.step c.loop.invariant.dir c.requires c.loop-test.true).1

pub loop-preserved : goal.loop-preserved
loop-preserved g c =
    let old = c.args.sim.now in
    let sim = c.loop.sim.sim in
    let size =
    (next_size sim.step sim.dir (unsigned_abs old.sim.step)
    c.loop.counter c.args.steps c.loop.invariant.step c.loop.invariant.dir c.requires c.loop-test.true).0 in
    let same = c.step.ensures in
    record {
      composition = ap (λ (v : Sim). v.composition) same ∙ c.loop.invariant.composition;
      motion =
          ap (λ (v : Sim). v.sim) same
          ∙ ap (λ u. next_simulation u sim) c.loop.invariant.composition
          ∙ ap (next_simulation old.composition) c.loop.invariant.motion
          ∙ sym (ap (λ n. steps old.composition n old.sim) (add-one c.loop.counter)
          ∙ steps_more old.composition c.loop.counter old.sim);
      step = subst (λ (v : Sim). unsigned_abs v.sim.step ≤ unsigned_abs old.sim.step + (c.loop.counter + 1))
          (sym same) size;
      dir = ap (λ (v : Sim). unsigned_abs v.sim.dir) same ∙ c.loop.invariant.dir;
    }

pub returns-clause-drift : goal.returns-clause-drift
returns-clause-drift g c =
    let old = c.args.sim.now in
    let motion : c.loop.sim.sim ≡ steps old.composition c.args.steps old.sim =
    c.loop.invariant.motion ∙ ap (λ n. steps old.composition n old.sim)
    (let e : c.loop.counter ≡ c.args.steps = omega arith in e) in
    ap drift motion ∙ drift_kept old.composition c.args.steps old.sim c.mix-near.ensures.near c.count-whole.ensures.whole
