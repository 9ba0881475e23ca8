-- A step whose tasks are taken in order, and the steps there and back.
use Rattle.std.proofs.Common.{ℕ, ◌+◌, ◌*◌, ◌^◌, ◌<◌, ◌≤◌, ◌≡◌, ℤ, ◌+ℤ◌, ◌-ℤ◌, unsigned_abs, length, Option, Some, None}
use Rattle.std.proofs.Common.{Result, Ok, Err, true≢false, refl, sym, ap, ◌∙◌, arith}
use Rattle.std.specs.Option.{IsSome}
use Rattle.std.specs.Result.{IsOk, OnOk}
use Rattle.std.proofs.lemmas.Int.{ints}
use Rattle.lj_task.specs.Species.{Composition}
use Rattle.lj_base.specs.declared.names.Label.{Label}
use Rattle.lj_task.specs.declared.task_name.Kind.{Kind}
use Rattle.lj_task.specs.Task.{Task}
use Rattle.lj_step.specs.Motion.{Simulation, steps, reversal}
use Rattle.lj_step.specs.Sim.{Sim}
use Rattle.lj_step.specs.OpenSteps.{cover, task_at, with_step_closed}
use Rattle.lj_step.specs.MotionLaws.{IsWellFormed}
use Rattle.lj_step.specs.InOrder.{AwaitsFrom}
use Rattle.lj_step.proofs.TilesTaken.{none_past}
use Rattle.lj_step.proofs.Undone.{undone}

-- each tile of the cover has a task
pub task_some : (live : Sim) (label : Label) (kind : Kind) (i : ℕ) (o : Option Task)
    → AwaitsFrom kind live.composition live.sim.cur i live.part → o ≡ task_at live label i
    → i < length (cover live.composition live.sim.cur) → IsSome o
task_some live label kind i None h e within = absurd (omega (arith, none_past live label kind i None h e refl))
task_some live label kind i (Some work) h e within = refl

pub when_ok : {A E : Type 0} {P : Type 0} (r : Result A E) → IsOk r → OnOk r P → P
when_ok (Ok a) ok h = h
when_ok (Err e) ok h = absurd (true≢false (sym ok))

pub next_size : (s d : ℤ) (a k n : ℕ) → unsigned_abs s ≤ a + k → unsigned_abs d ≡ 1 → a + n ≤ 10 ^ 12 → k < n
    → (unsigned_abs (s +ℤ d) ≤ a + (k + 1)) × (unsigned_abs (s +ℤ d) ≤ 10 ^ 12)
next_size s d a k n most one fits below = (omega (arith, ints), omega (arith, ints))

pub turned_size : (s d : ℤ) (a n : ℕ) → unsigned_abs s ≤ a + n → unsigned_abs d ≡ 1 → a + 2 * n < 10 ^ 12
    → unsigned_abs (s -ℤ d) + n ≤ 10 ^ 12
turned_size s d a n most one fits = omega (arith, ints)

-- the simulations there, back and turned once more
pub back_again : (start there turned back end : Sim) (n : ℕ) → IsWellFormed start.sim
    → there.composition ≡ start.composition → there.sim ≡ steps start.composition n start.sim → turned ≡ with_step_closed there (reversal there.sim)
    → back.composition ≡ turned.composition → back.sim ≡ steps turned.composition n turned.sim → end ≡ with_step_closed back (reversal back.sim)
    → end ≡ with_step_closed start start.sim
back_again start there turned back end n whole units motion turns back_units back_motion ends =
    let same_units : turned.composition ≡ start.composition = ap (λ (v : Sim). v.composition) turns ∙ units in
    let turned_sim : turned.sim ≡ reversal (steps start.composition n start.sim) =
    ap (λ (v : Sim). v.sim) turns ∙ ap reversal motion in
    let same_sim : reversal back.sim ≡ start.sim =
    ap reversal (back_motion ∙ ap (λ u. steps u n turned.sim) same_units ∙ ap (steps start.composition n) turned_sim)
    ∙ undone start.composition n start.sim whole in
    ends ∙ ap (λ u. closed_in u (reversal back.sim)) (back_units ∙ same_units) ∙ ap (closed_in start.composition) same_sim
  where
    closed_in : Composition → Simulation → Sim
    closed_in u sim = record { composition = u; sim = sim; part = None }
