use Rattle.std.proofs.Common.{ℕ, ◌≡◌, ◌≤◌, ◌<◌, ◌^◌, ◌+ℤ◌, unsigned_abs, length, slice_index_or, rules, refl, ap, ◌∙◌}
use Rattle.std.proofs.Common.{subst, sym, to_z, of_z, w64}
use Rattle.lj_task.specs.declared.task_name.Kind.TheVariants.{Force}
use Rattle.lj_task.specs.Pushes.{no_push}
use Rattle.lj_step.specs.Motion.{next_frame, force, next_simulation}
use Rattle.lj_step.specs.Sim.{Sim}
use Rattle.lj_step.specs.KeptSims.{sign_of, sim_of}
use Rattle.lj_step.specs.OpenSteps.{kind_of, is_whole, with_step_closed}
use Rattle.lj_step.specs.MotionLaws.{IsFrameOnRing}
use Rattle.lj_step.proofs.Undone.{next_frame_length, next_on_ring}
use Rattle.lj_step.proofs.StepNumbers.{next_number}
use Rattle.lj_step.proofs.Steps.{whole_of, forces_of, frame_is, turned_is}
use Rattle.lj_step.proofs.Sound.{with_frames}
use Rattle.lj_step.proofs.simulations.Sim.turn.Goals as goal

sum_bound : (c : goal.After-self-4-1) → unsigned_abs (c.self.inside.step +ℤ sign_of c.self.inside.dir) ≤ 10 ^ 12
sum_bound c = let P : Sim → Type 0 =
    λ v. unsigned_abs (v.sim.step +ℤ v.sim.dir) ≤ 10 ^ 12 in subst P (sym c.self.view_is) c.requires.step

next_step : (c : goal.After-self-4-1) → to_z w64 (of_z w64
    (to_z w64 (of_z w64 c.self.inside.step) +ℤ to_z w64 (of_z w64 c.sign.result)))
    ≡ c.self.inside.step +ℤ sign_of c.self.inside.dir
next_step c =
    next_number c.self.inside.step c.sign.result c.self.invariant.step_bound c.sign.ensures.size
    (rw c.sign.ensures.value (sum_bound c))
    ∙ ap (λ d. c.self.inside.step +ℤ d) c.sign.ensures.value

forces : (c : goal.After-self-4-1) (i : ℕ) → i < length c.as_slice.result.now
    → slice_index_or c.as_slice-2.result.now i no_push ≡ force c.self.inside.atoms c.as_slice.result.now i
forces c i h =
    let kind = ap (λ (v : Sim). kind_of v.part) c.self.view_is ∙ c.requires.kind in
    let all = ap (λ (v : Sim). is_whole v.part) c.self.view_is ∙ c.requires.whole in
    let whole = whole_of c.self.inside.partial.kind c.self.inside.partial.awaited.items Force kind all in
    let within : i < length c.self.inside.cur.items = subst (λ xs. i < length xs) c.as_slice.ensures.value h in
    ap (λ xs. slice_index_or xs i no_push) c.as_slice-2.ensures.value
    ∙ forces_of c.self.inside.atoms c.self.inside.cur.items c.self.inside.partial i
    c.self.invariant.partial whole within
    ∙ sym (ap (λ frame. force c.self.inside.atoms frame i) c.as_slice.ensures.value)

next_is : (c : goal.After-self-4-1) → c.swap.new.y.items
    ≡ next_frame c.self.inside.atoms c.self.inside.prev.items c.self.inside.cur.items
next_is c =
    ap (λ v. v.items) c.swap.ensures.y_after
    ∙ frame_is c.self.inside.atoms c.self.inside.prev.items c.as_slice.result.now c.advance.new.prev.items
    c.as_slice-2.result.now c.advance.ensures.count c.advance.ensures.places (forces c)
    ∙ ap (next_frame c.self.inside.atoms c.self.inside.prev.items) c.as_slice.ensures.value

pub returns : goal.returns
returns c =
    turned_is (sim_of c.self.inside) c.swap.new.x.items c.swap.new.y.items
    (to_z w64 (of_z w64 (to_z w64 (of_z w64 c.self.inside.step) +ℤ to_z w64 (of_z w64 c.sign.result))))
    (ap (λ v. v.items) c.swap.ensures.x_after) (next_is c) (next_step c)
    ∙ ap (λ (v : Sim). with_step_closed v (next_simulation v.composition v.sim)) c.self.view_is

pub invariant_of-self : goal.invariant_of-self
invariant_of-self c =
    let a = c.self.inside in
    with_frames a _ c.self.invariant (ap (λ v. v.items) c.swap.ensures.x_after)
    (ap length (next_is c) ∙ next_frame_length a.atoms a.prev.items a.cur.items)
    (subst IsFrameOnRing (sym (next_is c)) (next_on_ring a.atoms a.prev.items a.cur.items))
    (rw (next_step c) (sum_bound c)) (search rules) refl refl refl
