-- A step back undoes a step.
use Rattle.std.proofs.Common.{ℕ, zero, suc, ◌^◌, ◌<◌, ◌≡◌, ℤ, pos, negsuc, ◌+ℤ◌, ◌-ℤ◌, neg_ℤ, List, length, refl, sym}
use Rattle.std.proofs.Common.{ap, ◌∙◌, arith}
use Rattle.std.proofs.lemmas.Int.{ints}
use Rattle.std.proofs.lemmas.List.FromFn.{length-map-range_with_len, get_or-map-range_with_len, fill_by_all}
use Rattle.lj_ring.specs.declared.coordinates.Place.{Place}
use Rattle.lj_task.specs.Species.{Composition}
use Rattle.lj_task.specs.declared.pushes.Push.{Push}
use Rattle.lj_step.specs.Motion.{Simulation, place_at, force, next_coordinate, next_place, moved_place, next_frame, next_simulation}
use Rattle.lj_step.specs.Motion.{steps, reversal}
use Rattle.lj_step.specs.MotionLaws.{IsOnRing, IsFrameOnRing, IsWellFormed}

-- the place at index i of the frame after cur
pub next_frame_at : (u : Composition) (prev cur : List Place) (i : ℕ) → i < length cur
    → place_at (next_frame u prev cur) i ≡ moved_place u prev cur i
next_frame_at u prev cur i h = get_or-map-range_with_len (moved_place u prev cur) 0 (length cur) i i _ h (omega arith)

pub next_frame_length : (u : Composition) (prev cur : List Place) → length (next_frame u prev cur) ≡ length cur
next_frame_length u prev cur = length-map-range_with_len (moved_place u prev cur) 0 (length cur)

next_coordinate_below : (p c f : ℕ) → next_coordinate p c f < 2 ^ 32
next_coordinate_below p c f = omega arith

next_place_on_ring : (p c : Place) (f : Push) → IsOnRing (next_place p c f)
next_place_on_ring p c f = record {
  x = next_coordinate_below p.x c.x f.x;
  y = next_coordinate_below p.y c.y f.y;
  z = next_coordinate_below p.z c.z f.z;
}

pub next_on_ring : (u : Composition) (prev cur : List Place) → IsFrameOnRing (next_frame u prev cur)
next_on_ring u prev cur i below =
    let within : i < length cur = rw (← next_frame_length u prev cur) below in
    rw (next_frame_at u prev cur i within) (next_place_on_ring _ _ _)

-- a step leads from a whole simulation to a whole one
pub stepped_whole : (u : Composition) (sim : Simulation) → IsWellFormed sim → IsWellFormed (next_simulation u sim)
stepped_whole u sim h = record {
  same = sym (next_frame_length u sim.prev sim.cur);
  prev = h.cur;
  cur = next_on_ring u sim.prev sim.cur;
}

back_coordinate : (p c f : ℕ) → p < 2 ^ 32 → next_coordinate (next_coordinate p c f) c f ≡ p
back_coordinate p c f h = omega arith

place : ℕ → ℕ → ℕ → Place
place x y z = record { x = x; y = y; z = z }

-- places with equal coordinates are equal
pub same_place : (p q : Place) → p.x ≡ q.x → p.y ≡ q.y → p.z ≡ q.z → p ≡ q
unfolding place
same_place p q x y z = ap (λ a. place a p.y p.z) x ∙ ap (λ b. place q.x b p.z) y ∙ ap (λ c. place q.x q.y c) z

back_place : (p c : Place) (f : Push) → IsOnRing p → next_place (next_place p c f) c f ≡ p
back_place p c f h =
    same_place (next_place (next_place p c f) c f) p (back_coordinate p.x c.x f.x h.x) (back_coordinate p.y c.y f.y h.y)
    (back_coordinate p.z c.z f.z h.z)

-- the push depends on the present frame alone, so that the step back finds the frame before
frame_back : (u : Composition) (prev cur : List Place) → length prev ≡ length cur → IsFrameOnRing prev
    → next_frame u (next_frame u prev cur) cur ≡ prev
frame_back u prev cur same on_ring =
    sym (fill_by_all (moved_place u (next_frame u prev cur) cur) prev (length cur) (record { x = 0; y = 0; z = 0 }) same
    (λ k h. let within : k < length prev = omega arith in
    sym (ap (λ p. next_place p (place_at cur k) (force u cur k)) (next_frame_at u prev cur k h)
    ∙ back_place (place_at prev k) (place_at cur k) (force u cur k) (on_ring k within))))

same_step : (s d : ℤ) → s +ℤ d -ℤ d +ℤ neg_ℤ d ≡ s -ℤ d
same_step s d = omega (arith, ints)

-- a step back from the step after
step_back : (u : Composition) (sim : Simulation) → IsWellFormed sim → next_simulation u (reversal (next_simulation u sim)) ≡ reversal sim
step_back u sim h =
    let frame = frame_back u sim.prev sim.cur h.same h.prev in
    let step = same_step sim.step sim.dir in
    cc (frame, step)

pub steps_more : (u : Composition) (n : ℕ) (sim : Simulation) → steps u (suc n) sim ≡ next_simulation u (steps u n sim)
steps_more u zero sim = refl
steps_more u (suc n) sim = steps_more u n (next_simulation u sim)

steps_back : (u : Composition) (n : ℕ) (sim : Simulation) → IsWellFormed sim → steps u n (reversal (steps u n sim)) ≡ reversal sim
steps_back u zero sim h = refl
steps_back u (suc n) sim h =
    steps_more u n (reversal (steps u n (next_simulation u sim)))
    ∙ ap (next_simulation u) (steps_back u n (next_simulation u sim) (stepped_whole u sim h))
    ∙ step_back u sim h

turned_twice : (s d : ℤ) → s -ℤ d -ℤ neg_ℤ d ≡ s
turned_twice s d = omega (arith, ints)

same_direction : (d : ℤ) → neg_ℤ (neg_ℤ d) ≡ d
same_direction (pos zero) = refl
same_direction (pos (suc n)) = refl
same_direction (negsuc n) = refl

at_step : Simulation → ℤ → ℤ → Simulation
at_step sim step dir = record { prev = sim.prev; cur = sim.cur; step = step; dir = dir }

reversed_twice : (sim : Simulation) → reversal (reversal sim) ≡ sim
unfolding at_step
reversed_twice sim =
    ap (λ s. at_step sim s (neg_ℤ (neg_ℤ sim.dir))) (turned_twice sim.step sim.dir)
    ∙ ap (λ d. at_step sim sim.step d) (same_direction sim.dir)

pub undone : (u : Composition) (n : ℕ) (sim : Simulation) → IsWellFormed sim
    → reversal (steps u n (reversal (steps u n sim))) ≡ sim
undone u n sim h = ap reversal (steps_back u n sim h) ∙ reversed_twice sim
