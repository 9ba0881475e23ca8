-- The open step in the code, and what is told of it.
use Rattle.std.proofs.Common.{ℕ, ◌*◌, ◌^◌, ◌<◌, ◌≤◌, ◌≡◌, ℤ, pos, ◌+ℤ◌, unsigned_abs, to_z, of_z, Bool}
use Rattle.std.proofs.Common.{true, false, List, length, map, replicate, slice_index_or, slice_get, count_by}
use Rattle.std.proofs.Common.{Option, Some, None, refl, sym, ap, ◌∙◌, subst, arith}
use Rattle.std.specs.List.{range_with_len}
use Rattle.std.specs.Int.{w128}
use Rattle.std.specs.Option.{option_map, option_map_or}
use Rattle.std.proofs.lemmas.Option.{slice_get_read}
use Rattle.std.proofs.lemmas.Bool.{leb-true, true≢false}
use Rattle.std.proofs.lemmas.List.Elements.{filter_passes, All-filter}
use Rattle.std.proofs.lemmas.List.FromFn.{fill_by_all, get_or-range_with_len, length-range_with_len}
use Rattle.std.proofs.lemmas.Int.{to_z-of_z, fits_signed_from_abs}
use Rattle.lj_ring.specs.declared.coordinates.Place.{Place}
use Rattle.lj_task.specs.Species.{Composition}
use Rattle.lj_task.specs.declared.pushes.Push.{Push}
use Rattle.lj_base.specs.declared.names.Label.{Label}
use Rattle.lj_task.specs.declared.task_name.Kind.{Kind}
use Rattle.lj_task.specs.declared.task_name.Kind.TheVariants.{Force, Energy}
use Rattle.lj_task.specs.Pushes.{no_push}
use Rattle.lj_step.specs.declared.partial.Partial.{Partial}
use Rattle.lj_step.specs.Motion.{Simulation, place_at, next_place, force, moved_place, next_frame, next_simulation, potential}
use Rattle.lj_step.specs.MotionLaws.{IsFrameOnRing}
use Rattle.lj_step.specs.Sim.{Sim, OpenStep}
use Rattle.lj_step.specs.OpenSteps.{blocks, is_tile, cover, tile_task, task_of_open, task_at}
use Rattle.lj_step.specs.OpenSteps.{is_number_awaited, is_tile_awaited_in, is_tile_awaited, kind_of}
use Rattle.lj_step.specs.OpenSteps.{is_whole, with_step_closed}
use Rattle.lj_step.specs.Sums.{IsPartial}
use Rattle.lj_step.specs.KeptSims.{open_step_of}
use Rattle.lj_step.proofs.PartialForces.{force_whole}
use Rattle.lj_step.proofs.PartialEnergies.{energy_whole}
pub use Rattle.lj_step.proofs.Flags.{set_within}
use Rattle.lj_step.proofs.Opened.{opened_is, open_of, partial_of}

-- a whole step is open, and has no flag left
pub whole_of : (o : Option Kind) (flags : List Bool) (kind : Kind) → kind_of (open_step_of o flags) ≡ Some kind
    → is_whole (open_step_of o flags) ≡ true
    → (o ≡ Some kind) × (count_by (λ awaited. awaited) flags ≡ 0)
whole_of None flags kind e whole = absurd (true≢false (sym whole))
whole_of (Some k) flags kind e whole =
    let none : count_by (λ awaited. awaited) flags ≤ 0 = leb-true (count_by (λ awaited. awaited) flags) 0 whole in
    (e, omega arith)

-- the sums of a whole force step are the forces
pub forces_of : (u : Composition) (frame : List Place) (p : Partial) (i : ℕ) → IsPartial u frame p p.kind
    → (p.kind ≡ Some Force) × (count_by (λ awaited. awaited) p.awaited.items ≡ 0)
    → i < length frame → slice_index_or p.pushes.items i no_push ≡ force u frame i
forces_of u frame p i h whole within =
    (open_of u frame p Force whole.0 h).pushes refl i within ∙ force_whole u frame p.awaited.items i whole.1

-- a frame that was made from these sums is the next frame
pub frame_is : (u : Composition) (prev cur made : List Place) (pushes : List Push) → length made ≡ length cur
    → ((i : ℕ) → i < length cur → place_at made i ≡ next_place (place_at prev i) (place_at cur i)
    (slice_index_or pushes i no_push))
    → ((i : ℕ) → i < length cur → slice_index_or pushes i no_push ≡ force u cur i) → made ≡ next_frame u prev cur
frame_is u prev cur made pushes same places forces =
    fill_by_all (moved_place u prev cur) made (length cur) (record { x = 0; y = 0; z = 0 }) same
    (λ k h. places k h ∙ ap (λ f. next_place (place_at prev k) (place_at cur k) f) (forces k h))

pub turned_is : (live : Sim) (prev cur : List Place) (step : ℤ) → prev ≡ live.sim.cur
    → cur ≡ next_frame live.composition live.sim.prev live.sim.cur → step ≡ live.sim.step +ℤ live.sim.dir
    → (let sim : Simulation = record { prev = prev; cur = cur; step = step; dir = live.sim.dir } in
    let turned : Sim = record { composition = live.composition; sim = sim; part = None } in
    turned ≡ with_step_closed live (next_simulation live.composition live.sim))
turned_is live prev cur step p c s = cc (p, c, s)

-- the sum of a whole energy step is the potential
pub potential_is : (u : Composition) (frame : List Place) (p : Partial) → IsPartial u frame p p.kind
    → (p.kind ≡ Some Energy) × (count_by (λ awaited. awaited) p.awaited.items ≡ 0)
    → to_z w128 (of_z w128 p.energy) ≡ potential u frame
potential_is u frame p h whole =
    let opened = open_of u frame p Energy whole.0 h in
    let small : unsigned_abs p.energy ≤ 2 ^ 75 = omega (arith, opened.size) in
    to_z-of_z w128 p.energy (fits_signed_from_abs w128 p.energy (omega arith)) ∙ opened.energy refl
    ∙ energy_whole u frame p.awaited.items whole.1

-- the sums of an opened step, where the frame is that of the simulation
pub opened_partial : (u : Composition) (frame now : List Place) (q : Partial) (kind : Kind) → frame ≡ now
    → IsFrameOnRing now → length now ≤ 4096 → q.kind ≡ Some kind
    → q.tiles.items ≡ cover u frame
    → q.awaited.items ≡ map (is_tile u frame) (range_with_len 0 (64 * blocks (length frame)))
    → q.left ≡ length (cover u frame)
    → q.pushes.items ≡ replicate (length frame) no_push → q.energy ≡ pos 0 → IsPartial u now q q.kind
opened_partial u frame now q kind same ring few kind_is tiles awaited left pushes energy =
    partial_of u now q kind kind_is
    (opened_is u now q kind ring few
    (tiles ∙ ap (cover u) same)
    (awaited ∙ ap (λ f. map (is_tile u f) (range_with_len 0 (64 * blocks (length f)))) same)
    (left ∙ ap (λ f. length (cover u f)) same)
    (pushes ∙ ap (λ f. replicate (length f) no_push) same) energy)

-- each number of a cover is that of a tile
pub cover_tile : (u : Composition) (frame : List Place) (i d : ℕ) → i < length (cover u frame)
    → is_tile u frame (slice_index_or (cover u frame) i d) ≡ true
cover_tile u frame i d h = filter_passes (is_tile u frame) (range_with_len 0 (64 * blocks (length frame))) i d h

pub cover_within : (u : Composition) (frame : List Place) (i d : ℕ) → i < length (cover u frame)
    → slice_index_or (cover u frame) i d < 64 * blocks (length frame)
cover_within u frame i d h =
    let n = 64 * blocks (length frame) in
    All-filter (is_tile u frame) (λ k. k < n) (range_with_len 0 n)
    (λ k e below.
    let within : k < n = rw length-range_with_len at below in
    rw (get_or-range_with_len 0 n k e within) (omega arith)) i d h

-- the i-th number of a cover is that of a tile
pub number_at : (tiles : List ℕ) (u : Composition) (frame : List Place) (i number : ℕ) → tiles ≡ cover u frame
    → i < length tiles → number ≡ slice_index_or tiles i number
    → (is_tile u frame number ≡ true) × (number < 64 * blocks (length frame))
    × (slice_get (cover u frame) i ≡ Some number)
number_at tiles u frame i number is_cover within read =
    let in_cover : i < length (cover u frame) = subst (λ xs. i < length xs) is_cover within in
    let e : number ≡ slice_index_or (cover u frame) i number = read ∙ ap (λ xs. slice_index_or xs i number) is_cover in (
      subst (λ k. is_tile u frame k ≡ true) (sym e) (cover_tile u frame i number in_cover),
      subst (λ k. k < 64 * blocks (length frame)) (sym e) (cover_within u frame i number in_cover),
      slice_get_read (cover u frame) (length (cover u frame)) i number refl in_cover e,
    )

-- the number that the code reads for the i-th tile of an open step
pub tile_found : (u : Composition) (frame : List Place) (p : Partial) (kind : Kind) (tiles : List ℕ) (now : Sim)
    (i number : ℕ) → p.kind ≡ Some kind → IsPartial u frame p p.kind
    → tiles ≡ p.tiles.items → u ≡ now.composition → frame ≡ now.sim.cur → i < length tiles
    → number ≡ slice_index_or tiles i number
    → (is_tile now.composition now.sim.cur number ≡ true) × (number < 64 * blocks (length now.sim.cur))
    × (slice_get (cover now.composition now.sim.cur) i ≡ Some number)
tile_found u frame p kind tiles now i number kind_is h tiles_are units_are frame_is within read =
    let is_cover =
    tiles_are ∙ (open_of u frame p kind kind_is h).tiles ∙ ap (λ v. cover v frame) units_are
    ∙ ap (cover now.composition) frame_is in
    number_at tiles now.composition now.sim.cur i number is_cover within read

-- the i-th task of an open step
pub task_found : (live : Sim) (label : Label) (p : OpenStep) (i number : ℕ) → live.part ≡ Some p
    → slice_get (cover live.composition live.sim.cur) i ≡ Some number
    → Some (tile_task live label p.kind number) ≡ task_at live label i
task_found live label p i number part found =
    sym (ap (task_of_open live label i) part ∙ ap (option_map (tile_task live label p.kind)) found)

pub awaits_found : (live : Sim) (p : OpenStep) (i number : ℕ) → live.part ≡ Some p
    → slice_get (cover live.composition live.sim.cur) i ≡ Some number
    → slice_index_or p.awaited number false ≡ is_tile_awaited live i
awaits_found live p i number part found =
    sym (ap (is_tile_awaited_in live.composition live.sim.cur i) part ∙ ap (λ o. option_map_or (is_number_awaited p) o false) found)

pub awaits_past : (live : Sim) (p : OpenStep) (i : ℕ) → live.part ≡ Some p
    → slice_get (cover live.composition live.sim.cur) i ≡ None → false ≡ is_tile_awaited live i
awaits_past live p i part past =
    sym (ap (is_tile_awaited_in live.composition live.sim.cur i) part ∙ ap (λ o. option_map_or (is_number_awaited p) o false) past)

pub step_part : (live : Sim) (now : Sim) (o : Option Kind) (flags : List Bool) (kind : Kind) → live ≡ now
    → live.part ≡ open_step_of o flags → o ≡ Some kind
    → now.part ≡ Some (record { kind = kind; awaited = flags })
step_part live now o flags kind view part e =
    sym (ap (λ (v : Sim). v.part) view) ∙ part ∙ ap (λ (k : Option Kind). open_step_of k flags) e
