-- The open step of a session over a pool: the next task is that of the first tile that is awaited and not posted; what is
-- posted and not in is awaited; and whatever result comes, what is posted stays the tasks of the tiles that are not in.
use Rattle.std.proofs.Common.{◌≡◌, ℕ, zero, suc, ◌+◌, ◌-◌, ◌*◌, ◌<◌, ◌≤◌, Bool, true, false, nat_le, List, [], ◌∷◌, ◌++◌}
use Rattle.std.proofs.Common.{length, map, take, get_or, slice_index_or, slice_set, count_by, cond, Some, None}
use Rattle.std.proofs.Common.{inl, inr, refl, sym, ap, ◌∙◌, subst, arith, get_or-set_same, get_or-set_other}
use Rattle.std.specs.List.{filter, find, range_with_len, Contains}
use Rattle.std.specs.Option.{option_map, option_map_or, option_and_then}
use Rattle.std.proofs.lemmas.Bool.{cases_lt, cases_eq, true≢false, leb-true}
use Rattle.std.proofs.lemmas.List.{get_or_past, map-append}
use Rattle.std.proofs.lemmas.List.Sums.{sum_by-set, length-filter}
use Rattle.std.proofs.lemmas.List.FromFn.{get_or-map-range_with_len, length-map-range_with_len}
use Rattle.std.proofs.lemmas.Option.{slice_get-get_or, same_Some}
use Rattle.lj_ring.specs.declared.coordinates.Place.{Place}
use Rattle.lj_task.specs.Species.{Composition}
use Rattle.lj_task.specs.declared.task_name.Kind.{Kind}
use Rattle.lj_base.specs.declared.names.Label.{Label}
use Rattle.lj_task.specs.Task.{Task}
use Rattle.lj_step.specs.Sim.{Sim, OpenStep}
use Rattle.lj_step.specs.OpenSteps.{blocks, is_tile, cover, opened_step, is_tile_awaited_in, is_tile_awaited, tiles_in, tiles_of, tile_task}
use Rattle.lj_step.specs.OpenSteps.{task_of_open as task_in_step, task_at, tile_number_of, with_tile, IsAwaitedTaskIn, is_whole}
use Rattle.lj_step.proofs.Flags.{none_left, count_flags}
use Rattle.lj_step.proofs.TilesTaken.{number_is}
use Rattle.lj_session.specs.UserState.{LiveSession, next_tile, next_of, with_passed_to, with_tile_in, with_step}
use Rattle.lj_engine.specs.Gathering.{is_awaited, posted_tiles, tasks_posted_in, tasks_posted_of, tiles_left_in, IsGathered}
use Rattle.lj_end.specs.Accounts.{occurrences}
use Rattle.lj_engine.proofs.Numbers.{occurrences-filter, occurrences-none, occurrences-take, occurrences-range, none_set, images-kept}
use Rattle.lj_engine.proofs.Numbers.{images-taken, found_next, found_none}

-- the flags of an opened step
opened_once : (test : ℕ → Bool) (n k : ℕ) → is_awaited (map test (range_with_len 0 n)) k ≡ true
    → occurrences k (filter test (range_with_len 0 n)) ≡ 1
opened_once test n k set =
    elim (cases_lt k n) [
      | inl within ↦
          let passes : test k ≡ true = sym (get_or-map-range_with_len test 0 n k k false within (omega arith)) ∙ set in
          occurrences-filter test k passes (range_with_len 0 n) ∙ occurrences-range k 0 n (omega arith) (omega arith)
      | inr past ↦
          absurd (true≢false (sym set ∙ get_or_past (map test (range_with_len 0 n)) k false
          (omega (arith, length-map-range_with_len test 0 n, past))))
    ]

-- an opened step awaits its cover
pub opened_left : (kind : Kind) (u : Composition) (frame : List Place)
    → tiles_left_in (Some (opened_step kind u frame)) ≡ length (cover u frame)
opened_left kind u frame =
    count_flags (is_tile u frame) (range_with_len 0 (64 * blocks (length frame)))
    ∙ sym (length-filter (is_tile u frame) (range_with_len 0 (64 * blocks (length frame))))

same_step : (p q : OpenStep) → Some p ≡ Some q → p ≡ q
same_step p q e = cc

none_is : (p : OpenStep) → None ≡ Some p → ⊥
none_is p e = cc

pub gathered_opened : (kind : Kind) (session : LiveSession) → IsGathered (with_step kind session)
gathered_opened kind session =
    let u = session.live.composition in
    let frame = session.live.sim.cur in
    record {
      once = λ step k is set.
          opened_once (is_tile u frame) (64 * blocks (length frame)) k
          (subst (λ (p : OpenStep). is_awaited p.awaited k ≡ true) (sym (same_step (opened_step kind u frame) step is)) set);
      few = omega (arith, opened_left kind u frame);
    }

-- where no step is open, none is gathered
pub gathered_closed : (session : LiveSession) → session.live.part ≡ None → IsGathered session
gathered_closed session none = record {
  once = λ step k is set. absurd (none_is step (sym none ∙ is));
  few = let left = ap tiles_left_in none in omega (arith, left);
}

filter-none : (p : ℕ → Bool) → ((k : ℕ) → p k ≡ false) → (xs : List ℕ) → filter p xs ≡ []
filter-none p fails [] = refl
filter-none p fails (x ∷ xs) = ap (λ b. cond b (x ∷ filter p xs) (filter p xs)) (fails x) ∙ filter-none p fails xs

map-none : {W : Type 0} (f : ℕ → W) (xs : List ℕ) → map f xs ≡ [] → xs ≡ []
map-none f [] e = refl
map-none f (x ∷ xs) e = absurd (cc)

-- an image is that of a number that passes
image_head : {W : Type 0} (f : ℕ → W) (p : ℕ → Bool) (w : W) (x : ℕ) (xs : List ℕ) (b : Bool) → p x ≡ b
    → (Contains (map f (filter p xs)) w → (k : ℕ) × (p k ≡ true) × (f k ≡ w))
    → Contains (map f (cond b (x ∷ filter p xs) (filter p xs))) w → (k : ℕ) × (p k ≡ true) × (f k ≡ w)
image_head f p w x xs false e rest h = rest h
image_head f p w x xs true e rest (zero, within, is) = (x, e, is)
image_head f p w x xs true e rest (suc k, within, is) = rest (k, omega (arith, within), is)

image_of : {W : Type 0} (f : ℕ → W) (p : ℕ → Bool) (w : W) (xs : List ℕ) → Contains (map f (filter p xs)) w
    → (k : ℕ) × (p k ≡ true) × (f k ≡ w)
image_of f p w [] h = absurd (omega (arith, h.1))
image_of f p w (x ∷ xs) h = image_head f p w x xs (p x) refl (image_of f p w xs) h

none_once : (n : ℕ) → n ≡ 0 → n ≡ 1 → ⊥
none_once n none one = omega arith

module _ (session : LiveSession) (label : Label) (step : OpenStep) (is_open : session.live.part ≡ Some step) (g : IsGathered session) where
  abbrev live : Sim
  live = session.live

  abbrev tiles : List ℕ
  tiles = cover session.live.composition session.live.sim.cur

  abbrev task : ℕ → Task
  task = tile_task session.live label step.kind

  abbrev flags : List Bool
  flags = step.awaited

  once : (k : ℕ) → is_awaited flags k ≡ true → occurrences k tiles ≡ 1
  once k set = g.once step k is_open set

  posted_is : tasks_posted_of label (Some session) ≡ map task (posted_tiles flags session.passed tiles)
  posted_is = ap (tasks_posted_in label session.live session.passed) is_open

  left_is : tiles_left_in session.live.part ≡ count_by (λ awaited. awaited) flags
  left_is = ap tiles_left_in is_open

  pub tiles_are : tiles_of live ≡ length tiles
  tiles_are = ap (tiles_in session.live.composition session.live.sim.cur) is_open

  awaits_is : (i : ℕ) → i < length tiles → is_tile_awaited live i ≡ is_awaited flags (get_or tiles i 0)
  awaits_is i within =
      ap (is_tile_awaited_in session.live.composition session.live.sim.cur i) is_open
      ∙ ap (λ o. option_map_or (λ k. slice_index_or flags k false) o false) (slice_get-get_or tiles i 0 within)

  task_at_is : (i : ℕ) → i < length tiles → task_at live label i ≡ Some (task (get_or tiles i 0))
  task_at_is i within =
      ap (task_in_step live label i) is_open ∙ ap (option_map task) (slice_get-get_or tiles i 0 within)

  next_is : next_tile session ≡ find (is_tile_awaited live) (range_with_len session.passed (length tiles - session.passed))
  next_is = ap (λ n. find (is_tile_awaited live) (range_with_len session.passed (n - session.passed))) tiles_are

  next_found : (i : ℕ) → next_tile session ≡ Some i
      → (session.passed ≤ i) × (i < length tiles)
      × (posted_tiles flags (i + 1) tiles ≡ posted_tiles flags session.passed tiles ++ get_or tiles i 0 ∷ [])
      × (is_awaited flags (get_or tiles i 0) ≡ true)
  next_found i e =
      found_next (is_tile_awaited live) (is_awaited flags) tiles awaits_is (length tiles - session.passed)
      session.passed i refl (sym next_is ∙ e)

  -- once all tiles are in, no task is posted
  pub whole_none : is_whole session.live.part ≡ true → tiles_left_in session.live.part ≡ 0
  whole_none whole =
      let le : count_by (λ awaited. awaited) flags ≤ 0 =
      leb-true (count_by (λ awaited. awaited) flags) 0 (sym (ap is_whole is_open) ∙ whole) in
      omega (arith, left_is, le)

  pub whole_posted : is_whole session.live.part ≡ true → tasks_posted_of label (Some session) ≡ []
  whole_posted whole =
      let none : count_by (λ awaited. awaited) flags ≡ 0 = sym left_is ∙ whole_none whole in
      posted_is ∙ ap (map task) (filter-none (is_awaited flags) (λ k. none_left flags k none)
      (take session.passed tiles))

  -- while tiles are awaited and none is left to post, some are posted
  pub posted_some : is_whole session.live.part ≡ false → next_tile session ≡ None → tasks_posted_of label (Some session) ≡ [] → ⊥
  posted_some going no_tile e =
      let posted : posted_tiles flags session.passed tiles ≡ [] =
      map-none task (posted_tiles flags session.passed tiles) (sym posted_is ∙ e) in
      let all : filter (is_awaited flags) tiles ≡ [] =
      found_none (is_tile_awaited live) (is_awaited flags) tiles awaits_is (length tiles - session.passed)
      session.passed refl (sym next_is ∙ no_tile) ∙ posted in
      let none : count_by (λ awaited. awaited) flags ≡ 0 =
      none_set flags (λ k set. none_once (occurrences k tiles)
      (occurrences-none (is_awaited flags) k tiles set all) (once k set)) in
      true≢false (sym (ap is_whole is_open ∙ ap (λ n. nat_le n 0) none) ∙ going)

  -- the next task is posted
  module _ (i : ℕ) (next : next_tile session ≡ Some i) where
    abbrev after : LiveSession
    after = record session { passed = i + 1 }

    next_task_is : next_of label (Some session) ≡ Some (task (get_or tiles i 0))
    next_task_is = ap (option_and_then (task_at live label)) next ∙ task_at_is i (next_found i next).1

    pub next_label : (work : Task) → next_of label (Some session) ≡ Some work → work.name.label ≡ label
    next_label work some =
        ap (λ (w : Task). w.name.label) (sym (same_Some (task (get_or tiles i 0)) work (sym next_task_is ∙ some)))

    pub posted_more : (work : Task) → next_of label (Some session) ≡ Some work
        → tasks_posted_of label (Some (with_passed_to (Some i) session)) ≡ tasks_posted_of label (Some session) ++ work ∷ []
    posted_more work some =
        let found = next_found i next in
        let is : task (get_or tiles i 0) ≡ work = same_Some (task (get_or tiles i 0)) work (sym next_task_is ∙ some) in
        ap (tasks_posted_in label session.live (i + 1)) is_open
        ∙ ap (map task) found.2
        ∙ map-append task (posted_tiles flags session.passed tiles) (get_or tiles i 0 ∷ [])
        ∙ ap (λ ws. ws ++ task (get_or tiles i 0) ∷ []) (sym posted_is)
        ∙ ap (λ w. tasks_posted_of label (Some session) ++ w ∷ []) is

    pub gathered_posted : IsGathered (with_passed_to (Some i) session)
    gathered_posted = record { once = g.once; few = g.few }

    -- and fewer are to be posted
    pub posted_fewer : tiles_of live - (i + 1) < tiles_of live - session.passed
    posted_fewer = let found = next_found i next in omega (arith, tiles_are, found.0, found.1)

  -- what is posted is awaited
  pub posted_wanted : (work : Task) → Contains (tasks_posted_of label (Some session)) work → IsAwaitedTaskIn live label work session.live.part
  posted_wanted work posted =
      let image =
      image_of task (is_awaited flags) work (take session.passed tiles)
      (subst (λ ws. Contains ws work) posted_is posted) in
      let number : tile_number_of work ≡ image.0 =
      ap tile_number_of (sym image.2) ∙ number_is live label step.kind image.0 in
      let flag : is_awaited flags (tile_number_of work) ≡ true = ap (is_awaited flags) number ∙ image.1 in
      let is : work ≡ task (tile_number_of work) = sym image.2 ∙ ap task (sym number) in
      subst (IsAwaitedTaskIn live label work) (sym is_open) (flag, is)

  -- the result of a task that is awaited is in
  module _ (work : Task) (wanted : IsAwaitedTaskIn live label work session.live.part) where
    abbrev k : ℕ
    k = tile_number_of work

    there : IsAwaitedTaskIn live label work (Some step)
    there = subst (IsAwaitedTaskIn live label work) is_open wanted

    abbrev flags_after : List Bool
    flags_after = slice_set flags (tile_number_of work) false

    abbrev step_after : OpenStep
    step_after = record { kind = step.kind; awaited = slice_set step.awaited (tile_number_of work) false }

    open_after : (with_tile_in k session).live.part ≡ Some step_after
    open_after = ap (with_tile k) is_open

    within_flags : k < length flags
    within_flags =
        elim (cases_lt k (length flags)) [
          | inl within ↦ within
          | inr past ↦ absurd (true≢false (sym there.0 ∙ get_or_past flags k false past))
        ]

    clear_after : is_awaited flags_after k ≡ false
    clear_after = get_or-set_same flags k false false within_flags

    others_after : (j : ℕ) → (j ≡ k → ⊥) → is_awaited flags_after j ≡ is_awaited flags j
    others_after j other = get_or-set_other flags k j false false other

    once_after : (j : ℕ) → is_awaited flags_after j ≡ true → occurrences j tiles ≡ 1
    once_after j set =
        elim (cases_eq j k) [
          | inl same ↦ absurd (true≢false (sym set ∙ ap (is_awaited flags_after) same ∙ clear_after))
          | inr other ↦ once j (sym (others_after j other) ∙ set)
        ]

    -- one tile less is awaited
    pub taken_left : tiles_left_in (with_tile_in k session).live.part + 1 ≡ tiles_left_in session.live.part
    taken_left =
        let set : count_by (λ awaited. awaited) flags_after + cond (is_awaited flags k) 1 0
        ≡ count_by (λ awaited. awaited) flags + 0 =
        sum_by-set (λ (awaited : Bool). cond awaited 1 0) flags k false false within_flags in
        let now = ap tiles_left_in open_after in
        omega (arith, now, left_is, rw there.0 at set)

    pub taken_tiles : tiles_of (with_tile_in k session).live ≡ tiles_of live
    taken_tiles =
        ap (tiles_in session.live.composition session.live.sim.cur) open_after
        ∙ sym tiles_are

    pub gathered_taken : IsGathered (with_tile_in k session)
    gathered_taken = record {
      once = λ p j is set. once_after j
          (subst (λ (p : OpenStep). is_awaited p.awaited j ≡ true) (sym (same_step step_after p (sym open_after ∙ is))) set);
      few = let less = taken_left in let few = g.few in omega (arith, less, few);
    }

    once_posted : occurrences k (take session.passed tiles) ≤ 1
    once_posted = let all = occurrences-take k session.passed tiles in let one = once k there.0 in omega (arith, all, one)

    after_is : tasks_posted_of label (Some (with_tile_in k session)) ≡ map task (posted_tiles flags_after session.passed tiles)
    after_is = ap (tasks_posted_in label (with_tile_in k session).live session.passed) open_after

    -- where it is among what was posted, the first one is taken out
    pub taken_off : (front behind : List Task) → tasks_posted_of label (Some session) ≡ front ++ work ∷ behind
        → (Contains front work → ⊥) → tasks_posted_of label (Some (with_tile_in k session)) ≡ front ++ behind
    taken_off front behind was first =
        after_is ∙ images-taken (is_awaited flags) (is_awaited flags_after) k
        clear_after others_after task tile_number_of (number_is live label step.kind)
        (take session.passed tiles) front behind once_posted there.0
        (sym posted_is ∙ was ∙ ap (λ w. front ++ w ∷ behind) there.1)
        (λ h. first (subst (Contains front) (sym there.1) h))

    -- and where it is not, nothing changes
    pub taken_stray : (Contains (tasks_posted_of label (Some session)) work → ⊥)
        → tasks_posted_of label (Some (with_tile_in k session)) ≡ tasks_posted_of label (Some session)
    taken_stray absent =
        after_is ∙ images-kept (is_awaited flags) (is_awaited flags_after) k
        clear_after others_after task tile_number_of (number_is live label step.kind)
        (take session.passed tiles) there.0
        (λ h. absent (subst (λ ws. Contains ws work) (sym posted_is)
        (subst (Contains (map task (posted_tiles flags session.passed tiles))) (sym there.1) h)))
        ∙ sym posted_is
