-- The sums of a cover are those of all pairs.
use Rattle.std.proofs.Common.{ℕ, zero, suc, ◌+◌, ◌*◌, ◌%◌, ◌^◌, ◌<◌, ◌≡◌, ◌==◌, ℤ, pos, ◌+ℤ◌, Bool, true, false, cond}
use Rattle.std.proofs.Common.{if◌then◌else◌, List, [], ◌∷◌, length, map, sum_by, inl, inr, refl, sym, ap, ◌∙◌, zero-add}
use Rattle.std.proofs.Common.{arith}
use Rattle.std.specs.List.{range_with_len}
use Rattle.std.proofs.Math.IntN.{+ℤ_idl, +ℤ_idr}
use Rattle.std.proofs.lemmas.Bool.{cases_eq, cases_Bool}
use Rattle.std.proofs.lemmas.Bool.Decides.{nat_tests}
use Rattle.std.proofs.Math.Numerals.{one-add}
use Rattle.std.proofs.lemmas.List.Sums.{sum_by-cons}
use Rattle.std.proofs.lemmas.List.FromFn.{fill_by_all, length-map-range_with_len, get_or-map-range_with_len}
use Rattle.lj_ring.specs.declared.coordinates.Place.{Place}
use Rattle.lj_ring.specs.Ring.{sum_below, ring_sum, int_sum_below, squared_distance, image}
use Rattle.lj_task.specs.Species.{Composition, class_between}
use Rattle.lj_ring.specs.declared.mixes.Class.{Class}
use Rattle.lj_ring.specs.Scale.{Scale, is_in_cutoff, entry, bin}
use Rattle.lj_table.specs.Entries.{energy_entry, weighted_energy}
use Rattle.lj_table.proofs.Quotients.{weighted_none}
use Rattle.lj_task.specs.declared.pushes.Push.{Push}
use Rattle.lj_task.specs.Pushes.{push, push_along, no_push, energy}
use Rattle.lj_task.specs.Tiles.{Tile, chosen_energy, push_sum, tile_energy, times, are_near, IsForceCover}
use Rattle.lj_task.specs.Tiles.{IsEnergyCover}
use Rattle.lj_step.specs.Motion.{Simulation, place_at, push_of, force, next_place, moved_place, next_simulation, potential}
use Rattle.lj_step.specs.MotionLaws.{tiles_force, next_simulation_by, tiles_energy}
use Rattle.lj_step.proofs.RingSums.{sum_same, ring_sum_same, ring_sum_zero, sum_plus}
use Rattle.lj_step.proofs.BlockSums.{int_sum_same, int_sum_none, int_sum_plus}
use Rattle.lj_task.proofs.Opposites.{entry_far, along_none, same_push}

-- a pair that does not interact neither pushes nor has an energy
pub push_far : (u : Scale) (p q : Place) → is_in_cutoff u (squared_distance p q) ≡ false → push u p q ≡ no_push
unfolding push
push_far u p q far =
    let none = entry_far u (squared_distance p q) far in
    same_push (push u p q) no_push
    (ap (λ e. push_along u e (image p.x q.x)) none ∙ along_none u (image p.x q.x))
    (ap (λ e. push_along u e (image p.y q.y)) none ∙ along_none u (image p.y q.y))
    (ap (λ e. push_along u e (image p.z q.z)) none ∙ along_none u (image p.z q.z))

pub energy_far : (class : Class) (p q : Place) → is_in_cutoff class.scale (squared_distance p q) ≡ false → energy class p q ≡ pos 0
energy_far class p q far =
    ap (weighted_energy class.weight) (ap (λ (b : Bool). if b then energy_entry (entry (bin class.scale (squared_distance p q))) else pos 0) far)
    ∙ weighted_none class.weight

count_more : (i j : ℕ) (tile : Tile) (tiles : List Tile)
    → times i j (tile ∷ tiles) ≡ cond (tile i j) 1 0 + times i j tiles
count_more i j tile tiles = sum_by-cons (λ (t : Tile). cond (t i j) 1 0) tile tiles

-- the sums of tiles, each pair as often as it lies in one, along one axis
module _ (axis : Push → ℕ) (none : axis no_push ≡ 0) where
  one_term : (b : Bool) (m : ℕ) (p : Push) → (cond b 1 0 + m) * axis p ≡ axis (if b then p else no_push) + m * axis p
  one_term true m p = omega arith
  one_term false m p = sym (ap (λ k. k + m * axis p) none ∙ nothing m (axis p))
    where
      nothing : (m a : ℕ) → 0 + m * a ≡ (0 + m) * a
      nothing m a = omega arith

  tile_sum : (n : ℕ) (p : ℕ → Push) → (ℕ → Bool) → ℕ
  tile_sum n p tile = ring_sum n (λ j. axis (if tile j then p j else no_push))

  join : (a b c : ℕ) → b % 2 ^ 32 ≡ c % 2 ^ 32 → (a % 2 ^ 32 + b) % 2 ^ 32 ≡ (a + c) % 2 ^ 32
  join a b c e = omega arith

  by_times : (n i : ℕ) (p : ℕ → Push) (tiles : List Tile)
      → sum_by (λ (tile : Tile). tile_sum n p (tile i)) tiles % 2 ^ 32 ≡ ring_sum n (λ j. times i j tiles * axis (p j))
  unfolding tile_sum
  by_times n i p [] = sym (ring_sum_zero n (λ j. times i j [] * axis (p j)) (λ j h. zero_times (axis (p j))))
    where
      zero_times : (a : ℕ) → (0 * a) % 2 ^ 32 ≡ 0
      zero_times a = omega arith
  by_times n i p (tile ∷ tiles) =
      ap (λ s. s % 2 ^ 32) (sum_by-cons (λ (t : Tile). tile_sum n p (t i)) tile tiles)
      ∙ join (sum_below n (λ j. axis (if tile i j then p j else no_push)))
      (sum_by (λ (t : Tile). tile_sum n p (t i)) tiles)
      (sum_below n (λ j. times i j tiles * axis (p j))) (by_times n i p tiles)
      ∙ ap (λ s. s % 2 ^ 32) (sym (sum_plus n (λ j. axis (if tile i j then p j else no_push))
      (λ j. times i j tiles * axis (p j))))
      ∙ ap (λ s. s % 2 ^ 32) (sum_same n (λ j. axis (if tile i j then p j else no_push) + times i j tiles * axis (p j))
      (λ j. times i j (tile ∷ tiles) * axis (p j))
      (λ j h. sym (ap (λ k. k * axis (p j)) (count_more i j tile tiles) ∙ one_term (tile i j) (times i j tiles) (p j))))

  once : (m : ℕ) (p q : Push) → m ≡ 1 → q ≡ p → (m * axis p) % 2 ^ 32 ≡ axis q % 2 ^ 32
  once m p q e same =
      ap (λ k. (k * axis p) % 2 ^ 32) e ∙ ap (λ k. k % 2 ^ 32) (single (axis p)) ∙ sym (ap (λ r. axis r % 2 ^ 32) same)
    where
      single : (a : ℕ) → 1 * a ≡ a
      single a = omega arith

  never : (m : ℕ) (p q : Push) → p ≡ no_push → q ≡ no_push → (m * axis p) % 2 ^ 32 ≡ axis q % 2 ^ 32
  never m p q first second =
      ap (λ r. (m * axis r) % 2 ^ 32) first ∙ ap (λ a. (m * a) % 2 ^ 32) none ∙ nothing m
      ∙ sym (ap (λ r. axis r % 2 ^ 32) second ∙ ap (λ a. a % 2 ^ 32) none)
    where
      nothing : (m : ℕ) → (m * 0) % 2 ^ 32 ≡ 0 % 2 ^ 32
      nothing m = omega arith

  not_in : (m : ℕ) (p q : Push) → m ≡ 0 → q ≡ no_push → (m * axis p) % 2 ^ 32 ≡ axis q % 2 ^ 32
  not_in m p q e second =
      ap (λ k. (k * axis p) % 2 ^ 32) e ∙ nothing (axis p)
      ∙ sym (ap (λ r. axis r % 2 ^ 32) second ∙ ap (λ a. a % 2 ^ 32) none)
    where
      nothing : (a : ℕ) → (0 * a) % 2 ^ 32 ≡ 0 % 2 ^ 32
      nothing a = omega arith

  pair_counts : (u : Composition) (frame : List Place) (tiles : List Tile) → IsForceCover u frame tiles → (i j : ℕ)
      → i < length frame → j < length frame
      → (times i j tiles * axis (push (class_between u i j).scale (place_at frame i) (place_at frame j))) % 2 ^ 32
      ≡ axis (push_of u frame i j) % 2 ^ 32
  pair_counts u frame tiles covers i j hi hj =
      elim (cases_eq j i) [
        | inl same ↦
            let e : (j == i) ≡ true = grind (arith, nat_tests) in
            not_in (times i j tiles) (push (class_between u i j).scale (place_at frame i) (place_at frame j)) (push_of u frame i j)
            (ap (λ k. times i k tiles) same ∙ covers.itself i hi)
            (ap (λ (b : Bool). if b then no_push else push (class_between u i j).scale (place_at frame i) (place_at frame j)) e)
        | inr other ↦
            let e : (j == i) ≡ false = grind (arith, nat_tests) in
            let is : push_of u frame i j ≡ push (class_between u i j).scale (place_at frame i) (place_at frame j) =
            ap (λ (b : Bool). if b then no_push else push (class_between u i j).scale (place_at frame i) (place_at frame j)) e in
            elim (cases_Bool (are_near u frame i j)) [
              | inl near ↦ once (times i j tiles) (push (class_between u i j).scale (place_at frame i) (place_at frame j)) (push_of u frame i j)
                  (covers.near i j hi hj (λ f. other (sym f)) near) is
              | inr far ↦
                  let none_far = push_far (class_between u i j).scale (place_at frame i) (place_at frame j) far in
                  never (times i j tiles) (push (class_between u i j).scale (place_at frame i) (place_at frame j))
                  (push_of u frame i j) none_far (is ∙ none_far)
            ]
      ]

  cover_along : (u : Composition) (frame : List Place) (tiles : List Tile) → IsForceCover u frame tiles
      → (i : ℕ) → i < length frame
      → sum_by (λ (tile : Tile). tile_sum (length frame) (λ j. push (class_between u i j).scale (place_at frame i) (place_at frame j)) (tile i))
      tiles % 2 ^ 32
      ≡ ring_sum (length frame) (λ j. axis (push_of u frame i j))
  cover_along u frame tiles covers i hi =
      by_times (length frame) i (λ j. push (class_between u i j).scale (place_at frame i) (place_at frame j)) tiles
      ∙ ring_sum_same (length frame) (λ j. times i j tiles * axis (push (class_between u i j).scale (place_at frame i) (place_at frame j)))
      (λ j. axis (push_of u frame i j))
      (λ j hj. pair_counts u frame tiles covers i j hi hj)

-- the sums of a cover are the forces
pub cover_force : (u : Composition) (frame : List Place) (tiles : List Tile) → IsForceCover u frame tiles → (i : ℕ)
    → i < length frame → tiles_force u frame tiles i ≡ force u frame i
unfolding tiles_force push_sum force tile_sum
cover_force u frame tiles covers i hi =
    same_push (tiles_force u frame tiles i) (force u frame i)
    (cover_along (λ p. p.x) refl u frame tiles covers i hi) (cover_along (λ p. p.y) refl u frame tiles covers i hi)
    (cover_along (λ p. p.z) refl u frame tiles covers i hi)

-- a step over a cover is the step over all pairs
pub cover_step : (u : Composition) (sim : Simulation) (tiles : List Tile) → IsForceCover u sim.cur tiles
    → next_simulation_by u tiles sim ≡ next_simulation u sim
cover_step u sim tiles covers = ap (λ frame. after sim frame) same_frame
  where
    after : Simulation → List Place → Simulation
    after sim frame = record { prev = sim.cur; cur = frame; step = sim.step +ℤ sim.dir; dir = sim.dir }

    same_frame : map (λ i. next_place (place_at sim.prev i) (place_at sim.cur i) (tiles_force u sim.cur tiles i))
        (range_with_len 0 (length sim.cur))
        ≡ map (moved_place u sim.prev sim.cur) (range_with_len 0 (length sim.cur))
    same_frame =
        fill_by_all (moved_place u sim.prev sim.cur) (map
        (λ i. next_place (place_at sim.prev i) (place_at sim.cur i) (tiles_force u sim.cur tiles i))
        (range_with_len 0 (length sim.cur)))
        (length sim.cur) (record { x = 0; y = 0; z = 0 })
        (length-map-range_with_len (λ i. next_place (place_at sim.prev i) (place_at sim.cur i)
        (tiles_force u sim.cur tiles i)) 0 (length sim.cur))
        (λ k h.
        get_or-map-range_with_len (λ i. next_place (place_at sim.prev i) (place_at sim.cur i)
        (tiles_force u sim.cur tiles i)) 0 (length sim.cur) k k _ h (omega arith)
        ∙ ap (λ f. next_place (place_at sim.prev k) (place_at sim.cur k) f) (cover_force u sim.cur tiles covers k h))

-- the energy of a pair as often as it lies in a tile
repeated : ℕ → ℤ → ℤ
repeated zero e = pos 0
repeated (suc m) e = e +ℤ repeated m e

repeated_none : (m : ℕ) (e : ℤ) → e ≡ pos 0 → repeated m e ≡ pos 0
unfolding repeated
repeated_none zero e none = refl
repeated_none (suc m) e none = ap (λ k. k +ℤ repeated m e) none ∙ +ℤ_idl (repeated m e) ∙ repeated_none m e none

repeated_once : (m : ℕ) (e : ℤ) → m ≡ 1 → repeated m e ≡ e
unfolding repeated
repeated_once m e one = ap (λ k. repeated k e) one ∙ +ℤ_idr e

repeated_more : (b : Bool) (m : ℕ) (e : ℤ) → repeated (cond b 1 0 + m) e ≡ (if b then e else pos 0) +ℤ repeated m e
unfolding repeated
repeated_more true m e = ap (λ k. repeated k e) (one-add m)
repeated_more false m e = ap (λ k. repeated k e) (zero-add m) ∙ sym (+ℤ_idl (repeated m e))

pair_energy : Composition → List Place → ℕ → ℕ → ℤ
pair_energy u frame i j = energy (class_between u i j) (place_at frame i) (place_at frame j)

energies_by_times : (u : Composition) (frame : List Place) (tiles : List Tile)
    → tiles_energy u frame tiles ≡ int_sum_below (length frame)
    (λ j. int_sum_below j (λ i. repeated (times i j tiles) (pair_energy u frame i j)))
unfolding repeated pair_energy
energies_by_times u frame [] =
    sym (int_sum_none (length frame) (λ j. int_sum_below j (λ i. repeated (times i j []) (pair_energy u frame i j)))
    (λ j h. int_sum_none j (λ i. repeated (times i j []) (pair_energy u frame i j)) (λ i k. refl)))
energies_by_times u frame (tile ∷ tiles) =
    ap (λ s. tile_energy u frame tile +ℤ s) (energies_by_times u frame tiles)
    ∙ sym (int_sum_plus (length frame) (λ j. int_sum_below j
    (λ i. chosen_energy (class_between u i j) (tile i j) (place_at frame i) (place_at frame j)))
    (λ j. int_sum_below j (λ i. repeated (times i j tiles) (pair_energy u frame i j))))
    ∙ int_sum_same (length frame)
    (λ j. int_sum_below j (λ i. chosen_energy (class_between u i j) (tile i j) (place_at frame i) (place_at frame j)) +ℤ int_sum_below j
    (λ i. repeated (times i j tiles) (pair_energy u frame i j)))
    (λ j. int_sum_below j (λ i. repeated (times i j (tile ∷ tiles)) (pair_energy u frame i j)))
    (λ j h. row u frame tile tiles j)
  where
    row : (u : Composition) (frame : List Place) (tile : Tile) (tiles : List Tile) (j : ℕ)
        → int_sum_below j (λ i. chosen_energy (class_between u i j) (tile i j) (place_at frame i) (place_at frame j)) +ℤ int_sum_below j
        (λ i. repeated (times i j tiles) (pair_energy u frame i j))
        ≡ int_sum_below j (λ i. repeated (times i j (tile ∷ tiles)) (pair_energy u frame i j))
    row u frame tile tiles j =
        sym (int_sum_plus j (λ i. chosen_energy (class_between u i j) (tile i j) (place_at frame i) (place_at frame j))
        (λ i. repeated (times i j tiles) (pair_energy u frame i j)))
        ∙ int_sum_same j (λ i. chosen_energy (class_between u i j) (tile i j) (place_at frame i) (place_at frame j) +ℤ repeated
        (times i j tiles) (pair_energy u frame i j))
        (λ i. repeated (times i j (tile ∷ tiles)) (pair_energy u frame i j))
        (λ i k. sym (ap (λ m. repeated m (pair_energy u frame i j)) (count_more i j tile tiles)
        ∙ repeated_more (tile i j) (times i j tiles) (pair_energy u frame i j)))

-- the sums of a cover are the potential
pub cover_energy : (u : Composition) (frame : List Place) (tiles : List Tile) → IsEnergyCover u frame tiles
    → tiles_energy u frame tiles ≡ potential u frame
unfolding pair_energy
cover_energy u frame tiles covers =
    energies_by_times u frame tiles
    ∙ int_sum_same (length frame) (λ j. int_sum_below j (λ i. repeated (times i j tiles) (pair_energy u frame i j)))
    (λ j. int_sum_below j (λ i. energy (class_between u i j) (place_at frame i) (place_at frame j)))
    (λ j h. int_sum_same j (λ i. repeated (times i j tiles) (pair_energy u frame i j))
    (λ i. energy (class_between u i j) (place_at frame i) (place_at frame j))
    (λ i k. elim (cases_Bool (are_near u frame i j)) [
      | inl near ↦ repeated_once (times i j tiles) (energy (class_between u i j) (place_at frame i) (place_at frame j))
          (covers.near i j k h near)
      | inr far ↦
          let none = energy_far (class_between u i j) (place_at frame i) (place_at frame j) far in
          repeated_none (times i j tiles) (energy (class_between u i j) (place_at frame i) (place_at frame j)) none ∙ sym none
    ]))
