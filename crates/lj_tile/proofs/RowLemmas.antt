-- The sums of rows of pairs, and what they come to.
use Rattle.std.proofs.Common.{ℕ, zero, suc, ◌+◌, ◌%◌, ◌^◌, ◌<◌, ◌≤◌, ◌≡◌, Bool, true, false, length}
use Rattle.std.proofs.Common.{List, pos, slice_set, refl, sym, ap, ◌∙◌, inl, inr, add-one, arith}
use Rattle.std.proofs.Common.{rules}
use Rattle.std.proofs.lemmas.Bool.{cases_eq, cases_lt, cases_Bool}
use Rattle.std.proofs.lemmas.Bool.Decides.{nat_tests}
use Rattle.lj_ring.specs.Ring.{sum_below, ring_sum, squared_distance, IsOnRing}
use Rattle.lj_ring.specs.Scale.{Scale, is_in_cutoff, bin, entry}
use Rattle.lj_ring.specs.declared.mixes.Class.{Class}
use Rattle.std.specs.Prelude.{if◌then◌else◌}
use Rattle.lj_ring.specs.Mix.{class_of}
use Rattle.lj_ring.proofs.MixLemmas.{class_symmetric}
use Rattle.lj_ring.specs.declared.coordinates.Place.{Place}
use Rattle.lj_table.specs.Entries.{push_at, energy_at, energy_entry}
use Rattle.lj_table.proofs.Quotients.{weighted_none}
use Rattle.lj_task.specs.declared.pushes.Push.{Push}
use Rattle.lj_task.specs.Pushes.{push, no_push, sum_of_pushes, energy}
use Rattle.lj_task.specs.Tiles.{place_at, chosen_push, push_sum}
use Rattle.lj_task.specs.Block.{Block}
use Rattle.lj_task.specs.Species.{species_at}
use Rattle.std.specs.Int.{bit_at}
use Rattle.lj_task.specs.Task.{Task, IsTask, are_apart, are_in_order, class_in, task_force, task_second}
use Rattle.lj_tile.specs.Rows.{ordered_push, push_back, sum_on_first, sum_on_second, push_in, pushes_in}
use Rattle.lj_tile.specs.Rows.{IsSilent}
use Rattle.lj_task.proofs.Opposites.{nothing_is}
use Rattle.lj_tile.proofs.SumLemmas.{sum_far, sum_same}
use Rattle.lj_task.proofs.Opposites.{same_push, entry_far, nothing_back}

sum_more : (f : ℕ → ℕ) (n p : ℕ) → p ≡ f n → (ring_sum n f + p) % 2 ^ 32 ≡ ring_sum (n + 1) f
sum_more f n p e = rw (add-one, e) (omega arith)

-- the ring sum of the first n of many pushes
abbrev sums_to : (ℕ → Push) → ℕ → Push
sums_to f n = record {
  x = ring_sum n (λ k. (f k).x);
  y = ring_sum n (λ k. (f k).y);
  z = ring_sum n (λ k. (f k).z);
}

sums_more : (f : ℕ → Push) (n : ℕ) (p : Push) → p ≡ f n → sum_of_pushes (sums_to f n) p ≡ sums_to f (n + 1)
sums_more f n p counts =
    let x = sum_more (λ k. (f k).x) n p.x (ap (λ (q : Push). q.x) counts) in
    let y = sum_more (λ k. (f k).y) n p.y (ap (λ (q : Push). q.y) counts) in
    let z = sum_more (λ k. (f k).z) n p.z (ap (λ (q : Push). q.z) counts) in
    cc (x, y, z)

-- of pushes that are none from m on
sums_far : (f : ℕ → Push) (m n : ℕ) → m ≤ n → ((k : ℕ) → m ≤ k → k < n → f k ≡ no_push) → sums_to f m ≡ sums_to f n
sums_far f m n le none =
    let x = sum_far (λ k. (f k).x) m n le (λ k h l. ap (λ (p : Push). p.x) (none k h l)) in
    let y = sum_far (λ k. (f k).y) m n le (λ k h l. ap (λ (p : Push). p.y) (none k h l)) in
    let z = sum_far (λ k. (f k).z) m n le (λ k h l. ap (λ (p : Push). p.z) (none k h l)) in
    rw (x, y, z) refl

sums_same : (f g : ℕ → Push) (n : ℕ) → ((k : ℕ) → k < n → f k ≡ g k) → sums_to f n ≡ sums_to g n
sums_same f g n same =
    let x = sum_same n (λ k. (f k).x) (λ k. (g k).x) (λ k h. ap (λ (p : Push). p.x) (same k h)) in
    let y = sum_same n (λ k. (f k).y) (λ k. (g k).y) (λ k h. ap (λ (p : Push). p.y) (same k h)) in
    let z = sum_same n (λ k. (f k).z) (λ k. (g k).z) (λ k h. ap (λ (p : Push). p.z) (same k h)) in
    rw (x, y, z) refl

-- one place more
pub pushes_more : (u : Scale) (set : ℕ) (here : Place) (places : List Place) (n : ℕ) (p : Push)
    → p ≡ push_in u set here places n → sum_of_pushes (pushes_in u set here places n) p ≡ pushes_in u set here places (n + 1)
pushes_more u set here places n p counts = sums_more (push_in u set here places) n p counts

-- one row more
pub second_more : (w : Task) (s n : ℕ) (p : Push) → p ≡ push_back w n s → sum_of_pushes (sum_on_second w s n) p ≡ sum_on_second w s (n + 1)
second_more w s n p counts = sums_more (λ t. push_back w t s) n p counts

outside : (u : Scale) (set : ℕ) (here : Place) (places : List Place) (s : ℕ) → bit_at set s ≡ 0
    → push_in u set here places s ≡ no_push
outside u set here places s not = rw not refl

-- places outside of the set leave the sum as it is
pub pushes_past : (u : Scale) (set : ℕ) (here : Place) (places : List Place) (m n : ℕ) → m ≤ n
    → ((s : ℕ) → m ≤ s → s < n → bit_at set s ≡ 0) → pushes_in u set here places m ≡ pushes_in u set here places n
pushes_past u set here places m n le none =
    sums_far (push_in u set here places) m n le (λ s h k. outside u set here places s (none s h k))

-- a row of silent places adds nothing
pub row_silent : (w : Task) (t : ℕ) → ((s : ℕ) → s < length w.b.places → IsSilent w t s)
    → no_push ≡ sum_on_first w t (length w.b.places)
row_silent w t silent = sums_far (ordered_push w t) 0 (length w.b.places) (omega arith) (λ s h k. (silent s k).there)

pub length_set : (sums : List Push) (n : ℕ) (sum : Push) → length (slice_set sums n sum) ≡ length sums
length_set sums n sum = search (rules, arith)

-- a pair out of reach has no energy
far_energy : (class : Class) (p q : Place) → is_in_cutoff class.scale (squared_distance p q) ≡ false → energy class p q ≡ pos 0
far_energy class p q far =
    let u : Scale = class.scale in
    let none : energy_at u (squared_distance p q) ≡ pos 0 =
    ap (λ (b : Bool). if b then energy_entry (entry (bin u (squared_distance p q))) else pos 0) far in
    rw none (weighted_none class.weight)

-- a pair that is not in order is looked at from its other side, or not at all
pub not_in_order : (w : Task) (t s : ℕ) → are_in_order w t s ≡ false → IsSilent w t s
not_in_order w t s e = record { there = rw e refl; back = rw e refl; energy = rw e refl }

-- a pair out of reach is silent
pub far_silent : (w : Task) (t s : ℕ) → IsOnRing (place_at w.a.places t) → IsOnRing (place_at w.b.places s)
    → is_in_cutoff (class_in w t s).scale (squared_distance (place_at w.a.places t) (place_at w.b.places s)) ≡ false
    → IsSilent w t s
far_silent w t s here there far =
    let u : Scale = (class_in w t s).scale in
    let p : Place = place_at w.a.places t in
    let q : Place = place_at w.b.places s in
    let none : push_at u (squared_distance p q) ≡ pos 0 = entry_far u (squared_distance p q) far in
    let one : push u p q ≡ no_push = sym (nothing_is u p q none) in
    let other : push u q p ≡ no_push = nothing_back u p q here there none in
    elim (cases_Bool (are_in_order w t s)) [
      | inl ordered ↦ record {
        there = rw (ordered, one) refl;
        back = rw (ordered, other) refl;
        energy = rw ordered (far_energy (class_in w t s) p q far);
      }
      | inr not ↦ not_in_order w t s not
    ]

pub sum_both : (n : ℕ) (f g h : ℕ → ℕ) → ((k : ℕ) → k < n → f k + g k ≡ h k) → sum_below n f + sum_below n g ≡ sum_below n h
sum_both zero f g h same = refl
sum_both (suc n) f g h same =
    let before = sum_both n f g h (λ k l. same k (omega arith)) in
    let last = same n (omega arith) in
    omega (arith, before, last)

-- of two blocks each pair is in order, and of different atoms
in_order : (w : Task) (t s : ℕ) → t < 64 → w.name.bi < w.name.bj → are_in_order w t s ≡ true
in_order w t s t_in less = grind (arith, nat_tests)

apart : (w : Task) (t s : ℕ) → t < 64 → w.name.bi < w.name.bj → are_apart w t s ≡ true
apart w t s t_in less = grind (arith, nat_tests)

-- so the sums of their pairs in order are those of the task
pub first_is : (w : Task) (t : ℕ) → IsTask w → w.name.bi < w.name.bj → t < length w.a.places
    → sum_on_first w t (length w.b.places) ≡ task_force w t
unfolding push_sum
first_is w t sound less t_in =
    let few : t < 64 = omega (arith, t_in, sound.most_first) in
    sums_same (ordered_push w t) _ (length w.b.places) (λ s h.
    ap (λ chosen. chosen_push (class_in w t s).scale chosen (place_at w.a.places t) (place_at w.b.places s))
    (in_order w t s few less ∙ sym (apart w t s few less)))

pub second_is : (w : Task) (s : ℕ) → IsTask w → w.name.bi < w.name.bj → sum_on_second w s (length w.a.places) ≡ task_second w s
unfolding push_sum
second_is w s sound less =
    sums_same (λ t. push_back w t s) _ (length w.a.places) (λ t h.
    let few : t < 64 = omega (arith, h, sound.most_first) in
    ap (λ chosen. chosen_push (class_in w t s).scale chosen (place_at w.b.places s) (place_at w.a.places t))
    (in_order w t s few less ∙ sym (apart w t s few less)))

-- of one block twice it is that of the places exchanged
class_turned : (w : Task) (t s : ℕ) → w.a ≡ w.b → class_in w s t ≡ class_in w t s
class_turned w t s blocks =
    let here : species_at w.b.species_bits t ≡ species_at w.a.species_bits t =
    ap (λ (block : Block). species_at block.species_bits t) (sym blocks) in
    let there : species_at w.a.species_bits s ≡ species_at w.b.species_bits s =
    ap (λ (block : Block). species_at block.species_bits s) blocks in
    ap (λ sp. class_of w.mix sp (species_at w.b.species_bits t)) there
    ∙ ap (class_of w.mix (species_at w.b.species_bits s)) here
    ∙ class_symmetric w.mix (species_at w.b.species_bits s) (species_at w.a.species_bits t)

-- a part of a push where one of two tests chooses it, or neither
module _ (axis : Push → ℕ) (none : axis no_push ≡ 0) (u : Scale) (p q : Place) where
  chosen_part : Bool → ℕ
  chosen_part chosen = axis (chosen_push u chosen p q)

  first_part : (one other both : Bool) → one ≡ true → other ≡ false → both ≡ true
      → chosen_part one + chosen_part other ≡ chosen_part both
  unfolding chosen_part
  first_part one other both e f g = rw (e, f, g, none) (omega arith)

  second_part : (one other both : Bool) → one ≡ false → other ≡ true → both ≡ true
      → chosen_part one + chosen_part other ≡ chosen_part both
  unfolding chosen_part
  second_part one other both e f g = rw (e, f, g, none) (omega arith)

  no_part : (one other both : Bool) → one ≡ false → other ≡ false → both ≡ false
      → chosen_part one + chosen_part other ≡ chosen_part both
  unfolding chosen_part
  no_part one other both e f g = rw (e, f, g, none) (omega arith)

  -- of one block a pair is in order the one way or the other, or of one atom
  either_part : (w : Task) (t s : ℕ) → w.name.bi ≡ w.name.bj
      → chosen_part (are_in_order w t s) + chosen_part (are_in_order w s t) ≡ chosen_part (are_apart w t s)
  either_part w t s same =
      elim (cases_lt t s) [
        | inl less ↦
            let e : are_in_order w t s ≡ true = grind (arith, nat_tests) in
            let f : are_in_order w s t ≡ false = grind (arith, nat_tests) in
            let g : are_apart w t s ≡ true = grind (arith, nat_tests) in
            first_part _ _ _ e f g
        | inr more ↦ elim (cases_eq t s) [
          | inl itself ↦
              let e : are_in_order w t s ≡ false = grind (arith, nat_tests) in
              let f : are_in_order w s t ≡ false = grind (arith, nat_tests) in
              let g : are_apart w t s ≡ false = grind (arith, nat_tests) in
              no_part _ _ _ e f g
          | inr other ↦
              let e : are_in_order w t s ≡ false = grind (arith, nat_tests) in
              let f : are_in_order w s t ≡ true = grind (arith, nat_tests) in
              let g : are_apart w t s ≡ true = grind (arith, nat_tests) in
              second_part _ _ _ e f g
        ]
      ]

either_way : (axis : Push → ℕ) → axis no_push ≡ 0 → (w : Task) (t s : ℕ) → w.name.bi ≡ w.name.bj → w.a ≡ w.b
    → axis (ordered_push w t s) + axis (push_back w s t)
    ≡ axis (chosen_push (class_in w t s).scale (are_apart w t s) (place_at w.a.places t) (place_at w.b.places s))
unfolding chosen_part
either_way axis none w t s same blocks =
    let here : place_at w.b.places t ≡ place_at w.a.places t = ap (λ (block : Block). place_at block.places t) (sym blocks) in
    let there : place_at w.a.places s ≡ place_at w.b.places s = ap (λ (block : Block). place_at block.places s) blocks in
    let turned : class_in w s t ≡ class_in w t s = class_turned w t s blocks in
    rw (here, there, turned)
    (either_part axis none (class_in w t s).scale (place_at w.a.places t) (place_at w.b.places s) w t s same)

-- the two sums of an atom of one block make up that of the task
pub joined_is : (w : Task) (t : ℕ) → IsTask w → w.name.bi ≡ w.name.bj
    → sum_of_pushes (sum_on_first w t (length w.b.places)) (sum_on_second w t (length w.a.places)) ≡ task_force w t
unfolding push_sum
joined_is w t sound same =
    same_push (sum_of_pushes (sum_on_first w t (length w.b.places)) (sum_on_second w t (length w.a.places))) (task_force w t)
    (along (λ p. p.x) refl) (along (λ p. p.y) refl) (along (λ p. p.z) refl)
  where
    along : (axis : Push → ℕ) → axis no_push ≡ 0
        → (ring_sum (length w.b.places) (λ s. axis (ordered_push w t s)) + ring_sum (length w.a.places) (λ s. axis (push_back w s t))) % 2 ^ 32
        ≡ ring_sum (length w.b.places) (λ s.
        axis (chosen_push (class_in w t s).scale (are_apart w t s) (place_at w.a.places t) (place_at w.b.places s)))
    along axis none =
        let blocks : w.a ≡ w.b = sound.diagonal same in
        let sizes : length w.a.places ≡ length w.b.places = ap (λ (block : Block). length block.places) blocks in
        let both = sum_both (length w.b.places) (λ s. axis (ordered_push w t s)) (λ s. axis (push_back w s t)) _
        (λ s h. either_way axis none w t s same blocks) in
        let counted = ap (λ n. sum_below n (λ s. axis (push_back w s t))) sizes in
        omega (arith, both, counted)
