-- The sums of a step as it is opened.
use Rattle.std.proofs.Common.{ℕ, ◌+◌, ◌*◌, ◌^◌, ◌<◌, ◌≤◌, ◌≡◌, ◌≢◌, ◌==◌, ◌⊎◌, pos, unsigned_abs, Bool, true, false}
use Rattle.std.proofs.Common.{List, length, map, replicate, slice_index_or, count_by, if◌then◌else◌, Option, Some, inl, inr}
use Rattle.std.proofs.Common.{sym, ap, ◌∙◌, subst, arith}
use Rattle.std.specs.List.{range_with_len}
use Rattle.std.proofs.lemmas.Bool.{cases_eq, cases_Bool}
use Rattle.std.proofs.lemmas.Bool.Decides.{nat_tests}
use Rattle.std.proofs.lemmas.List.{get_or-replicate}
use Rattle.std.proofs.lemmas.List.Sums.{length-filter, count_by-le-length}
use Rattle.std.proofs.lemmas.List.FromFn.{length-range_with_len}
use Rattle.lj_ring.specs.declared.coordinates.Place.{Place}
use Rattle.lj_task.specs.Species.{Composition, class_between}
use Rattle.lj_task.specs.declared.task_name.Kind.{Kind}
use Rattle.lj_task.specs.Pushes.{no_push, push, energy}
use Rattle.lj_task.specs.Tiles.{are_near}
use Rattle.lj_step.specs.declared.partial.Partial.{Partial}
use Rattle.lj_step.specs.Motion.{place_at, push_of}
use Rattle.lj_step.specs.MotionLaws.{IsFrameOnRing}
use Rattle.lj_step.specs.OpenSteps.{blocks, is_tile, cover}
use Rattle.lj_step.specs.Sums.{IsOpen, IsPartial, is_pair_awaited}
use Rattle.lj_step.proofs.Covers.{push_far, energy_far}
use Rattle.lj_step.proofs.Flags.{count_flags}
use Rattle.lj_step.proofs.OpenedFlags.{opened_within, near_awaited}
use Rattle.lj_step.proofs.PartialForces.{force_none}
use Rattle.lj_step.proofs.PartialEnergies.{energy_none}

-- a pair that does not interact, or is one atom, does not push
pushes_none : (u : Composition) (frame : List Place) (i j : ℕ) → (i ≡ j) ⊎ (are_near u frame i j ≡ false)
    → push_of u frame i j ≡ no_push
pushes_none u frame i j (inl same) =
    let itself : (j == i) ≡ true = grind (arith, nat_tests) in
    ap (λ (b : Bool). if b then no_push else push (class_between u i j).scale (place_at frame i) (place_at frame j)) itself
pushes_none u frame i j (inr far) =
    let none = push_far (class_between u i j).scale (place_at frame i) (place_at frame j) far in
    elim (cases_Bool (j == i)) [
      | inl itself ↦ ap (λ (b : Bool). if b then no_push else push (class_between u i j).scale (place_at frame i) (place_at frame j)) itself
      | inr other ↦
          ap (λ (b : Bool). if b then no_push else push (class_between u i j).scale (place_at frame i) (place_at frame j)) other ∙ none
    ]

-- an opened step awaits each pair that pushes or has an energy
module _ (u : Composition) (frame : List Place) (flags : List Bool) (ring : IsFrameOnRing frame) (few : length frame ≤ 4096)
    (opened : flags ≡ map (is_tile u frame) (range_with_len 0 (64 * blocks (length frame)))) where
  near_set : (i j : ℕ) → i < length frame → j < length frame → i ≢ j → are_near u frame i j ≡ true
      → is_pair_awaited flags i j ≡ true
  near_set i j hi hj other near =
      ap (λ xs. is_pair_awaited xs i j) opened ∙ near_awaited u frame ring few i j hi hj other near

  force_awaited : (i j : ℕ) → i < length frame → j < length frame
      → (is_pair_awaited flags i j ≡ true) ⊎ (push_of u frame i j ≡ no_push)
  force_awaited i j hi hj =
      elim (cases_eq i j) [
        | inl same ↦ inr (pushes_none u frame i j (inl same))
        | inr other ↦
            elim (cases_Bool (are_near u frame i j)) [
              | inl near ↦ inl (near_set i j hi hj other near)
              | inr far ↦ inr (pushes_none u frame i j (inr far))
            ]
      ]

  energy_awaited : (i j : ℕ) → i < j → j < length frame
      → (is_pair_awaited flags i j ≡ true) ⊎ (energy (class_between u i j) (place_at frame i) (place_at frame j) ≡ pos 0)
  energy_awaited i j before hj =
      let hi : i < length frame = omega arith in
      let other : i ≢ j = omega arith in
      elim (cases_Bool (are_near u frame i j)) [
        | inl near ↦ inl (near_set i j hi hj other near)
        | inr far ↦ inr (energy_far (class_between u i j) (place_at frame i) (place_at frame j) far)
      ]

-- an opened step
pub opened_is : (u : Composition) (frame : List Place) (p : Partial) (kind : Kind) → IsFrameOnRing frame → length frame ≤ 4096
    → p.tiles.items ≡ cover u frame → p.awaited.items
    ≡ map (is_tile u frame) (range_with_len 0 (64 * blocks (length frame)))
    → p.left ≡ length (cover u frame) → p.pushes.items ≡ replicate (length frame) no_push
    → p.energy ≡ pos 0 → IsOpen u frame p kind
opened_is u frame p kind ring few tiles awaited left pushes energy = record {
  tiles = tiles;
  within = λ k set. opened_within u frame k (sym (ap (λ flags. slice_index_or flags k false) awaited) ∙ set);
  left = left ∙ cover_length ∙ sym (ap (count_by (λ awaited. awaited)) awaited);
  pushes = λ e i h.
      ap (λ xs. slice_index_or xs i no_push) pushes ∙ get_or-replicate (length frame) i no_push no_push h
      ∙ sym (force_none u frame p.awaited.items i
      (λ j below. force_awaited u frame p.awaited.items ring few awaited i j h below));
  energy = λ e. energy ∙ sym (energy_none u frame p.awaited.items
      (energy_awaited u frame p.awaited.items ring few awaited));
  size = size;
}
  where
    cover_length : length (cover u frame)
        ≡ count_by (λ awaited. awaited) (map (is_tile u frame) (range_with_len 0 (64 * blocks (length frame))))
    cover_length = length-filter (is_tile u frame) (range_with_len 0 (64 * blocks (length frame)))
        ∙ sym (count_flags (is_tile u frame) (range_with_len 0 (64 * blocks (length frame))))

    few_tiles : p.left ≤ 4096
    few_tiles =
        let most = count_by-le-length (is_tile u frame) (range_with_len 0 (64 * blocks (length frame))) in
        let by_length = length-filter (is_tile u frame) (range_with_len 0 (64 * blocks (length frame))) in
        let numbers = length-range_with_len 0 (64 * blocks (length frame)) in
        omega (arith, left, most, by_length, numbers)

    size : unsigned_abs p.energy + p.left * 2 ^ 63 ≤ 2 ^ 75
    size = rw energy (omega (arith, few_tiles))

-- the open step of a partial by its kind
pub open_of : (u : Composition) (frame : List Place) (p : Partial) (kind : Kind) → p.kind ≡ Some kind
    → IsPartial u frame p p.kind → IsOpen u frame p kind
open_of u frame p kind e h = subst (λ (o : Option Kind). IsPartial u frame p o) e h

pub partial_of : (u : Composition) (frame : List Place) (p : Partial) (kind : Kind) → p.kind ≡ Some kind
    → IsOpen u frame p kind → IsPartial u frame p p.kind
partial_of u frame p kind e h = subst (λ (o : Option Kind). IsPartial u frame p o) (sym e) h
