-- The places of a block that may interact with an atom, split by their species.
use Rattle.std.proofs.Common.{ℕ, ◌+◌, ◌-◌, ◌%◌, ◌^◌, ◌<◌, ◌≤◌, ◌≡◌, ◌&&◌, Bool, true, false, nat_lt, nat_le, min, length, bit_and, w64, refl, sym, ap, subst, ◌∙◌, inl, inr, arith}
use Rattle.std.specs.Int.{bit_at, bit_not}
use Rattle.std.proofs.lemmas.Nat.Bits.{bit_at_and, bit_at_not, bit_at-lt, bit_at_ones, bit_at_ones_above}
use Rattle.std.proofs.lemmas.Bool.{cases_lt}
use Rattle.std.proofs.lemmas.Bool.Decides.{nat_tests}
use Rattle.lj_ring.specs.declared.coordinates.Place.{Place}
use Rattle.lj_ring.specs.declared.mixes.Species.{Species}
use Rattle.lj_ring.specs.declared.mixes.Species.TheVariants.{First, Second}
use Rattle.lj_ring.specs.Mix.{class_of, can_interact}
use Rattle.lj_ring.specs.Ring.{ring_sum, squared_distance, IsOnRing}
use Rattle.lj_ring.proofs.MixLemmas.{cannot_interact}
use Rattle.lj_ring.specs.Scale.{Scale}
use Rattle.lj_task.specs.declared.pushes.Push.{Push}
use Rattle.lj_task.specs.Pushes.{no_push, sum_of_pushes}
use Rattle.lj_task.specs.Species.{is_in, species_at}
use Rattle.lj_task.specs.Tiles.{place_at, chosen_push}
use Rattle.lj_task.specs.Task.{Task, are_in_order, class_in}
use Rattle.lj_tile.specs.Rows.{ordered_push, sum_on_first, pushes_in, push_in, IsSilent}
use Rattle.lj_tile.specs.RowSets.{IsSplit, in_none, in_firsts, in_seconds, RowSplit, SplitRow}
use Rattle.lj_task.proofs.Opposites.{same_push}
use Rattle.lj_tile.specs.Pairs.{AreOnRing}
use Rattle.lj_tile.proofs.RowLemmas.{sum_both, not_in_order, far_silent}

set_is : (set s : ℕ) → bit_at set s ≡ 1 → is_in set s ≡ true
set_is set s e = rw e refl

clear_is : (set s : ℕ) → bit_at set s ≡ 0 → is_in set s ≡ false
clear_is set s e = rw e refl

pub is_set : (set s : ℕ) → is_in set s ≡ true → bit_at set s ≡ 1
is_set set s e = grind (arith, nat_tests)

zero_or_one : (n : ℕ) → n < 2 → 0 < n → n ≡ 1
zero_or_one n h k = omega arith

not_some : (n : ℕ) → n ≤ 0 → n ≡ 0
not_some n h = omega arith

-- a mask of near places, of those that are in order, split by species
pub split_of : (near ordered_set here s n : ℕ) (ordered : Bool) (silent : Type 0) → here < 2 ^ 64 → s < 64 → s < n
    → is_in ordered_set s ≡ (nat_lt s n && ordered) → (bit_at near s ≡ 0 → silent) → (ordered ≡ false → silent)
    → IsSplit (bit_and (bit_and near ordered_set) (bit_not w64 here)) (bit_and (bit_and near ordered_set) here) here s ordered silent
split_of near ordered_set here s n ordered silent small within below chosen far other =
    let both : bit_at (bit_and near ordered_set) s ≡ min (bit_at near s) (bit_at ordered_set s) = bit_at_and near ordered_set s in
    let firsts : bit_at (bit_and (bit_and near ordered_set) (bit_not w64 here)) s
    ≡ min (bit_at (bit_and near ordered_set) s) (bit_at (bit_not w64 here) s) =
    bit_at_and (bit_and near ordered_set) (bit_not w64 here) s in
    let turned : bit_at (bit_not w64 here) s ≡ 1 - bit_at here s = bit_at_not w64 here s small within in
    let seconds : bit_at (bit_and (bit_and near ordered_set) here) s
    ≡ min (bit_at (bit_and near ordered_set) s) (bit_at here s) = bit_at_and (bit_and near ordered_set) here s in
    let inside : nat_lt s n ≡ true = grind (arith, nat_tests) in
    let is_chosen : is_in ordered_set s ≡ ordered = rw inside at chosen in
    elim (cases_lt 0 (bit_at near s)) [
      | inr none ↦
          let e : bit_at near s ≡ 0 = not_some (bit_at near s) none in
          in_none (clear_is _ s (omega (arith, firsts, both, e))) (clear_is _ s (omega (arith, seconds, both, e))) (far e)
      | inl some ↦ elim (cases_lt 0 (bit_at ordered_set s)) [
        | inr none ↦
            let e : bit_at ordered_set s ≡ 0 = not_some (bit_at ordered_set s) none in
            in_none (clear_is _ s (omega (arith, firsts, both, e))) (clear_is _ s (omega (arith, seconds, both, e)))
            (other (sym is_chosen ∙ clear_is ordered_set s e))
        | inl chosen_some ↦
            let e : bit_at near s ≡ 1 = zero_or_one (bit_at near s) (bit_at-lt near s) some in
            let f : bit_at ordered_set s ≡ 1 = zero_or_one (bit_at ordered_set s) (bit_at-lt ordered_set s) chosen_some in
            let is_ordered : ordered ≡ true = sym is_chosen ∙ set_is ordered_set s f in
            elim (cases_lt 0 (bit_at here s)) [
              | inr none ↦
                  let g : bit_at here s ≡ 0 = not_some (bit_at here s) none in
                  in_firsts (set_is _ s (omega (arith, firsts, turned, both, e, f, g)))
                  (clear_is _ s (omega (arith, seconds, both, e, f, g))) is_ordered (rw g refl)
              | inl second ↦
                  let g : bit_at here s ≡ 1 = zero_or_one (bit_at here s) (bit_at-lt here s) second in
                  in_seconds (clear_is _ s (omega (arith, firsts, turned, both, e, f, g)))
                  (set_is _ s (omega (arith, seconds, both, e, f, g))) is_ordered (rw g refl)
            ]
      ]
    ]

-- a place of one of the two sets lies within the block
pub part_within : (near ordered_set other s n : ℕ) (ordered : Bool) → is_in ordered_set s ≡ (nat_lt s n && ordered)
    → bit_at (bit_and (bit_and near ordered_set) other) s ≡ 1 → s < n
part_within near ordered_set other s n ordered chosen set =
    let both : bit_at (bit_and near ordered_set) s ≡ min (bit_at near s) (bit_at ordered_set s) = bit_at_and near ordered_set s in
    let part : bit_at (bit_and (bit_and near ordered_set) other) s
    ≡ min (bit_at (bit_and near ordered_set) s) (bit_at other s) = bit_at_and (bit_and near ordered_set) other s in
    let e : bit_at ordered_set s ≡ 1 = zero_or_one (bit_at ordered_set s) (bit_at-lt ordered_set s) (omega (arith, both, part, set)) in
    let f : (nat_lt s n && ordered) ≡ true = sym chosen ∙ set_is ordered_set s e in
    elim (cases_lt s n) [
      | inl below ↦ below
      | inr above ↦
          let g : nat_lt s n ≡ false = grind (arith, nat_tests) in
          let h : false ≡ true = rw g at f in
          cc
    ]

-- the scale of place t of the first block and of an atom of a species
abbrev pub scale_with : Task → ℕ → Species → Scale
scale_with w t species = (class_of w.mix (species_at w.a.species_bits t) species).scale

by_class : (w : Task) (t s : ℕ) (species : Species) → species_at w.b.species_bits s ≡ species
    → (class_in w t s).scale ≡ scale_with w t species
by_class w t s species e = ap (scale_with w t) e

first_part : (axis : Push → ℕ) → axis no_push ≡ 0 → (u v : Scale) (p q : Place) (x y ordered : Bool) (all : Scale)
    → x ≡ true → y ≡ false → ordered ≡ true → all ≡ u
    → axis (chosen_push u x p q) + axis (chosen_push v y p q) ≡ axis (chosen_push all ordered p q)
first_part axis none u v p q x y ordered all e f g h = rw (e, f, g, h, none) (omega arith)

second_part : (axis : Push → ℕ) → axis no_push ≡ 0 → (u v : Scale) (p q : Place) (x y ordered : Bool) (all : Scale)
    → x ≡ false → y ≡ true → ordered ≡ true → all ≡ v
    → axis (chosen_push u x p q) + axis (chosen_push v y p q) ≡ axis (chosen_push all ordered p q)
second_part axis none u v p q x y ordered all e f g h = rw (e, f, g, h, none) (omega arith)

no_part : (axis : Push → ℕ) → axis no_push ≡ 0 → (u v : Scale) (p q : Place) (x y : Bool) (whole : Push)
    → x ≡ false → y ≡ false → whole ≡ no_push
    → axis (chosen_push u x p q) + axis (chosen_push v y p q) ≡ axis whole
no_part axis none u v p q x y whole e f g = rw (e, f, g, none) (omega arith)

split_push : (axis : Push → ℕ) → axis no_push ≡ 0 → (w : Task) (t firsts seconds s : ℕ) → RowSplit w t firsts seconds s
    → axis (push_in (scale_with w t First) firsts (place_at w.a.places t) w.b.places s)
    + axis (push_in (scale_with w t Second) seconds (place_at w.a.places t) w.b.places s) ≡ axis (ordered_push w t s)
split_push axis none w t firsts seconds s split =
    elim split [
      | in_none e f silent ↦ no_part axis none _ _ _ _ _ _ (ordered_push w t s) e f silent.there
      | in_firsts e f ordered species ↦
          first_part axis none _ _ _ _ _ _ (are_in_order w t s) (class_in w t s).scale e f ordered (by_class w t s First species)
      | in_seconds e f ordered species ↦
          second_part axis none _ _ _ _ _ _ (are_in_order w t s) (class_in w t s).scale e f ordered (by_class w t s Second species)
    ]

-- the pushes on place t of the first block of the places of both sets are those of the row
pub row_sum : (w : Task) (t firsts seconds : ℕ) → ((s : ℕ) → s < length w.b.places → RowSplit w t firsts seconds s)
    → sum_of_pushes (pushes_in (scale_with w t First) firsts (place_at w.a.places t) w.b.places (length w.b.places))
    (pushes_in (scale_with w t Second) seconds (place_at w.a.places t) w.b.places (length w.b.places))
    ≡ sum_on_first w t (length w.b.places)
row_sum w t firsts seconds split =
    same_push (sum_of_pushes (pushes_in (scale_with w t First) firsts (place_at w.a.places t) w.b.places (length w.b.places))
    (pushes_in (scale_with w t Second) seconds (place_at w.a.places t) w.b.places (length w.b.places)))
    (sum_on_first w t (length w.b.places)) (along (λ p. p.x) refl) (along (λ p. p.y) refl) (along (λ p. p.z) refl)
  where
    along : (axis : Push → ℕ) → axis no_push ≡ 0
        → (ring_sum (length w.b.places) (λ s. axis (push_in (scale_with w t First) firsts (place_at w.a.places t) w.b.places s))
        + ring_sum (length w.b.places) (λ s. axis (push_in (scale_with w t Second) seconds (place_at w.a.places t) w.b.places s))) % 2 ^ 32
        ≡ ring_sum (length w.b.places) (λ s. axis (ordered_push w t s))
    along axis none =
        let both = sum_both (length w.b.places) _ _ (λ s. axis (ordered_push w t s))
        (λ s h. split_push axis none w t firsts seconds s (split s h)) in
        omega (arith, both)

-- the near places of a row that are in order, split by species
pub row_split : (w : Task) (t near ordered_set bits : ℕ) (here : Place) → length w.b.places ≤ 64 → bits < 2 ^ 64
    → bits ≡ w.b.species_bits → here ≡ place_at w.a.places t → IsOnRing (place_at w.a.places t) → AreOnRing w.b.places
    → ((s : ℕ) → s < length w.b.places → bit_at near s ≡ 0
    → can_interact w.mix (squared_distance here (place_at w.b.places s)) ≡ false)
    → ((s : ℕ) → is_in ordered_set s ≡ (nat_lt s (length w.b.places) && are_in_order w t s))
    → SplitRow w t (bit_and (bit_and near ordered_set) (bit_not w64 bits)) (bit_and (bit_and near ordered_set) bits)
row_split w t near ordered_set bits here few small bits_are here_is on_ring are_on_ring far later = record {
  few = few;
  first_within = λ s set. part_within near ordered_set _ s (length w.b.places) _ (later s) set;
  second_within = λ s set. part_within near ordered_set _ s (length w.b.places) _ (later s) set;
  split = λ s within.
      let silent : bit_at near s ≡ 0 → IsSilent w t s =
      λ none. far_silent w t s on_ring (are_on_ring s within)
      (cannot_interact w.mix (species_at w.a.species_bits t) (species_at w.b.species_bits s) _
      (rw here_is at (far s within none))) in
      subst
      (λ (species : ℕ). IsSplit (bit_and (bit_and near ordered_set) (bit_not w64 bits)) (bit_and (bit_and near ordered_set) bits)
      species s (are_in_order w t s) (IsSilent w t s)) bits_are
      (split_of near ordered_set bits s (length w.b.places) (are_in_order w t s) (IsSilent w t s) small
      (omega (arith, within, few)) within (later s) silent (not_in_order w t s));
}

-- the lowest bits of a number
pub ones_are : (n count k : ℕ) → n ≡ 2 ^ count - 1 → is_in n k ≡ nat_lt k count
ones_are n count k e =
    elim (cases_lt k count) [
      | inl below ↦
          let f : bit_at n k ≡ 1 = ap (λ m. bit_at m k) e ∙ bit_at_ones count k below in
          let g : nat_lt k count ≡ true = grind (arith, nat_tests) in
          rw g (set_is n k f)
      | inr above ↦
          let f : bit_at n k ≡ 0 = ap (λ m. bit_at m k) e ∙ bit_at_ones_above count k above in
          let g : nat_lt k count ≡ false = grind (arith, nat_tests) in
          rw g (clear_is n k f)
    ]

-- places up to a count but for the lowest ones, which are all that is in order within one block
pub later_are : (all low s n m : ℕ) (ordered : Bool) → low < 2 ^ 64 → n ≤ 64 → is_in all s ≡ nat_lt s n
    → is_in low s ≡ nat_lt s m → ordered ≡ nat_le m s → is_in (bit_and all (bit_not w64 low)) s ≡ (nat_lt s n && ordered)
later_are all low s n m ordered small few all_is low_is order =
    let both : bit_at (bit_and all (bit_not w64 low)) s ≡ min (bit_at all s) (bit_at (bit_not w64 low) s) =
    bit_at_and all (bit_not w64 low) s in
    elim (cases_lt s n) [
      | inr above ↦
          let g : nat_lt s n ≡ false = grind (arith, nat_tests) in
          let h : bit_at all s ≡ 0 = clear_from all s (all_is ∙ g) in
          rw g (clear_is _ s (omega (arith, both, h)))
      | inl below ↦
          let g : nat_lt s n ≡ true = grind (arith, nat_tests) in
          let h : bit_at all s ≡ 1 = is_set all s (all_is ∙ g) in
          let turned : bit_at (bit_not w64 low) s ≡ 1 - bit_at low s = bit_at_not w64 low s small (omega arith) in
          elim (cases_lt s m) [
            | inl lower ↦
                let a : nat_lt s m ≡ true = grind (arith, nat_tests) in
                let b : nat_le m s ≡ false = grind (arith, nat_tests) in
                let d : bit_at low s ≡ 1 = is_set low s (low_is ∙ a) in
                rw (g, order, b) (clear_is _ s (omega (arith, both, h, turned, d)))
            | inr higher ↦
                let a : nat_lt s m ≡ false = grind (arith, nat_tests) in
                let b : nat_le m s ≡ true = grind (arith, nat_tests) in
                let d : bit_at low s ≡ 0 = clear_from low s (low_is ∙ a) in
                rw (g, order, b) (set_is _ s (omega (arith, both, h, turned, d)))
          ]
    ]
  where
    clear_from : (set s : ℕ) → is_in set s ≡ false → bit_at set s ≡ 0
    clear_from set s e =
        elim (cases_lt 0 (bit_at set s)) [
          | inr none ↦ not_some (bit_at set s) none
          | inl some ↦
              let f : bit_at set s ≡ 1 = zero_or_one (bit_at set s) (bit_at-lt set s) some in
              let h : true ≡ false = sym (set_is set s f) ∙ e in
              cc
        ]

-- within one block atoms are in order as their places are
pub within_one : (w : Task) (t s : ℕ) → w.name.bj ≡ w.name.bi → are_in_order w t s ≡ nat_le (t + 1) s
within_one w t s same =
    elim (cases_lt t s) [
      | inl less ↦
          let e : are_in_order w t s ≡ true = grind (arith, nat_tests) in
          let f : nat_le (t + 1) s ≡ true = grind (arith, nat_tests) in
          rw (e, f) refl
      | inr more ↦
          let e : are_in_order w t s ≡ false = grind (arith, nat_tests) in
          let f : nat_le (t + 1) s ≡ false = grind (arith, nat_tests) in
          rw (e, f) refl
    ]
