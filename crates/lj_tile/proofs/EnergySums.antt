-- Sums of the energies of pairs, by lists and by rows.
use Rattle.std.proofs.Common.{ℕ, zero, suc, ◌+◌, ◌*◌, ◌^◌, ◌<◌, ◌≤◌, ◌≡◌, Bool, true, false, List, [], ◌∷◌, ◌++◌, ℤ, pos, ◌+ℤ◌, unsigned_abs, to_z, of_z, w64, FitsSigned}
use Rattle.std.proofs.Common.{length, take, drop, slice_index_or, subst, refl, sym, ap, ◌∙◌, inl, inr, add-one, arith}
use Rattle.std.specs.Int.{bit_at}
use Rattle.std.proofs.lemmas.Bool.{cases_eq}
use Rattle.std.proofs.lemmas.Int.{ints, fits_signed_from_abs, to_z-of_z}
use Rattle.std.proofs.lemmas.List.{take-append-drop}
use Rattle.std.proofs.lemmas.Nat.Bits.{bit_at-lt}
use Rattle.std.proofs.Math.IntN.{+ℤ_idr, +ℤ_idl}
use Rattle.std.proofs.Math.Seq.{take-suc, take-add}
use Rattle.lj_ring.specs.Ring.{int_sum_below}
use Rattle.lj_ring.specs.Mix.{class_of}
use Rattle.lj_ring.specs.declared.coordinates.Place.{Place}
use Rattle.lj_ring.specs.declared.mixes.Class.{Class}
use Rattle.lj_ring.specs.declared.mixes.Species.{Species}
use Rattle.lj_ring.specs.declared.mixes.Species.TheVariants.{First, Second}
use Rattle.lj_task.specs.Pushes.{energy}
use Rattle.lj_task.specs.Species.{species_at}
use Rattle.lj_task.specs.Tiles.{place_at, chosen_energy}
use Rattle.lj_task.specs.Task.{Task, task_energy, are_in_order, class_in}
use Rattle.lj_tile.specs.Rows.{energy_of, energy_row, energy_in, energies_in}
use Rattle.lj_tile.specs.Pairs.{row_pairs}
use Rattle.lj_tile.specs.RowSets.{IsSpeciesRow, IsOfOne, of_one, of_other, of_none, IsSilentRow, AreRowsBySpecies, in_none, in_firsts, in_seconds, RowSplit, SplitRow}
use Rattle.lj_tile.specs.Energies.{pair_energy, list_energy, lists_energy, energy_with_both, chosen_row, rows_energy}
use Rattle.lj_tile.proofs.SumLemmas.{sum_past, abs_add}
use Rattle.lj_tile.proofs.RowPairs.{pairs_to, pairs_more, pairs_same, pairs_zero, pair_first, pair_second, whole_row, none_behind}
use Rattle.lj_tile.proofs.RowSums.{is_in_set, is_not_in}

joined : (x y z : ℤ) → x +ℤ (y +ℤ z) ≡ (x +ℤ y) +ℤ z
joined x y z = omega (arith, ints)

-- of two lists one after the other
pub energy_appended : (k : Class) (a b : List Place) (ps qs : List ℕ)
    → list_energy k a b (ps ++ qs) ≡ list_energy k a b ps +ℤ list_energy k a b qs
unfolding list_energy
energy_appended k a b [] qs = sym (+ℤ_idl (list_energy k a b qs))
energy_appended k a b (p ∷ ps) qs =
    ap (λ z. pair_energy k a b p +ℤ z) (energy_appended k a b ps qs)
    ∙ joined (pair_energy k a b p) (list_energy k a b ps) (list_energy k a b qs)

energy_of_one : (k : Class) (a b : List Place) (pair : ℕ) → list_energy k a b (pair ∷ []) ≡ pair_energy k a b pair
unfolding list_energy
energy_of_one k a b pair = +ℤ_idr (pair_energy k a b pair)

pub energy_of_none : (k : Class) (a b : List Place) → list_energy k a b [] ≡ pos 0
unfolding list_energy
energy_of_none k a b = refl

-- one pair of a list more
pub energy_next : (k : Class) (a b : List Place) (pairs : List ℕ) (i : ℕ) (sum term : ℤ) → sum ≡ list_energy k a b (take i pairs)
    → term ≡ pair_energy k a b (slice_index_or pairs i 0) → i < length pairs → sum +ℤ term ≡ list_energy k a b (take (i + 1) pairs)
energy_next k a b pairs i sum term before one within =
    let pair : ℕ = slice_index_or pairs i 0 in
    let more : take (i + 1) pairs ≡ take i pairs ++ pair ∷ [] = rw add-one (take-suc pairs i 0 within) in
    rw (before, one)
    (sym (ap (list_energy k a b) more ∙ energy_appended k a b (take i pairs) (pair ∷ [])
    ∙ ap (λ z. list_energy k a b (take i pairs) +ℤ z) (energy_of_one k a b pair)))

-- eight pairs more
pub energy_eight : (k : Class) (a b : List Place) (pairs : List ℕ) (at : ℕ) (sum term : ℤ) → sum ≡ list_energy k a b (take at pairs)
    → term ≡ list_energy k a b (take 8 (drop at pairs)) → sum +ℤ term ≡ list_energy k a b (take (at + 8) pairs)
energy_eight k a b pairs at sum term before eight =
    rw (before, eight)
    (sym (ap (list_energy k a b) (take-add at 8 pairs) ∙ energy_appended k a b (take at pairs) (take 8 (drop at pairs))))

-- what is dropped is taken into the sum
pub energy_kept : (k : Class) (a b : List Place) (pairs after : List ℕ) (n : ℕ) (sum : ℤ) → sum ≡ list_energy k a b (take n pairs)
    → after ≡ drop n pairs → sum +ℤ list_energy k a b after ≡ list_energy k a b pairs
energy_kept k a b pairs after n sum taken e =
    rw (taken, e)
    (sym (energy_appended k a b (take n pairs) (drop n pairs)) ∙ ap (list_energy k a b) (take-append-drop n pairs))

-- the energies of a place with those of the places of a block below n that are in a set
row_energies : (k : Class) (a b : List Place) (t set n : ℕ) → n ≤ 64
    → list_energy k a b (pairs_to t set n) ≡ energies_in k set (place_at a t) b n
row_energies k a b t set zero le = ap (list_energy k a b) (pairs_zero t set) ∙ energy_of_none k a b
row_energies k a b t set (suc n) le =
    let before = row_energies k a b t set n (omega arith) in
    elim (cases_eq (bit_at set n) 1) [
      | inl one ↦
          let its : pair_energy k a b (64 * t + n) ≡ energy_in k set (place_at a t) b n =
          rw (pair_first t n (omega arith), pair_second t n (omega arith), is_in_set set n one) refl in
          ap (list_energy k a b) (pairs_more t set n one) ∙ energy_appended k a b (pairs_to t set n) ((64 * t + n) ∷ [])
          ∙ ap (λ z. list_energy k a b (pairs_to t set n) +ℤ z) (energy_of_one k a b (64 * t + n) ∙ its)
          ∙ ap (λ z. z +ℤ energy_in k set (place_at a t) b n) before
      | inr other ↦
          let clear : bit_at set n ≡ 0 = omega (arith, other, bit_at-lt set n) in
          let none : energy_in k set (place_at a t) b n ≡ pos 0 = rw (is_not_in set n clear) refl in
          ap (list_energy k a b) (pairs_same t set n clear) ∙ before
          ∙ sym (+ℤ_idr (energies_in k set (place_at a t) b n))
          ∙ ap (λ z. energies_in k set (place_at a t) b n +ℤ z) (sym none)
    ]

row_whole : (k : Class) (a b : List Place) (t set : ℕ) → length b ≤ 64 → ((s : ℕ) → bit_at set s ≡ 1 → s < length b)
    → list_energy k a b (row_pairs t set) ≡ energies_in k set (place_at a t) b (length b)
row_whole k a b t set few within =
    ap (list_energy k a b) (whole_row t set) ∙ row_energies k a b t set 64 (omega arith)
    ∙ sym (sum_past (energy_in k set (place_at a t) b) (length b) 64 few (λ s h l.
    rw (is_not_in set s (none_behind set (length b) within s h l)) refl))

pub int_sum_both : (n : ℕ) (f g h : ℕ → ℤ) → ((k : ℕ) → k < n → f k +ℤ g k ≡ h k)
    → int_sum_below n f +ℤ int_sum_below n g ≡ int_sum_below n h
int_sum_both zero f g h same = refl
int_sum_both (suc n) f g h same =
    let before = int_sum_both n f g h (λ k l. same k (omega arith)) in
    let last = same n (omega arith) in
    exchanged (int_sum_below n f) (f n) (int_sum_below n g) (g n) (int_sum_below n h) (h n) before last
  where
    exchanged : (a b c d x y : ℤ) → a +ℤ c ≡ x → b +ℤ d ≡ y → (a +ℤ b) +ℤ (c +ℤ d) ≡ x +ℤ y
    exchanged a b c d x y p q = omega (arith, ints, p, q)

-- the class of place t of the first block and of an atom of a species
abbrev pub class_with : Task → ℕ → Species → Class
class_with w t species = class_of w.mix (species_at w.a.species_bits t) species

by_species : (w : Task) (t s : ℕ) (species : Species) → species_at w.b.species_bits s ≡ species → class_in w t s ≡ class_with w t species
by_species w t s species e = ap (class_with w t) e

first_energy : (k l : Class) (p q : Place) (x y ordered : Bool) (all : Class)
    → x ≡ true → y ≡ false → ordered ≡ true → all ≡ k
    → chosen_energy k x p q +ℤ chosen_energy l y p q ≡ chosen_energy all ordered p q
first_energy k l p q x y ordered all e f g h = rw (e, f, g, h) (+ℤ_idr (energy k p q))

second_energy : (k l : Class) (p q : Place) (x y ordered : Bool) (all : Class)
    → x ≡ false → y ≡ true → ordered ≡ true → all ≡ l
    → chosen_energy k x p q +ℤ chosen_energy l y p q ≡ chosen_energy all ordered p q
second_energy k l p q x y ordered all e f g h = rw (e, f, g, h) (+ℤ_idl (energy l p q))

no_energy : (k l : Class) (p q : Place) (x y : Bool) (whole : ℤ) → x ≡ false → y ≡ false → whole ≡ pos 0
    → chosen_energy k x p q +ℤ chosen_energy l y p q ≡ whole
no_energy k l p q x y whole e f g = rw (e, f, g) refl

split_energy : (w : Task) (t firsts seconds s : ℕ) → RowSplit w t firsts seconds s
    → energy_in (class_with w t First) firsts (place_at w.a.places t) w.b.places s
    +ℤ energy_in (class_with w t Second) seconds (place_at w.a.places t) w.b.places s ≡ energy_of w t s
split_energy w t firsts seconds s split =
    elim split [
      | in_none e f silent ↦ no_energy (class_with w t First) (class_with w t Second) (place_at w.a.places t) (place_at w.b.places s) _ _
          (energy_of w t s) e f silent.energy
      | in_firsts e f ordered species ↦
          first_energy (class_with w t First) (class_with w t Second) (place_at w.a.places t) (place_at w.b.places s) _ _
          (are_in_order w t s) (class_in w t s) e f ordered (by_species w t s First species)
      | in_seconds e f ordered species ↦
          second_energy (class_with w t First) (class_with w t Second) (place_at w.a.places t) (place_at w.b.places s) _ _
          (are_in_order w t s) (class_in w t s) e f ordered (by_species w t s Second species)
    ]

-- the energies of a row with the places of both sets are those of the row
row_both : (w : Task) (t firsts seconds : ℕ) → SplitRow w t firsts seconds
    → list_energy (class_with w t First) w.a.places w.b.places (row_pairs t firsts)
    +ℤ list_energy (class_with w t Second) w.a.places w.b.places (row_pairs t seconds) ≡ energy_row w t
row_both w t firsts seconds row =
    rw (
      row_whole (class_with w t First) w.a.places w.b.places t firsts row.few row.first_within,
      row_whole (class_with w t Second) w.a.places w.b.places t seconds row.few row.second_within,
    )
    (int_sum_both (length w.b.places) _ _ (energy_of w t) (λ s h. split_energy w t firsts seconds s (row.split s h)))

-- a row is added where the pairs of both its parts are
with_classes : (w : Task) (t firsts seconds : ℕ) (ps qs ps_after qs_after : List ℕ) (one other : ℤ)
    → SplitRow w t firsts seconds
    → one +ℤ list_energy (class_with w t First) w.a.places w.b.places ps_after
    ≡ list_energy (class_with w t First) w.a.places w.b.places (ps ++ row_pairs t firsts)
    → other +ℤ list_energy (class_with w t Second) w.a.places w.b.places qs_after
    ≡ list_energy (class_with w t Second) w.a.places w.b.places (qs ++ row_pairs t seconds)
    → one +ℤ other +ℤ lists_energy w (class_with w t First) (class_with w t Second) ps_after qs_after
    ≡ lists_energy w (class_with w t First) (class_with w t Second) ps qs +ℤ energy_row w t
with_classes w t firsts seconds ps qs ps_after qs_after one other split of_firsts of_seconds =
    let k = class_with w t First in
    let l = class_with w t Second in
    let a = w.a.places in
    let b = w.b.places in
    of_row one other (list_energy k a b ps_after) (list_energy l a b qs_after) (list_energy k a b ps) (list_energy l a b qs)
    (list_energy k a b (row_pairs t firsts)) (list_energy l a b (row_pairs t seconds)) (energy_row w t)
    (of_firsts ∙ energy_appended (class_with w t First) w.a.places w.b.places ps (row_pairs t firsts))
    (of_seconds ∙ energy_appended (class_with w t Second) w.a.places w.b.places qs (row_pairs t seconds))
    (row_both w t firsts seconds split)
  where
    of_row : (one other pa qa p q f g row : ℤ) → one +ℤ pa ≡ p +ℤ f → other +ℤ qa ≡ q +ℤ g → f +ℤ g ≡ row
        → one +ℤ other +ℤ (pa +ℤ qa) ≡ (p +ℤ q) +ℤ row
    of_row one other pa qa p q f g row e h i = omega (arith, ints, e, h, i)

pub row_energy_added : (w : Task) (own : Species) (t firsts seconds : ℕ) (ps qs ps_after qs_after : List ℕ) (one other : ℤ)
    → IsSpeciesRow w own t → SplitRow w t firsts seconds
    → one +ℤ list_energy (class_of w.mix own First) w.a.places w.b.places ps_after
    ≡ list_energy (class_of w.mix own First) w.a.places w.b.places (ps ++ row_pairs t firsts)
    → other +ℤ list_energy (class_of w.mix own Second) w.a.places w.b.places qs_after
    ≡ list_energy (class_of w.mix own Second) w.a.places w.b.places (qs ++ row_pairs t seconds)
    → one +ℤ other +ℤ energy_with_both w own ps_after qs_after ≡ energy_with_both w own ps qs +ℤ energy_row w t
row_energy_added w own t firsts seconds ps qs ps_after qs_after one other is split of_firsts of_seconds =
    let a = w.a.places in
    let b = w.b.places in
    subst (λ o. one +ℤ other +ℤ energy_with_both w o ps_after qs_after ≡ energy_with_both w o ps qs +ℤ energy_row w t) is.species
    (with_classes w t firsts seconds ps qs ps_after qs_after one other split
    (subst (λ o. one +ℤ list_energy (class_of w.mix o First) a b ps_after ≡ list_energy (class_of w.mix o First) a b (ps ++ row_pairs t firsts))
    (sym is.species) of_firsts)
    (subst (λ o. other +ℤ list_energy (class_of w.mix o Second) a b qs_after ≡ list_energy (class_of w.mix o Second) a b (qs ++ row_pairs t seconds))
    (sym is.species) of_seconds))

-- rows that are not in the set add nothing
pub rows_energy_past : (w : Task) (rows from to : ℕ) → from ≤ to → ((k : ℕ) → from ≤ k → k < to → bit_at rows k ≡ 0)
    → rows_energy w rows from ≡ rows_energy w rows to
rows_energy_past w rows from to le none =
    sum_past (chosen_row w rows) from to le (λ k h l. rw (is_not_in rows k (none k h l)) refl)

-- one row of the set more
pub rows_energy_next : (w : Task) (rows n : ℕ) (sum row old mid new : ℤ) → bit_at rows n ≡ 1
    → sum +ℤ mid ≡ old +ℤ rows_energy w rows n → row +ℤ new ≡ mid +ℤ energy_row w n
    → sum +ℤ row +ℤ new ≡ old +ℤ rows_energy w rows (n + 1)
rows_energy_next w rows n sum row old mid new set before more =
    let its : chosen_row w rows n ≡ energy_row w n = rw (is_in_set rows n set) refl in
    of_next sum row old mid new (rows_energy w rows n) (energy_row w n) before more
    ∙ ap (λ z. old +ℤ (rows_energy w rows n +ℤ z)) (sym its) ∙ ap (λ m. old +ℤ rows_energy w rows m) (sym (add-one n))
  where
    of_next : (sum row old mid new rows its : ℤ) → sum +ℤ mid ≡ old +ℤ rows → row +ℤ new ≡ mid +ℤ its
        → sum +ℤ row +ℤ new ≡ old +ℤ (rows +ℤ its)
    of_next sum row old mid new rows its e f = omega (arith, ints, e, f)

silent_row : (w : Task) (t : ℕ) → IsSilentRow w t → pos 0 ≡ energy_row w t
silent_row w t silent = sum_past (energy_of w t) 0 (length w.b.places) (omega arith) (λ s h k. (silent s k).energy)

-- the rows of two sets are all that have energies
pub both_rows : (w : Task) (one other : ℕ) → length w.a.places ≤ 64 → AreRowsBySpecies w one other
    → rows_energy w one 64 +ℤ rows_energy w other 64 ≡ int_sum_below (length w.a.places) (energy_row w)
both_rows w one other many rows =
    rw (
      ← rows_energy_past w one (length w.a.places) 64 many (none_behind one (length w.a.places) (λ t set. (rows.firsts t set).within)),
      ← rows_energy_past w other (length w.a.places) 64 many (none_behind other (length w.a.places) (λ t set. (rows.seconds t set).within)),
    )
    (int_sum_both (length w.a.places) (chosen_row w one) (chosen_row w other) (energy_row w) (λ t h. each t (rows.each t h)))
  where
    each : (t : ℕ) → IsOfOne one other t (IsSilentRow w t) → chosen_row w one t +ℤ chosen_row w other t ≡ energy_row w t
    each t (of_one e f) = rw (is_in_set one t e, is_not_in other t f) (+ℤ_idr (energy_row w t))
    each t (of_other e f) = rw (is_not_in one t e, is_in_set other t f) (+ℤ_idl (energy_row w t))
    each t (of_none e f silent) = rw (is_not_in one t e, is_not_in other t f) (silent_row w t silent)

nothing : (m : ℕ) → int_sum_below m (λ t. pos 0) ≡ pos 0
nothing zero = refl
nothing (suc m) = +ℤ_idr (int_sum_below m (λ t. pos 0)) ∙ nothing m

-- a sum of sums in the other order
turned : (m n : ℕ) (f : ℕ → ℕ → ℤ) → int_sum_below m (λ t. int_sum_below n (f t)) ≡ int_sum_below n (λ s. int_sum_below m (λ t. f t s))
turned m zero f = nothing m
turned m (suc n) f =
    sym (int_sum_both m (λ t. int_sum_below n (f t)) (λ t. f t n) (λ t. int_sum_below (suc n) (f t)) (λ t h. refl))
    ∙ ap (λ z. z +ℤ int_sum_below m (λ t. f t n)) (turned m n f)

-- the energies of all rows are those of the task
pub all_rows : (w : Task) → int_sum_below (length w.a.places) (energy_row w) ≡ task_energy w
unfolding task_energy
all_rows w = turned (length w.a.places) (length w.b.places) (energy_of w)

-- the sum of a task's energies: of the rows of atoms of the first species, of those of the second, and of what is left in
-- the three lists
pub task_sum : (w : Task) (k l m : Class) (one other : ℕ) (like unlike unlike_after others : List ℕ) (r1 r2 r3 r4 r5 : ℤ)
    → r1 +ℤ lists_energy w k l like unlike ≡ lists_energy w k l [] [] +ℤ rows_energy w one 64
    → r2 +ℤ lists_energy w l m unlike_after others ≡ lists_energy w l m unlike [] +ℤ rows_energy w other 64
    → r3 ≡ list_energy k w.a.places w.b.places like → r4 ≡ list_energy l w.a.places w.b.places unlike_after
    → r5 ≡ list_energy m w.a.places w.b.places others
    → rows_energy w one 64 +ℤ rows_energy w other 64 ≡ int_sum_below (length w.a.places) (energy_row w)
    → r1 +ℤ r2 +ℤ r3 +ℤ r4 +ℤ r5 ≡ task_energy w
task_sum w k l m one other like unlike unlike_after others r1 r2 r3 r4 r5 e1 e2 e3 e4 e5 both =
    let a = w.a.places in
    let b = w.b.places in
    of_all r1 r2 r3 r4 r5 (list_energy k a b like) (list_energy l a b unlike) (list_energy l a b unlike_after)
    (list_energy m a b others) (list_energy k a b []) (list_energy l a b []) (list_energy m a b []) (rows_energy w one 64)
    (rows_energy w other 64) e1 e2 e3 e4 e5 (energy_of_none k w.a.places w.b.places)
    (energy_of_none l w.a.places w.b.places) (energy_of_none m w.a.places w.b.places)
    ∙ both ∙ all_rows w
  where
    of_all : (r1 r2 r3 r4 r5 fl gu gv ho f g h one other : ℤ) → r1 +ℤ (fl +ℤ gu) ≡ (f +ℤ g) +ℤ one
        → r2 +ℤ (gv +ℤ ho) ≡ (gu +ℤ h) +ℤ other → r3 ≡ fl → r4 ≡ gv → r5 ≡ ho → f ≡ pos 0 → g ≡ pos 0 → h ≡ pos 0
        → r1 +ℤ r2 +ℤ r3 +ℤ r4 +ℤ r5 ≡ one +ℤ other
    of_all r1 r2 r3 r4 r5 fl gu gv ho f g h one other a b c d e p q r = omega (arith, ints, a, b, c, d, e, p, q, r)

-- a number as the code reads it
abbrev pub read : ℤ → ℤ
read z = to_z w64 (of_z w64 z)

-- a number is added to what the code reads of another
pub record IsAdded (x y z : ℤ) : Type 0 where
  pub fits : FitsSigned w64 (read x +ℤ read z)
  pub value : read (read x +ℤ read z) ≡ y +ℤ z

pub added : (x y z : ℤ) → read x ≡ y → unsigned_abs y ≤ 2 ^ 61 → unsigned_abs z ≤ 2 ^ 61 → IsAdded x y z
added x y z e p q =
    let fits : FitsSigned w64 (y +ℤ z) = fits_signed_from_abs w64 _ (omega (arith, abs_add y z (2 ^ 61) (2 ^ 61) p q)) in
    let z_is : read z ≡ z = to_z-of_z w64 z (fits_signed_from_abs w64 z (omega (arith, q))) in
    record { fits = rw (e, z_is) fits; value = rw (e, z_is) (to_z-of_z w64 _ fits) }

-- the energies of two sets of rows and of three lists
pub two_added : (a b : ℤ) → unsigned_abs a ≤ 64 * 2 ^ 53 → unsigned_abs b ≤ 64 * 2 ^ 53 → IsAdded a a b
two_added a b p q = added a a b (to_z-of_z w64 a (fits_signed_from_abs w64 a (omega (arith, p)))) (omega (arith, p)) (omega (arith, q))

abbrev sum_of_two : ℤ → ℤ → ℤ
sum_of_two a b = read a +ℤ read b

abbrev sum_of_three : ℤ → ℤ → ℤ → ℤ
sum_of_three a b c = read (sum_of_two a b) +ℤ read c

abbrev sum_of_four : ℤ → ℤ → ℤ → ℤ → ℤ
sum_of_four a b c d = read (sum_of_three a b c) +ℤ read d

pub three_added : (a b c : ℤ) → unsigned_abs a ≤ 64 * 2 ^ 53 → unsigned_abs b ≤ 64 * 2 ^ 53 → unsigned_abs c ≤ 2 ^ 52
    → IsAdded (sum_of_two a b) (a +ℤ b) c
three_added a b c p q r =
    let size = abs_add a b (64 * 2 ^ 53) (64 * 2 ^ 53) p q in
    added (sum_of_two a b) (a +ℤ b) c (two_added a b p q).value (omega (arith, size)) (omega (arith, r))

pub four_added : (a b c d : ℤ) → unsigned_abs a ≤ 64 * 2 ^ 53 → unsigned_abs b ≤ 64 * 2 ^ 53 → unsigned_abs c ≤ 2 ^ 52
    → unsigned_abs d ≤ 2 ^ 52 → IsAdded (sum_of_three a b c) (a +ℤ b +ℤ c) d
four_added a b c d p q r s =
    let size = abs_add (a +ℤ b) c (2 ^ 60) (2 ^ 52) (omega (arith, abs_add a b (64 * 2 ^ 53) (64 * 2 ^ 53) p q)) r in
    added (sum_of_three a b c) (a +ℤ b +ℤ c) d (three_added a b c p q r).value (omega (arith, size)) (omega (arith, s))

pub five_added : (a b c d e : ℤ) → unsigned_abs a ≤ 64 * 2 ^ 53 → unsigned_abs b ≤ 64 * 2 ^ 53 → unsigned_abs c ≤ 2 ^ 52
    → unsigned_abs d ≤ 2 ^ 52 → unsigned_abs e ≤ 2 ^ 52 → IsAdded (sum_of_four a b c d) (a +ℤ b +ℤ c +ℤ d) e
five_added a b c d e p q r s t =
    let three = abs_add (a +ℤ b) c (2 ^ 60) (2 ^ 52) (omega (arith, abs_add a b (64 * 2 ^ 53) (64 * 2 ^ 53) p q)) r in
    let size = abs_add (a +ℤ b +ℤ c) d (2 ^ 60 + 2 ^ 52) (2 ^ 52) three s in
    added (sum_of_four a b c d) (a +ℤ b +ℤ c +ℤ d) e (four_added a b c d p q r s).value (omega (arith, size)) (omega (arith, t))
