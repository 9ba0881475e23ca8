-- The pairs of a row, and their sums.
use Rattle.std.proofs.Common.{ℕ, zero, suc, ◌+◌, ◌-◌, ◌*◌, ◌%◌, ◌^◌, ◌<◌, ◌≤◌, ◌≡◌, ◌≢◌, ◌==◌, true, false, List, [], ◌∷◌, ◌++◌, map}
use Rattle.std.proofs.Common.{length, length-append, slice_index_or, subst, refl, sym, ap, ◌∙◌, inl, inr, add-one, arith}
use Rattle.std.specs.Int.{bit_at}
use Rattle.std.proofs.lemmas.Bool.{cases_lt, cases_eq}
use Rattle.std.proofs.lemmas.Bool.Decides.{nat_tests}
use Rattle.std.proofs.lemmas.Nat.Bits.{bit_at-lt, bit_at-zero}
use Rattle.std.proofs.lemmas.List.{map-append, append-nil, get_or_append_left}
use Rattle.std.proofs.Math.Seq.{get_or-append_right}
use Rattle.lj_ring.specs.declared.coordinates.Place.{Place}
use Rattle.lj_ring.specs.Scale.{Scale}
use Rattle.lj_ring.specs.declared.mixes.Species.{Species}
use Rattle.lj_task.specs.declared.pushes.Push.{Push}
use Rattle.lj_task.specs.declared.force_sums.ForceSums.{ForceSums}
use Rattle.lj_task.specs.Pushes.{push, no_push, sum_of_pushes}
use Rattle.lj_task.specs.Species.{is_in, species_at}
use Rattle.lj_task.specs.Tiles.{place_at, chosen_push}
use Rattle.lj_task.specs.Task.{Task}
use Rattle.lj_tile.specs.Rows.{pushes_in, push_in, push_back}
use Rattle.lj_tile.specs.Pairs.{members, row_pairs, first_of, second_of, ArePairs, push_on_first, push_on_second, sum_of_pairs}
use Rattle.lj_tile.specs.PairTotals.{SumsWithList, SumsWithLists, HaveTotals, total, HaveRow, row_on_first, scale_between}
use Rattle.lj_tile.specs.RowSets.{IsSpeciesRow, in_none, in_firsts, in_seconds, RowSplit, SplitRow}
use Rattle.lj_task.proofs.Opposites.{same_push}
use Rattle.lj_ring.specs.declared.mixes.Species.TheVariants.{First, Second}
use Rattle.lj_tile.proofs.Splits.{scale_with, row_sum}
use Rattle.lj_tile.proofs.RowLemmas.{pushes_more, pushes_past}
use Rattle.lj_tile.proofs.PairSums.{sum_appended, sum_of_one, whole_sum, more_none}

-- the pairs of a row, up to a place
abbrev pub pairs_to : ℕ → ℕ → ℕ → List ℕ
pairs_to t set n = map (λ s. 64 * t + s) (members set n)

-- the pair of places t and s is of these places
pub pair_first : (t s : ℕ) → s < 64 → first_of (64 * t + s) ≡ t
pair_first t s h = omega arith

pub pair_second : (t s : ℕ) → s < 64 → second_of (64 * t + s) ≡ s
pair_second t s h = omega arith

pub chosen : (n t : ℕ) → n ≡ t → (n == t) ≡ true
chosen n t e = grind (arith, nat_tests)

pub not_chosen : (n t : ℕ) → n ≢ t → (n == t) ≡ false
not_chosen n t e = grind (arith, nat_tests)

-- one member more
pub pairs_more : (t set n : ℕ) → bit_at set n ≡ 1 → pairs_to t set (suc n) ≡ pairs_to t set n ++ (64 * t + n) ∷ []
unfolding members
pairs_more t set n one =
    let set_n : is_in set n ≡ true = rw one refl in
    rw set_n (map-append (λ s. 64 * t + s) (members set n) (n ∷ []))

pub pairs_same : (t set n : ℕ) → bit_at set n ≡ 0 → pairs_to t set (suc n) ≡ pairs_to t set n
unfolding members
pairs_same t set n none =
    let not : is_in set n ≡ false = rw none refl in
    rw not refl

pub pairs_zero : (t set : ℕ) → pairs_to t set 0 ≡ []
unfolding members
pairs_zero t set = refl

sum_zero : (f : ℕ → Push) → sum_of_pairs f [] ≡ no_push
unfolding sum_of_pairs
sum_zero f = refl

-- a sum of pairs to which those of one place more come
sum_more : (f : ℕ → Push) (t set n : ℕ) (p : Push) → (bit_at set n ≡ 1 → f (64 * t + n) ≡ p) → (bit_at set n ≡ 0 → p ≡ no_push)
    → sum_of_pairs f (pairs_to t set (suc n)) ≡ sum_of_pushes (sum_of_pairs f (pairs_to t set n)) p
sum_more f t set n p some none =
    elim (cases_eq (bit_at set n) 1) [
      | inl one ↦
          ap (sum_of_pairs f) (pairs_more t set n one) ∙ sum_appended f (pairs_to t set n) ((64 * t + n) ∷ [])
          ∙ ap (sum_of_pushes (sum_of_pairs f (pairs_to t set n))) (sum_of_one f (64 * t + n) ∙ ap (λ q. sum_of_pushes q no_push) (some one))
          ∙ sums_none (sum_of_pairs f (pairs_to t set n)) p
      | inr other ↦
          let clear : bit_at set n ≡ 0 = omega (arith, other, bit_at-lt set n) in
          ap (sum_of_pairs f) (pairs_same t set n clear) ∙ sym (whole_sum f (pairs_to t set n))
          ∙ turned (sum_of_pairs f (pairs_to t set n)) p (none clear)
    ]
  where
    sums_none : (a b : Push) → sum_of_pushes a (sum_of_pushes b no_push) ≡ sum_of_pushes a b
    sums_none a b = same_push _ _ (omega arith) (omega arith) (omega arith)

    turned : (a b : Push) → b ≡ no_push → sum_of_pushes no_push a ≡ sum_of_pushes a b
    turned a b e = rw e (same_push _ _ (omega arith) (omega arith) (omega arith))

-- a place that pairs with others of row t push, and one of another row
on_first : (u : Scale) (a b : List Place) (t n : ℕ) → n < 64
    → push_on_first u a b t (64 * t + n) ≡ push u (place_at a t) (place_at b n)
on_first u a b t n h = rw (pair_first t n h, pair_second t n h, chosen t t refl) refl

not_on_first : (u : Scale) (a b : List Place) (k t n : ℕ) → n < 64 → t ≢ k → push_on_first u a b k (64 * t + n) ≡ no_push
not_on_first u a b k t n h other = rw (pair_first t n h, not_chosen t k other) refl

on_second : (u : Scale) (a b : List Place) (t n : ℕ) → n < 64
    → push_on_second u a b n (64 * t + n) ≡ push u (place_at b n) (place_at a t)
on_second u a b t n h = rw (pair_first t n h, pair_second t n h, chosen n n refl) refl

not_on_second : (u : Scale) (a b : List Place) (s t n : ℕ) → n < 64 → n ≢ s → push_on_second u a b s (64 * t + n) ≡ no_push
not_on_second u a b s t n h other = rw (pair_second t n h, not_chosen n s other) refl

in_set : (u : Scale) (set : ℕ) (p q : Place) (n : ℕ) → bit_at set n ≡ 1 → push u p q ≡ chosen_push u (is_in set n) p q
in_set u set p q n one = rw one refl

in_no_set : (u : Scale) (set : ℕ) (p q : Place) (n : ℕ) → bit_at set n ≡ 0 → chosen_push u (is_in set n) p q ≡ no_push
in_no_set u set p q n none = rw none refl

-- the pairs of row t push its own place
pub row_own : (u : Scale) (a b : List Place) (t set n : ℕ) → n ≤ 64
    → sum_of_pairs (push_on_first u a b t) (pairs_to t set n) ≡ pushes_in u set (place_at a t) b n
row_own u a b t set zero le = ap (sum_of_pairs (push_on_first u a b t)) (pairs_zero t set) ∙ sum_zero (push_on_first u a b t)
row_own u a b t set (suc n) le =
    let here : Place = place_at a t in
    let more : n + 1 ≡ suc n = add-one n in
    sum_more (push_on_first u a b t) t set n (push_in u set here b n)
    (λ one. on_first u a b t n (omega arith) ∙ in_set u set here (place_at b n) n one)
    (λ none. in_no_set u set here (place_at b n) n none)
    ∙ ap (λ p. sum_of_pushes p (push_in u set here b n)) (row_own u a b t set n (omega arith))
    ∙ pushes_more u set here b n (push_in u set here b n) refl
    ∙ ap (pushes_in u set here b) more

-- and no other place of its block
pub row_other : (u : Scale) (a b : List Place) (k t set n : ℕ) → n ≤ 64 → t ≢ k
    → sum_of_pairs (push_on_first u a b k) (pairs_to t set n) ≡ no_push
row_other u a b k t set zero le other =
    ap (sum_of_pairs (push_on_first u a b k)) (pairs_zero t set) ∙ sum_zero (push_on_first u a b k)
row_other u a b k t set (suc n) le other =
    sum_more (push_on_first u a b k) t set n no_push (λ one. not_on_first u a b k t n (omega arith) other) (λ none. refl)
    ∙ ap (λ p. sum_of_pushes p no_push) (row_other u a b k t set n (omega arith) other)

-- of the other block no place behind those of the set
row_behind : (u : Scale) (a b : List Place) (s t set n : ℕ) → n ≤ 64 → n ≤ s
    → sum_of_pairs (push_on_second u a b s) (pairs_to t set n) ≡ no_push
row_behind u a b s t set zero le behind =
    ap (sum_of_pairs (push_on_second u a b s)) (pairs_zero t set) ∙ sum_zero (push_on_second u a b s)
row_behind u a b s t set (suc n) le behind =
    let other : n ≢ s = omega arith in
    sum_more (push_on_second u a b s) t set n no_push (λ one. not_on_second u a b s t n (omega arith) other) (λ none. refl)
    ∙ ap (λ p. sum_of_pushes p no_push) (row_behind u a b s t set n (omega arith) (omega arith))

-- and those of the set once
pub row_there : (u : Scale) (a b : List Place) (s t set n : ℕ) → n ≤ 64 → s < n
    → sum_of_pairs (push_on_second u a b s) (pairs_to t set n)
    ≡ sum_of_pushes (chosen_push u (is_in set s) (place_at b s) (place_at a t)) no_push
row_there u a b s t set zero le before = absurd (omega (arith, before))
row_there u a b s t set (suc n) le before =
    elim (cases_eq n s) [
      | inl same ↦
          let p : Push = chosen_push u (is_in set n) (place_at b n) (place_at a t) in
          let at_n = sum_more (push_on_second u a b n) t set n p
          (λ one. on_second u a b t n (omega arith) ∙ in_set u set (place_at b n) (place_at a t) n one)
          (λ none. in_no_set u set (place_at b n) (place_at a t) n none)
          ∙ ap (λ q. sum_of_pushes q p) (row_behind u a b n t set n (omega arith) (omega arith))
          ∙ none_first p in
          subst (λ k. sum_of_pairs (push_on_second u a b k) (pairs_to t set (suc n))
          ≡ sum_of_pushes (chosen_push u (is_in set k) (place_at b k) (place_at a t)) no_push) same at_n
      | inr other ↦
          let p : Push = chosen_push u (is_in set s) (place_at b s) (place_at a t) in
          sum_more (push_on_second u a b s) t set n no_push (λ one. not_on_second u a b s t n (omega arith) other) (λ none. refl)
          ∙ ap (λ q. sum_of_pushes q no_push) (row_there u a b s t set n (omega arith) (omega (arith, other, before)))
          ∙ none_twice p
    ]
  where
    none_first : (p : Push) → sum_of_pushes no_push p ≡ sum_of_pushes p no_push
    none_first p = same_push _ _ (omega arith) (omega arith) (omega arith)

    none_twice : (p : Push) → sum_of_pushes (sum_of_pushes p no_push) no_push ≡ sum_of_pushes p no_push
    none_twice p = same_push _ _ (omega arith) (omega arith) (omega arith)

-- nothing added, and nothing to be added
totals_same : (u : Scale) (a b : List Place) (state : SumsWithList) → HaveTotals u a b state state
totals_same u a b state = record { first = λ t h. refl; second = λ s h. refl; firsts = refl; seconds = refl }

-- the pairs of a row in all
pub whole_row : (t set : ℕ) → row_pairs t set ≡ pairs_to t set 64
unfolding row_pairs
whole_row t set = refl

-- two lists to which the pairs of a row come, one after the other
two_more : (f g : ℕ → Push) (ps qs ps_after qs_after fs gs : List ℕ) (old mid new row : Push)
    → total f ps_after mid ≡ total f (ps ++ fs) old → total g qs_after new ≡ total g (qs ++ gs) mid
    → sum_of_pushes row no_push ≡ sum_of_pushes (sum_of_pairs f fs) (sum_of_pairs g gs)
    → total g qs_after (total f ps_after new) ≡ sum_of_pushes (total g qs (total f ps old)) row
two_more f g ps qs ps_after qs_after fs gs old mid new row one other whole =
    let first = one ∙ ap (sum_of_pushes old) (sum_appended f ps fs) in
    let second = other ∙ ap (sum_of_pushes mid) (sum_appended g qs gs) in
    same_push _ _
    (mods new.x mid.x old.x row.x (sum_of_pairs f ps_after).x (sum_of_pairs g qs_after).x (sum_of_pairs f ps).x (sum_of_pairs g qs).x
    (sum_of_pairs f fs).x (sum_of_pairs g gs).x (ap (λ (p : Push). p.x) first) (ap (λ (p : Push). p.x) second) (ap (λ (p : Push). p.x) whole))
    (mods new.y mid.y old.y row.y (sum_of_pairs f ps_after).y (sum_of_pairs g qs_after).y (sum_of_pairs f ps).y (sum_of_pairs g qs).y
    (sum_of_pairs f fs).y (sum_of_pairs g gs).y (ap (λ (p : Push). p.y) first) (ap (λ (p : Push). p.y) second) (ap (λ (p : Push). p.y) whole))
    (mods new.z mid.z old.z row.z (sum_of_pairs f ps_after).z (sum_of_pairs g qs_after).z (sum_of_pairs f ps).z (sum_of_pairs g qs).z
    (sum_of_pairs f fs).z (sum_of_pairs g gs).z (ap (λ (p : Push). p.z) first) (ap (λ (p : Push). p.z) second) (ap (λ (p : Push). p.z) whole))
  where
    mods : (new mid old row fa ga fp gq fs gs : ℕ) → (mid + fa) % 2 ^ 32 ≡ (old + (fp + fs) % 2 ^ 32) % 2 ^ 32
        → (new + ga) % 2 ^ 32 ≡ (mid + (gq + gs) % 2 ^ 32) % 2 ^ 32 → (row + 0) % 2 ^ 32 ≡ (fs + gs) % 2 ^ 32
        → ((new + fa) % 2 ^ 32 + ga) % 2 ^ 32 ≡ (((old + fp) % 2 ^ 32 + gq) % 2 ^ 32 + row) % 2 ^ 32
    mods new mid old row fa ga fp gq fs gs p q r = omega (arith, p, q, r)

-- no bit of a set of places stands behind the last place
pub none_behind : (set n : ℕ) → ((s : ℕ) → bit_at set s ≡ 1 → s < n) → (s : ℕ) → n ≤ s → s < 64 → bit_at set s ≡ 0
none_behind set n within s h k =
    elim (cases_eq (bit_at set s) 1) [
      | inl one ↦ absurd (omega (arith, h, within s one))
      | inr other ↦ omega (arith, other, bit_at-lt set s)
    ]

own_pairs : (u : Scale) (a b : List Place) (t set : ℕ) → length b ≤ 64 → ((s : ℕ) → bit_at set s ≡ 1 → s < length b)
    → sum_of_pairs (push_on_first u a b t) (row_pairs t set) ≡ pushes_in u set (place_at a t) b (length b)
own_pairs u a b t set few within =
    ap (sum_of_pairs (push_on_first u a b t)) (whole_row t set) ∙ row_own u a b t set 64 (omega arith)
    ∙ sym (pushes_past u set (place_at a t) b (length b) 64 few (none_behind set (length b) within))

pub other_pairs : (u : Scale) (a b : List Place) (k t set : ℕ) → t ≢ k → sum_of_pairs (push_on_first u a b k) (row_pairs t set) ≡ no_push
other_pairs u a b k t set other =
    ap (sum_of_pairs (push_on_first u a b k)) (whole_row t set) ∙ row_other u a b k t set 64 (omega arith) other

there_pairs : (u : Scale) (a b : List Place) (s t set : ℕ) → s < 64
    → sum_of_pairs (push_on_second u a b s) (row_pairs t set)
    ≡ sum_of_pushes (chosen_push u (is_in set s) (place_at b s) (place_at a t)) no_push
there_pairs u a b s t set few =
    ap (sum_of_pairs (push_on_second u a b s)) (whole_row t set) ∙ row_there u a b s t set 64 (omega arith) few

-- what a row adds to its own place and to others of its block
pub row_sum_first : (w : Task) (k t firsts seconds : ℕ) → SplitRow w t firsts seconds
    → (let a = w.a.places in let b = w.b.places in
    sum_of_pushes (row_on_first w t k) no_push
    ≡ sum_of_pushes (sum_of_pairs (push_on_first (scale_with w t First) a b k) (row_pairs t firsts))
    (sum_of_pairs (push_on_first (scale_with w t Second) a b k) (row_pairs t seconds)))
row_sum_first w k t firsts seconds row =
    let a = w.a.places in
    let b = w.b.places in
    let u = scale_with w t First in
    let v = scale_with w t Second in
    elim (cases_eq k t) [
      | inl same ↦
          let p = pushes_in u firsts (place_at a t) b (length b) in
          let q = pushes_in v seconds (place_at a t) b (length b) in
          let both = row_sum w t firsts seconds row.split in
          let own = ap (λ r. sum_of_pushes r (sum_of_pairs (push_on_first v a b t) (row_pairs t seconds))) (own_pairs u a b t firsts row.few row.first_within)
          ∙ ap (sum_of_pushes p) (own_pairs v a b t seconds row.few row.second_within) in
          rw (chosen k t same) (ap (λ r. sum_of_pushes r no_push) (sym both) ∙ more_none p q ∙ at_t (sym own) (sym same))
      | inr other ↦
          let turned : t ≢ k = omega (arith, other) in
          rw (not_chosen k t other, other_pairs u a b k t firsts turned, other_pairs v a b k t seconds turned) refl
    ]
  where
    at_t : {p : Push} → p ≡ sum_of_pushes (sum_of_pairs (push_on_first (scale_with w t First) w.a.places w.b.places t) (row_pairs t firsts))
        (sum_of_pairs (push_on_first (scale_with w t Second) w.a.places w.b.places t) (row_pairs t seconds))
        → t ≡ k
        → p ≡ sum_of_pushes (sum_of_pairs (push_on_first (scale_with w t First) w.a.places w.b.places k) (row_pairs t firsts))
        (sum_of_pairs (push_on_first (scale_with w t Second) w.a.places w.b.places k) (row_pairs t seconds))
    at_t {p} e same =
        subst (λ j. p ≡ sum_of_pushes (sum_of_pairs (push_on_first (scale_with w t First) w.a.places w.b.places j) (row_pairs t firsts))
        (sum_of_pairs (push_on_first (scale_with w t Second) w.a.places w.b.places j) (row_pairs t seconds))) same e

-- and to the places of the other
pub row_sum_second : (w : Task) (s t firsts seconds : ℕ) → length w.b.places ≤ 64 → s < length w.b.places
    → RowSplit w t firsts seconds s
    → (let a = w.a.places in let b = w.b.places in
    sum_of_pushes (push_back w t s) no_push
    ≡ sum_of_pushes (sum_of_pairs (push_on_second (scale_with w t First) a b s) (row_pairs t firsts))
    (sum_of_pairs (push_on_second (scale_with w t Second) a b s) (row_pairs t seconds)))
row_sum_second w s t firsts seconds few within split =
    let p : Place = place_at w.b.places s in
    let q : Place = place_at w.a.places t in
    let u = scale_with w t First in
    let v = scale_with w t Second in
    let below : s < 64 = omega (arith, few, within) in
    rw (there_pairs u w.a.places w.b.places s t firsts below, there_pairs v w.a.places w.b.places s t seconds below)
    (elim split [
      | in_none e f silent ↦ rw (e, f, silent.back) refl
      | in_firsts e f ordered species ↦ rw (e, f, ordered, ap (scale_with w t) species) (none_more_first (push u p q))
      | in_seconds e f ordered species ↦ rw (e, f, ordered, ap (scale_with w t) species) (none_more_second (push v p q))
    ])
  where
    none_more_first : (p : Push) → sum_of_pushes p no_push ≡ sum_of_pushes (sum_of_pushes p no_push) (sum_of_pushes no_push no_push)
    none_more_first p = same_push _ _ (omega arith) (omega arith) (omega arith)

    none_more_second : (p : Push) → sum_of_pushes p no_push ≡ sum_of_pushes (sum_of_pushes no_push no_push) (sum_of_pushes p no_push)
    none_more_second p = same_push _ _ (omega arith) (omega arith) (omega arith)

-- a row is added where the pairs of both its parts are
with_scales : (w : Task) (t firsts seconds : ℕ) (before after : SumsWithLists) (mid : ForceSums) → SplitRow w t firsts seconds
    → HaveTotals (scale_with w t First) w.a.places w.b.places
    (record { pairs = before.of_firsts ++ row_pairs t firsts; sums = before.sums }) (record { pairs = after.of_firsts; sums = mid })
    → HaveTotals (scale_with w t Second) w.a.places w.b.places
    (record { pairs = before.of_seconds ++ row_pairs t seconds; sums = mid }) (record { pairs = after.of_seconds; sums = after.sums })
    → HaveRow w (species_at w.a.species_bits t) t before after
with_scales w t firsts seconds before after mid row one other =
    let a = w.a.places in
    let b = w.b.places in
    let u = scale_with w t First in
    let v = scale_with w t Second in
    record {
      first = λ k h.
          two_more (push_on_first u a b k) (push_on_first v a b k) before.of_firsts before.of_seconds after.of_firsts after.of_seconds
          (row_pairs t firsts) (row_pairs t seconds) (slice_index_or before.sums.first k no_push) (slice_index_or mid.first k no_push)
          (slice_index_or after.sums.first k no_push) _ (one.first k h) (other.first k h) (row_sum_first w k t firsts seconds row);
      second = λ s h.
          let below : s < 64 = omega (arith, row.few, h) in
          two_more (push_on_second u a b s) (push_on_second v a b s) before.of_firsts before.of_seconds after.of_firsts after.of_seconds
          (row_pairs t firsts) (row_pairs t seconds) (slice_index_or before.sums.second s no_push) (slice_index_or mid.second s no_push)
          (slice_index_or after.sums.second s no_push) _ (one.second s below) (other.second s below)
          (row_sum_second w s t firsts seconds row.few h (row.split s h));
      firsts = other.firsts ∙ one.firsts;
      seconds = other.seconds ∙ one.seconds;
    }

pub row_added : (w : Task) (own : Species) (t firsts seconds : ℕ) (before after : SumsWithLists) (mid : ForceSums) → IsSpeciesRow w own t
    → SplitRow w t firsts seconds
    → HaveTotals (scale_between w own First) w.a.places w.b.places
    (record { pairs = before.of_firsts ++ row_pairs t firsts; sums = before.sums }) (record { pairs = after.of_firsts; sums = mid })
    → HaveTotals (scale_between w own Second) w.a.places w.b.places
    (record { pairs = before.of_seconds ++ row_pairs t seconds; sums = mid }) (record { pairs = after.of_seconds; sums = after.sums })
    → HaveRow w own t before after
row_added w own t firsts seconds before after mid is row one other =
    subst (λ o. HaveRow w o t before after) is.species
    (with_scales w t firsts seconds before after mid row
    (subst (λ o. HaveTotals (scale_between w o First) w.a.places w.b.places
    (record { pairs = before.of_firsts ++ row_pairs t firsts; sums = before.sums }) (record { pairs = after.of_firsts; sums = mid }))
    (sym is.species) one)
    (subst (λ o. HaveTotals (scale_between w o Second) w.a.places w.b.places
    (record { pairs = before.of_seconds ++ row_pairs t seconds; sums = mid }) (record { pairs = after.of_seconds; sums = after.sums }))
    (sym is.species) other))

-- one list of pairs of places after another
are_appended : (a b : List Place) (ps qs : List ℕ) → ArePairs a b ps → ArePairs a b qs → ArePairs a b (ps ++ qs)
are_appended a b ps qs one other = record {
  first = λ i h. elim (cases_lt i (length ps)) [
    | inl before ↦ rw (get_or_append_left ps qs 0 i before) (one.first i before)
    | inr behind ↦
        rw (get_or-append_right ps qs i 0 behind)
        (other.first (i - length ps) (omega (arith, behind, h, length-append ps qs)))
  ];
  second = λ i h. elim (cases_lt i (length ps)) [
    | inl before ↦ rw (get_or_append_left ps qs 0 i before) (one.second i before)
    | inr behind ↦
        rw (get_or-append_right ps qs i 0 behind)
        (other.second (i - length ps) (omega (arith, behind, h, length-append ps qs)))
  ];
}

one_pair : (a b : List Place) (t s : ℕ) → t < length a → s < length b → s < 64 → ArePairs a b ((64 * t + s) ∷ [])
one_pair a b t s here there few = record {
  first = λ i h. at_none i h (λ j. first_of (slice_index_or ((64 * t + s) ∷ []) j 0) < length a) (rw (pair_first t s few) here);
  second = λ i h. at_none i h (λ j. second_of (slice_index_or ((64 * t + s) ∷ []) j 0) < length b) (rw (pair_second t s few) there);
}
  where
    at_none : (i : ℕ) → i < 1 → (P : ℕ → Type 0) → P 0 → P i
    at_none zero h P p = p
    at_none (suc i) h P p = absurd (omega (arith, h))

pairs_within : (a b : List Place) (t set n : ℕ) → t < length a → length b ≤ 64 → ((s : ℕ) → bit_at set s ≡ 1 → s < length b)
    → ArePairs a b (pairs_to t set n)
pairs_within a b t set zero here few within = rw (pairs_zero t set) (record {
  first = λ i h. absurd (omega (arith, h));
  second = λ i h. absurd (omega (arith, h));
})
pairs_within a b t set (suc n) here few within =
    elim (cases_eq (bit_at set n) 1) [
      | inl one ↦
          rw (pairs_more t set n one)
          (are_appended a b (pairs_to t set n) ((64 * t + n) ∷ []) (pairs_within a b t set n here few within)
          (one_pair a b t n here (within n one) (omega (arith, few, within n one))))
      | inr other ↦
          let clear : bit_at set n ≡ 0 = omega (arith, other, bit_at-lt set n) in
          rw (pairs_same t set n clear) (pairs_within a b t set n here few within)
    ]

-- the pairs of a row are of places of the two blocks
pub row_within : (a b : List Place) (ps : List ℕ) (t set : ℕ) → t < length a → length b ≤ 64
    → ((s : ℕ) → bit_at set s ≡ 1 → s < length b) → ArePairs a b ps → ArePairs a b (ps ++ row_pairs t set)
row_within a b ps t set here few within pairs =
    are_appended a b ps (row_pairs t set) pairs (rw (whole_row t set) (pairs_within a b t set 64 here few within))

-- a list to which no pair came
no_pairs : (t n : ℕ) → pairs_to t 0 n ≡ []
no_pairs t zero = pairs_zero t 0
no_pairs t (suc n) = pairs_same t 0 n (bit_at-zero n) ∙ no_pairs t n

pub none_came : (u : Scale) (a b : List Place) (ps : List ℕ) (t set : ℕ) (sums : ForceSums) → set ≡ 0
    → HaveTotals u a b (record { pairs = ps ++ row_pairs t set; sums = sums }) (record { pairs = ps; sums = sums })
none_came u a b ps t set sums empty =
    let same : ps ++ row_pairs t set ≡ ps =
    ap (λ n. ps ++ row_pairs t n) empty ∙ ap (λ (l : List ℕ). ps ++ l) (whole_row t 0 ∙ no_pairs t 64) ∙ append-nil ps in
    rw same (totals_same u a b (record { pairs = ps; sums = sums }))
