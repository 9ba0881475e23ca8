-- The sums of the rows of a set, and of those of two sets.
use Rattle.std.proofs.Common.{ℕ, zero, suc, ◌+◌, ◌%◌, ◌^◌, ◌<◌, ◌≤◌, ◌≡◌, ◌≢◌, true, false, nat_lt, List, []}
use Rattle.std.proofs.Common.{length, slice_index_or, subst, refl, sym, ap, ◌∙◌, inl, inr, add-one, arith}
use Rattle.std.specs.Int.{bit_at}
use Rattle.std.proofs.lemmas.Bool.{cases_lt, cases_eq}
use Rattle.std.proofs.lemmas.Bool.Decides.{nat_tests}
use Rattle.lj_ring.specs.Scale.{Scale}
use Rattle.lj_ring.specs.declared.mixes.Class.{Class}
use Rattle.lj_ring.specs.declared.mixes.Species.{Species}
use Rattle.lj_ring.specs.declared.mixes.Species.TheVariants.{First, Second}
use Rattle.lj_ring.proofs.MixLemmas.{class_symmetric}
use Rattle.lj_task.specs.declared.pushes.Push.{Push}
use Rattle.lj_task.specs.declared.force_sums.ForceSums.{ForceSums}
use Rattle.lj_task.specs.Pushes.{no_push, sum_of_pushes}
use Rattle.lj_task.specs.Species.{is_in}
use Rattle.lj_task.specs.Task.{Task}
use Rattle.lj_tile.specs.Rows.{push_back, sum_on_first, sum_on_second}
use Rattle.lj_tile.specs.RowSets.{IsOfOne, of_one, of_other, of_none, IsSilentRow, AreRowsBySpecies}
use Rattle.lj_tile.specs.Pairs.{push_on_first, push_on_second, sum_of_pairs, IsMore, HavePushes, IsPushOnRing}
use Rattle.lj_tile.specs.PairTotals.{SumsWithLists, total, total_of, scale_between, HaveRow, HaveRows, row_on_first, rows_on_first, row_on_second, rows_on_second}
use Rattle.lj_task.proofs.Opposites.{same_push}
use Rattle.lj_tile.proofs.RowLemmas.{row_silent, second_more}
use Rattle.lj_tile.proofs.PairSums.{sums_joined, more_none}
use Rattle.lj_tile.proofs.RowPairs.{chosen, not_chosen, none_behind}

is_before : (t n : ℕ) → t < n → nat_lt t n ≡ true
is_before t n h = grind (arith, nat_tests)

not_before : (t n : ℕ) → n ≤ t → nat_lt t n ≡ false
not_before t n h = grind (arith, nat_tests)

pub is_not_in : (set n : ℕ) → bit_at set n ≡ 0 → is_in set n ≡ false
is_not_in set n none = rw none refl

-- before the first row of a set nothing has come
pub no_rows : (w : Task) (own : Species) (set : ℕ) (state : SumsWithLists) → HaveRows w own set 0 state state
unfolding rows_on_second
no_rows w own set state = record {
  first = λ t h. rw (not_before t 0 (omega arith)) (sym (more_none _ _));
  second = λ s h. sym (more_none _ _);
  firsts = refl;
  seconds = refl;
}

-- the sums of rows of which none is in the set
first_past : (w : Task) (rows t from to : ℕ) → from ≤ to → ((k : ℕ) → from ≤ k → k < to → bit_at rows k ≡ 0)
    → rows_on_first w rows from t ≡ rows_on_first w rows to t
first_past w rows t from to le none =
    elim (cases_lt t from) [
      | inl before ↦ rw (is_before t from before, is_before t to (omega arith)) refl
      | inr behind ↦ elim (cases_lt t to) [
        | inl between ↦
            rw (not_before t from behind, is_before t to between, is_not_in rows t (none t behind between)) refl
        | inr past ↦ rw (not_before t from behind, not_before t to past) refl
      ]
    ]

reduced : (w : Task) (rows s n : ℕ) → sum_of_pushes (rows_on_second w rows n s) no_push ≡ rows_on_second w rows n s
unfolding rows_on_second
reduced w rows s zero = refl
reduced w rows s (suc n) = more_none (rows_on_second w rows n s) (row_on_second w rows s n)

not_more : (w : Task) (rows s n : ℕ) → bit_at rows n ≡ 0
    → sum_of_pushes (rows_on_second w rows n s) no_push ≡ rows_on_second w rows (suc n) s
unfolding rows_on_second
not_more w rows s n clear = rw (is_not_in rows n clear) refl

second_past : (w : Task) (rows s from to : ℕ) → from ≤ to → ((k : ℕ) → from ≤ k → k < to → bit_at rows k ≡ 0)
    → rows_on_second w rows from s ≡ rows_on_second w rows to s
second_past w rows s from zero le none = let e : from ≡ 0 = omega (arith, le) in ap (λ n. rows_on_second w rows n s) e
second_past w rows s from (suc to) le none =
    elim (cases_lt to from) [
      | inl end ↦ let e : from ≡ suc to = omega (arith, le, end) in ap (λ n. rows_on_second w rows n s) e
      | inr more ↦
          second_past w rows s from to more (λ k h l. none k h (omega arith))
          ∙ sym (reduced w rows s to) ∙ not_more w rows s to (none to more (omega arith))
    ]

pub rows_past : (w : Task) (own : Species) (set from to : ℕ) (before after : SumsWithLists) → from ≤ to
    → ((k : ℕ) → from ≤ k → k < to → bit_at set k ≡ 0) → HaveRows w own set from before after → HaveRows w own set to before after
rows_past w own set from to before after le none have = record {
  first = λ t h. have.first t h ∙ ap (sum_of_pushes _) (first_past w set t from to le none);
  second = λ s h. have.second s h ∙ ap (sum_of_pushes _) (second_past w set s from to le none);
  firsts = have.firsts;
  seconds = have.seconds;
}

row_more : (w : Task) (rows s n : ℕ) → bit_at rows n ≡ 1
    → sum_of_pushes (rows_on_second w rows n s) (push_back w n s) ≡ rows_on_second w rows (suc n) s
unfolding rows_on_second
row_more w rows s n set = let yes_in : is_in rows n ≡ true = rw set refl in rw yes_in refl

first_more : (w : Task) (rows t n : ℕ) (sum : Push) → bit_at rows n ≡ 1
    → sum_of_pushes (sum_of_pushes sum (rows_on_first w rows n t)) (row_on_first w n t)
    ≡ sum_of_pushes sum (rows_on_first w rows (n + 1) t)
first_more w rows t n sum set =
    elim (cases_lt t n) [
      | inl before ↦
          let other : t ≢ n = omega (arith, before) in
          rw (is_before t n before, is_before t (n + 1) (omega arith), not_chosen t n other) (more_none sum _)
      | inr behind ↦ elim (cases_eq t n) [
        | inl same ↦
            let yes_in : is_in rows t ≡ true = rw (same, set) refl in
            rw (not_before t n behind, is_before t (n + 1) (omega (arith, same)), chosen t n same, yes_in)
            (none_between sum (sum_on_first w n (length w.b.places)) ∙ ap (λ k. sum_of_pushes sum (sum_on_first w k (length w.b.places))) (sym same))
        | inr other ↦
            rw (not_before t n behind, not_before t (n + 1) (omega (arith, behind, other)), not_chosen t n other) (more_none sum no_push)
      ]
    ]
  where
    none_between : (a b : Push) → sum_of_pushes (sum_of_pushes a no_push) b ≡ sum_of_pushes a b
    none_between a b = same_push _ _ (omega arith) (omega arith) (omega arith)

-- one row of the set more
pub rows_next : (w : Task) (own : Species) (set n : ℕ) (before mid after : SumsWithLists) → bit_at set n ≡ 1
    → HaveRows w own set n before mid → HaveRow w own n mid after → HaveRows w own set (n + 1) before after
rows_next w own set n before mid after one have row = record {
  first = λ t h.
      row.first t h ∙ ap (λ p. sum_of_pushes p (row_on_first w n t)) (have.first t h) ∙ first_more w set t n _ one;
  second = λ s h.
      row.second s h ∙ ap (λ p. sum_of_pushes p (push_back w n s)) (have.second s h)
      ∙ sums_joined _ (rows_on_second w set n s) (push_back w n s)
      ∙ ap (sum_of_pushes _) (row_more w set s n one ∙ ap (λ m. rows_on_second w set m s) (sym (add-one n)));
  firsts = row.firsts ∙ have.firsts;
  seconds = row.seconds ∙ have.seconds;
}

pub is_in_set : (set n : ℕ) → bit_at set n ≡ 1 → is_in set n ≡ true
is_in_set set n one = rw one refl

own_none : (w : Task) (t n : ℕ) → sum_of_pushes (sum_on_first w t n) no_push ≡ sum_on_first w t n
own_none w t n = same_push _ _ (omega arith) (omega arith) (omega arith)

none_own : (w : Task) (t n : ℕ) → sum_of_pushes no_push (sum_on_first w t n) ≡ sum_on_first w t n
none_own w t n = same_push _ _ (omega arith) (omega arith) (omega arith)

-- the rows of two sets are all that push
pub both_first : (w : Task) (one other t : ℕ) → t < 64 → IsOfOne one other t (IsSilentRow w t)
    → sum_of_pushes (rows_on_first w one 64 t) (rows_on_first w other 64 t) ≡ sum_on_first w t (length w.b.places)
both_first w one other t below row =
    elim row [
      | of_one e f ↦ rw (is_before t 64 below, is_in_set one t e, is_not_in other t f) (own_none w t (length w.b.places))
      | of_other e f ↦ rw (is_before t 64 below, is_not_in one t e, is_in_set other t f) (none_own w t (length w.b.places))
      | of_none e f silent ↦ rw (is_before t 64 below, is_not_in one t e, is_not_in other t f) (row_silent w t silent)
    ]

one_row : (w : Task) (one other s n : ℕ) (p : Push) → sum_of_pushes (row_on_second w one s n) (row_on_second w other s n) ≡ p
    → sum_of_pushes (sum_on_second w s n) p ≡ sum_on_second w s (n + 1)
    → sum_of_pushes (sum_on_second w s n) (sum_of_pushes (row_on_second w one s n) (row_on_second w other s n))
    ≡ sum_on_second w s (suc n)
one_row w one other s n p e f = ap (sum_of_pushes (sum_on_second w s n)) e ∙ f ∙ ap (sum_on_second w s) (add-one n)

added_one : (w : Task) (s n : ℕ) → sum_of_pushes (sum_on_second w s n) (sum_of_pushes (push_back w n s) no_push) ≡ sum_on_second w s (n + 1)
added_one w s n = joined_none (sum_on_second w s n) (push_back w n s) ∙ second_more w s n (push_back w n s) refl
  where
    joined_none : (a b : Push) → sum_of_pushes a (sum_of_pushes b no_push) ≡ sum_of_pushes a b
    joined_none a b = same_push _ _ (omega arith) (omega arith) (omega arith)

added_other : (w : Task) (s n : ℕ) → sum_of_pushes (sum_on_second w s n) (sum_of_pushes no_push (push_back w n s)) ≡ sum_on_second w s (n + 1)
added_other w s n = joined_none (sum_on_second w s n) (push_back w n s) ∙ second_more w s n (push_back w n s) refl
  where
    joined_none : (a b : Push) → sum_of_pushes a (sum_of_pushes no_push b) ≡ sum_of_pushes a b
    joined_none a b = same_push _ _ (omega arith) (omega arith) (omega arith)

pub both_second : (w : Task) (one other s n : ℕ) → s < length w.b.places
    → ((t : ℕ) → t < n → IsOfOne one other t (IsSilentRow w t))
    → sum_of_pushes (rows_on_second w one n s) (rows_on_second w other n s) ≡ sum_on_second w s n
unfolding rows_on_second
both_second w one other s zero within rows = refl
both_second w one other s (suc n) within rows =
    four (rows_on_second w one n s) (row_on_second w one s n) (rows_on_second w other n s) (row_on_second w other s n)
    ∙ ap (λ p. sum_of_pushes p (sum_of_pushes (row_on_second w one s n) (row_on_second w other s n)))
    (both_second w one other s n within (λ t h. rows t (omega arith)))
    ∙ last (rows n (omega arith))
  where
    four : (a b c d : Push) → sum_of_pushes (sum_of_pushes a b) (sum_of_pushes c d) ≡ sum_of_pushes (sum_of_pushes a c) (sum_of_pushes b d)
    four a b c d = same_push _ _ (omega arith) (omega arith) (omega arith)

    last : IsOfOne one other n (IsSilentRow w n)
        → sum_of_pushes (sum_on_second w s n) (sum_of_pushes (row_on_second w one s n) (row_on_second w other s n))
        ≡ sum_on_second w s (suc n)
    last (of_one e f) =
        one_row w one other s n (sum_of_pushes (push_back w n s) no_push) (rw (is_in_set one n e, is_not_in other n f) refl)
        (added_one w s n)
    last (of_other e f) =
        one_row w one other s n (sum_of_pushes no_push (push_back w n s)) (rw (is_not_in one n e, is_in_set other n f) refl)
        (added_other w s n)
    last (of_none e f silent) =
        one_row w one other s n no_push (rw (is_not_in one n e, is_not_in other n f) refl)
        (second_more w s n no_push (sym (silent s within).back))

-- the rows behind the last place are in no set
pub rows_behind : (w : Task) (rows s n : ℕ) → n ≤ 64 → ((t : ℕ) → bit_at rows t ≡ 1 → t < n)
    → rows_on_second w rows n s ≡ rows_on_second w rows 64 s
rows_behind w rows s n le within = second_past w rows s n 64 le (none_behind rows n within)

-- the sums when all pairs of three lists are added
pub sums_of_all : (f g h : ℕ → Push) (like unlike unlike_after others : List ℕ) (sum1 sum2 sum3 sum4 sum5 one other : Push)
    → total g unlike (total f like sum1) ≡ sum_of_pushes (total g [] (total f [] no_push)) one
    → total h others (total g unlike_after sum2) ≡ sum_of_pushes (total h [] (total g unlike sum1)) other
    → IsMore f like sum2 sum3 → IsMore g unlike_after sum3 sum4 → IsMore h others sum4 sum5 → IsPushOnRing sum5
    → sum5 ≡ sum_of_pushes one other
unfolding sum_of_pairs
sums_of_all f g h like unlike unlike_after others sum1 sum2 sum3 sum4 sum5 one other p q r s t ring =
    same_push _ _
    (mods sum1.x sum2.x sum3.x sum4.x sum5.x _ _ _ _ one.x other.x (ap (λ (p : Push). p.x) p) (ap (λ (p : Push). p.x) q)
    (ap (λ (p : Push). p.x) r) (ap (λ (p : Push). p.x) s) (ap (λ (p : Push). p.x) t) ring.x)
    (mods sum1.y sum2.y sum3.y sum4.y sum5.y _ _ _ _ one.y other.y (ap (λ (p : Push). p.y) p) (ap (λ (p : Push). p.y) q)
    (ap (λ (p : Push). p.y) r) (ap (λ (p : Push). p.y) s) (ap (λ (p : Push). p.y) t) ring.y)
    (mods sum1.z sum2.z sum3.z sum4.z sum5.z _ _ _ _ one.z other.z (ap (λ (p : Push). p.z) p) (ap (λ (p : Push). p.z) q)
    (ap (λ (p : Push). p.z) r) (ap (λ (p : Push). p.z) s) (ap (λ (p : Push). p.z) t) ring.z)
  where
    mods : (s1 s2 s3 s4 s5 fl gu gv ho one other : ℕ)
        → ((s1 + fl) % 2 ^ 32 + gu) % 2 ^ 32 ≡ (((0 + 0) % 2 ^ 32 + 0) % 2 ^ 32 + one) % 2 ^ 32
        → ((s2 + gv) % 2 ^ 32 + ho) % 2 ^ 32 ≡ (((s1 + gu) % 2 ^ 32 + 0) % 2 ^ 32 + other) % 2 ^ 32
        → (s3 + 0) % 2 ^ 32 ≡ (s2 + fl) % 2 ^ 32 → (s4 + 0) % 2 ^ 32 ≡ (s3 + gv) % 2 ^ 32
        → (s5 + 0) % 2 ^ 32 ≡ (s4 + ho) % 2 ^ 32 → s5 < 2 ^ 32 → s5 ≡ (one + other) % 2 ^ 32
    mods s1 s2 s3 s4 s5 fl gu gv ho one other p q r s t ring = omega (arith, p, q, r, s, t, ring)

-- the sums of a task in the course of its computation, and the three lists of pairs: with the rows of atoms of the first
-- species, with those of the second too, and with what is left in the lists
pub record Course : Type 0 where
  pub like : List ℕ
  pub unlike : List ℕ
  pub unlike_after : List ℕ
  pub others : List ℕ
  pub none : ForceSums
  pub with_rows : ForceSums
  pub with_more_rows : ForceSums
  pub with_like : ForceSums
  pub with_unlike : ForceSums
  pub all : ForceSums

-- the sums of a task's places, from none at first
pub record AreAllSums (w : Task) (one other : ℕ) (c : Course) : Type 0 where
  pub rows : HaveRows w First one 64 (record { of_firsts = []; of_seconds = []; sums = c.none })
      (record { of_firsts = c.like; of_seconds = c.unlike; sums = c.with_rows })
  pub more_rows : HaveRows w Second other 64 (record { of_firsts = c.unlike; of_seconds = []; sums = c.with_rows })
      (record { of_firsts = c.unlike_after; of_seconds = c.others; sums = c.with_more_rows })
  pub like_pairs : HavePushes (scale_between w First First) w.a.places w.b.places c.like c.with_more_rows c.with_like
  pub unlike_pairs : HavePushes (scale_between w First Second) w.a.places w.b.places c.unlike_after c.with_like c.with_unlike
  pub other_pairs : HavePushes (scale_between w Second Second) w.a.places w.b.places c.others c.with_unlike c.all
  pub firsts : (t : ℕ) → t < 64 → slice_index_or c.none.first t no_push ≡ no_push
  pub seconds : (s : ℕ) → s < 64 → slice_index_or c.none.second s no_push ≡ no_push
  pub first_ring : (t : ℕ) → t < 64 → IsPushOnRing (slice_index_or c.all.first t no_push)
  pub second_ring : (s : ℕ) → s < 64 → IsPushOnRing (slice_index_or c.all.second s no_push)

-- the class of two species is the same in either order
same_scale : (w : Task) → scale_between w Second First ≡ scale_between w First Second
same_scale w = ap (λ (k : Class). k.scale) (class_symmetric w.mix Second First)

-- the sum of one place at last, from those in the course of the computation
all_added : (w : Task) (c : Course) (push_of : Scale → ℕ → Push) (sum_in : ForceSums → Push) (one other : Push)
    → total_of w First push_of (record { of_firsts = c.like; of_seconds = c.unlike; sums = c.with_rows }) (sum_in c.with_rows)
    ≡ sum_of_pushes (total_of w First push_of (record { of_firsts = []; of_seconds = []; sums = c.none }) (sum_in c.none)) one
    → total_of w Second push_of (record { of_firsts = c.unlike_after; of_seconds = c.others; sums = c.with_more_rows })
    (sum_in c.with_more_rows)
    ≡ sum_of_pushes
    (total_of w Second push_of (record { of_firsts = c.unlike; of_seconds = []; sums = c.with_rows }) (sum_in c.with_rows)) other
    → IsMore (push_of (scale_between w First First)) c.like (sum_in c.with_more_rows) (sum_in c.with_like)
    → IsMore (push_of (scale_between w First Second)) c.unlike_after (sum_in c.with_like) (sum_in c.with_unlike)
    → IsMore (push_of (scale_between w Second Second)) c.others (sum_in c.with_unlike) (sum_in c.all)
    → sum_in c.none ≡ no_push → IsPushOnRing (sum_in c.all) → sum_in c.all ≡ sum_of_pushes one other
all_added w c push_of sum_in one other rows more_rows like unlike others none ring =
    let f = push_of (scale_between w First First) in
    let g = push_of (scale_between w First Second) in
    let h = push_of (scale_between w Second Second) in
    sums_of_all f g h c.like c.unlike c.unlike_after c.others (sum_in c.with_rows) (sum_in c.with_more_rows) (sum_in c.with_like)
    (sum_in c.with_unlike) (sum_in c.all) one other
    (rows ∙ ap (λ p. sum_of_pushes (total g [] (total f [] p)) one) none)
    (subst (λ u. total h c.others (total (push_of u) c.unlike_after (sum_in c.with_more_rows))
    ≡ sum_of_pushes (total h [] (total (push_of u) c.unlike (sum_in c.with_rows))) other) (same_scale w) more_rows)
    like unlike others ring

pub all_firsts : (w : Task) (one other : ℕ) (c : Course) → AreAllSums w one other c → (t : ℕ) → t < 64
    → IsOfOne one other t (IsSilentRow w t) → slice_index_or c.all.first t no_push ≡ sum_on_first w t (length w.b.places)
all_firsts w one other c sums t h row =
    all_added w c (λ u. push_on_first u w.a.places w.b.places t) (λ s. slice_index_or s.first t no_push) (rows_on_first w one 64 t)
    (rows_on_first w other 64 t) (sums.rows.first t h) (sums.more_rows.first t h) (sums.like_pairs.first t h)
    (sums.unlike_pairs.first t h) (sums.other_pairs.first t h) (sums.firsts t h) (sums.first_ring t h)
    ∙ both_first w one other t h row

pub all_seconds : (w : Task) (one other : ℕ) (c : Course) → AreAllSums w one other c → (s : ℕ) → s < length w.b.places
    → length w.b.places ≤ 64 → length w.a.places ≤ 64 → AreRowsBySpecies w one other
    → slice_index_or c.all.second s no_push ≡ sum_on_second w s (length w.a.places)
all_seconds w one other c sums s within few many rows =
    let h : s < 64 = omega (arith, within, few) in
    let n = length w.a.places in
    all_added w c (λ u. push_on_second u w.a.places w.b.places s) (λ t. slice_index_or t.second s no_push)
    (rows_on_second w one 64 s) (rows_on_second w other 64 s) (sums.rows.second s within) (sums.more_rows.second s within)
    (sums.like_pairs.second s h) (sums.unlike_pairs.second s h) (sums.other_pairs.second s h) (sums.seconds s h) (sums.second_ring s h)
    ∙ ap (λ p. sum_of_pushes p (rows_on_second w other 64 s)) (sym (rows_behind w one s n many (λ t set. (rows.firsts t set).within)))
    ∙ ap (sum_of_pushes (rows_on_second w one n s)) (sym (rows_behind w other s n many (λ t set. (rows.seconds t set).within)))
    ∙ both_second w one other s n within rows.each
