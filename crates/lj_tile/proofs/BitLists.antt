-- Lists of the members of a mask, and how they are written.
use Rattle.std.proofs.Common.{ℕ, zero, suc, ◌+◌, ◌-◌, ◌/◌, ◌%◌, ◌^◌, ◌<◌, ◌≤◌, ◌≡◌, true, false, [], ◌∷◌, ◌++◌}
use Rattle.std.proofs.Common.{length, length-append, refl, sym, ap, ◌∙◌, inl, inr, add-one, min, bit_and, count_ones, arith}
use Rattle.std.specs.Int.{bit_at}
use Rattle.std.specs.Int.Count.{ones, ones_in}
use Rattle.std.proofs.lemmas.Nat.{shr-shr}
use Rattle.std.proofs.lemmas.Nat.Bits.{bit_at_above, bit_at-zero, bit_at-lt, bit_at_and, bit_at_lowest, bit_at-suc}
use Rattle.std.proofs.lemmas.Bool.{cases_lt, cases_eq}
use Rattle.lj_ring.specs.Ring.{sum_below}
use Rattle.lj_task.specs.Species.{is_in}
use Rattle.lj_tile.specs.Pairs.{members}
use Rattle.lj_tile.proofs.SumLemmas.{m_zero, sum_far, sum_same}

-- a sum from its first term on
sum_front_term : (n : ℕ) (f : ℕ → ℕ) → sum_below (suc n) f ≡ f 0 + sum_below n (λ i. f (suc i))
sum_front_term zero f = omega arith
sum_front_term (suc n) f = omega (arith, sum_front_term n f)

one_more : (i : ℕ) → 1 + i ≡ suc i
one_more i = omega arith

bit_halved : (n i : ℕ) → bit_at (n / 2) i ≡ bit_at n (suc i)
bit_halved n i = ap (λ m. m % 2) (shr-shr n 1 i ∙ ap (λ j. n / 2 ^ j) (one_more i))

-- the number of ones among the lowest digits is their sum
ones_are : (d n : ℕ) → ones_in d n ≡ sum_below d (bit_at n)
unfolding ones_in
ones_are zero n = refl
ones_are (suc d) n =
    let lowest = bit_at_lowest n in
    let rest = ones_are d (n / 2) ∙ sum_same d (bit_at (n / 2)) (λ i. bit_at n (suc i)) (λ k h. bit_halved n k) in
    let whole = sum_front_term d (bit_at n) in
    omega (arith, lowest, rest, whole)

self_below : (n : ℕ) → n < 2 ^ n
self_below zero = omega arith
self_below (suc n) = omega (arith, self_below n)

-- of a number of 64 digits the ones are the sum of its digits
ones_64 : (n : ℕ) → n < 2 ^ 64 → ones n ≡ sum_below 64 (bit_at n)
unfolding count_ones ones_in
ones_64 n small =
    ones_are n n
    ∙ elim (cases_lt n 64) [
      | inl less ↦ sum_far (bit_at n) n 64 (omega arith) (λ s h k. bit_at_above n n s (self_below n) h)
      | inr more ↦ sym (sum_far (bit_at n) 64 n more (λ s h k. bit_at_above n 64 s small h))
    ]

-- how many members there are below n
member_count : (set n : ℕ) → length (members set n) ≡ sum_below n (bit_at set)
unfolding members
member_count set zero = refl
member_count set (suc n) =
    elim (cases_eq (bit_at set n) 1) [
      | inl one ↦
          let yes : is_in set n ≡ true = rw one refl in
          rw (yes, length-append, one) (ap (λ k. k + 1) (member_count set n))
      | inr other ↦
          let none : bit_at set n ≡ 0 = omega (arith, bit_at-lt set n) in
          let no : is_in set n ≡ false = rw none refl in
          rw (no, none) (member_count set n ∙ sym (omega arith))
    ]

pub ones_members : (n : ℕ) → n < 2 ^ 64 → count_ones n ≡ length (members n 64)
ones_members n small = ones_64 n small ∙ sym (member_count n 64)

-- one less clears the lowest bit that is set, and leaves those above it
record IsLessOne (r n : ℕ) : Type 0 where
  pub clear : bit_at (r - 1) n ≡ 0
  pub above : (k : ℕ) → n < k → bit_at (r - 1) k ≡ bit_at r k

less_one : (n r : ℕ) → bit_at r n ≡ 1 → ((k : ℕ) → k < n → bit_at r k ≡ 0) → IsLessOne r n
less_one zero r set none =
    let odd : r % 2 ≡ 1 = sym (bit_at_lowest r) ∙ set in
    record {
      clear = bit_at_lowest (r - 1) ∙ omega (arith, odd);
      above = above odd;
    }
  where
    above : r % 2 ≡ 1 → (k : ℕ) → zero < k → bit_at (r - 1) k ≡ bit_at r k
    above odd zero less = absurd (omega (arith, less))
    above odd (suc k) less =
        let halves : (r - 1) / 2 ≡ r / 2 = omega (arith, odd) in
        bit_at-suc (r - 1) k ∙ ap (λ m. bit_at m k) halves ∙ sym (bit_at-suc r k)
less_one (suc n) r set none =
    let even : r % 2 ≡ 0 = sym (bit_at_lowest r) ∙ none 0 (omega arith) in
    let half = less_one n (r / 2) (sym (bit_at-suc r n) ∙ set) (λ k h. sym (bit_at-suc r k) ∙ none (suc k) (omega arith)) in
    let some : 0 < r / 2 = not_zero (r / 2) n (sym (bit_at-suc r n) ∙ set) in
    let halves : (r - 1) / 2 ≡ r / 2 - 1 = omega (arith, even, some) in
    record {
      clear = bit_at-suc (r - 1) n ∙ ap (λ m. bit_at m n) halves ∙ half.clear;
      above = above half halves;
    }
  where
    not_zero : (m n : ℕ) → bit_at m n ≡ 1 → 0 < m
    not_zero m n set =
        elim (cases_eq m 0) [
          | inl e ↦ absurd (omega (arith, set, bit_at-zero n, ap (λ q. bit_at q n) e))
          | inr other ↦ omega (arith, other)
        ]

    above : IsLessOne (r / 2) n → (r - 1) / 2 ≡ r / 2 - 1 → (k : ℕ) → suc n < k → bit_at (r - 1) k ≡ bit_at r k
    above half halves zero less = absurd (omega (arith, less))
    above half halves (suc k) less =
        bit_at-suc (r - 1) k ∙ ap (λ m. bit_at m k) halves ∙ half.above k (omega arith) ∙ sym (bit_at-suc r k)

-- `rest` has the members of a mask from j on
pub record IsAbove (mask j rest : ℕ) : Type 0 where
  pub below : (k : ℕ) → k < j → bit_at rest k ≡ 0
  pub above : (k : ℕ) → j ≤ k → bit_at rest k ≡ bit_at mask k

pub above_all : (mask : ℕ) → IsAbove mask 0 mask
above_all mask = record { below = λ k less. absurd (omega (arith, less)); above = λ k h. refl }

-- the least member cleared
abbrev pub others : ℕ → ℕ
others rest = bit_and rest ((rest + (2 ^ 64 - 1)) % 2 ^ 64)

pub above_next : (mask j rest n : ℕ) → rest < 2 ^ 64 → IsAbove mask j rest → j ≤ n → bit_at mask n ≡ 1
    → ((k : ℕ) → k < n → bit_at rest k ≡ 0) → IsAbove mask (n + 1) (others rest)
above_next mask j rest n small from least set none =
    let one : bit_at rest n ≡ 1 = from.above n least ∙ set in
    let less = less_one n rest one none in
    let some : 0 < rest = positive one in
    let minus : (rest + (2 ^ 64 - 1)) % 2 ^ 64 ≡ rest - 1 = omega (arith, some, small) in
    let each : (k : ℕ) → bit_at (others rest) k ≡ min (bit_at rest k) (bit_at (rest - 1) k) =
    λ k. bit_at_and rest _ k ∙ ap (λ m. min (bit_at rest k) (bit_at m k)) minus in
    record {
      below = λ k h. elim (cases_lt k n) [
        | inl before ↦ let zero_bit = none k before in omega (arith, each k, zero_bit)
        | inr at ↦
            let e : k ≡ n = omega arith in
            let cleared : bit_at (rest - 1) k ≡ 0 = ap (bit_at (rest - 1)) e ∙ less.clear in
            omega (arith, each k, cleared)
      ];
      above = λ k h.
          let same = less.above k (omega arith) in
          let bits : min (bit_at rest k) (bit_at (rest - 1) k) ≡ bit_at rest k = omega (arith, same) in
          each k ∙ bits ∙ from.above k (omega (arith, h, least));
    }
  where
    positive : bit_at rest n ≡ 1 → 0 < rest
    positive one =
        elim (cases_eq rest 0) [
          | inl e ↦ absurd (omega (arith, one, bit_at-zero n, ap (λ q. bit_at q n) e))
          | inr other ↦ omega (arith, other)
        ]

-- of an empty set nothing is left
pub above_none : (mask j : ℕ) → IsAbove mask j 0 → IsAbove mask j (others 0)
above_none mask j from =
    let each : (k : ℕ) → bit_at (others 0) k ≡ bit_at 0 k =
    λ k. let both = bit_at_and 0 ((0 + (2 ^ 64 - 1)) % 2 ^ 64) k in omega (arith, both, bit_at-zero k) in
    record { below = λ k h. each k ∙ from.below k h; above = λ k h. each k ∙ from.above k h }

-- members between which none lies, and one more
pub members_past : (set m n : ℕ) → m ≤ n → ((s : ℕ) → m ≤ s → s < n → bit_at set s ≡ 0) → members set m ≡ members set n
unfolding members
members_past set m zero le none = rw (m_zero m le) refl
members_past set m (suc n) le none =
    elim (cases_lt n m) [
      | inl end ↦ let e : m ≡ suc n = omega arith in rw e refl
      | inr more ↦
          let not : is_in set n ≡ false = rw (none n more (omega arith)) refl in
          rw not (members_past set m n more (λ s h k. none s h (omega arith)))
    ]

pub members_more : (set n : ℕ) → bit_at set n ≡ 1 → members set (n + 1) ≡ members set n ++ n ∷ []
unfolding members
members_more set n one =
    let yes : is_in set n ≡ true = rw one refl in
    rw (add-one, yes) refl

pub members_le : (set m n : ℕ) → m ≤ n → length (members set m) ≤ length (members set n)
members_le set m zero le = rw (m_zero m le) (omega arith)
members_le set m (suc n) le =
    elim (cases_lt n m) [
      | inl end ↦ let e : m ≡ suc n = omega arith in rw e (omega arith)
      | inr more ↦
          let before = members_le set m n more in
          let counts = member_count set n in
          let counts_more = member_count set (suc n) in
          omega (arith, before, counts, counts_more)
    ]

-- where as many members lie below n as below m, none lies between
pub members_none : (set m n : ℕ) → m ≤ n → length (members set m) ≡ length (members set n)
    → (s : ℕ) → m ≤ s → s < n → bit_at set s ≡ 0
members_none set m n le same s h k =
    let front = members_le set m s h in
    let back = members_le set (suc s) n (omega arith) in
    let counts = member_count set s in
    let counts_more = member_count set (suc s) in
    omega (arith, front, back, counts, counts_more, same)

-- and they are the same
pub members_same : (set m n : ℕ) → m ≤ n → length (members set m) ≡ length (members set n) → members set m ≡ members set n
members_same set m n le same = members_past set m n le (members_none set m n le same)
