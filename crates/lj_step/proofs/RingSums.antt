-- Sums on the ring.
use Rattle.std.proofs.Common.{ℕ, zero, suc, ◌+◌, ◌%◌, ◌^◌, ◌<◌, ◌≡◌, refl, sym, ap, ◌∙◌, arith}
use Rattle.lj_ring.specs.Ring.{sum_below, ring_sum}

-- sums of terms that are equal below n are equal, whatever is added
pub same_terms : {A : Type 0} (add : A → A → A) (total : ℕ → (ℕ → A) → A) → ((f g : ℕ → A) → total 0 f ≡ total 0 g)
    → ((n : ℕ) (f : ℕ → A) → total (suc n) f ≡ add (total n f) (f n))
    → (n : ℕ) (f g : ℕ → A) → ((k : ℕ) → k < n → f k ≡ g k) → total n f ≡ total n g
same_terms add total none more zero f g h = none f g
same_terms add total none more (suc n) f g h =
    more n f
    ∙ ap (λ s. add s (f n)) (same_terms add total none more n f g (λ k below. h k (omega arith)))
    ∙ ap (add (total n g)) (h n (omega arith))
    ∙ sym (more n g)

pub sum_same : (n : ℕ) (f g : ℕ → ℕ) → ((k : ℕ) → k < n → f k ≡ g k) → sum_below n f ≡ sum_below n g
sum_same = same_terms ◌+◌ sum_below (λ f g. refl) (λ n f. refl)

-- the same, of terms that are equal on the ring
pub ring_sum_same : (n : ℕ) (f g : ℕ → ℕ) → ((k : ℕ) → k < n → f k % 2 ^ 32 ≡ g k % 2 ^ 32)
    → ring_sum n f ≡ ring_sum n g
ring_sum_same zero f g h = refl
ring_sum_same (suc n) f g h =
    let front : sum_below n f % 2 ^ 32 ≡ sum_below n g % 2 ^ 32 = ring_sum_same n f g (λ k below. h k (omega arith)) in
    let last : f n % 2 ^ 32 ≡ g n % 2 ^ 32 = h n (omega arith) in
    omega arith

regroup : (a b c d : ℕ) → (a + b) + (c + d) ≡ (a + c) + (b + d)
regroup a b c d = omega arith

-- the sum of two sums
pub sum_plus : (n : ℕ) (f g : ℕ → ℕ) → sum_below n (λ k. f k + g k) ≡ sum_below n f + sum_below n g
sum_plus zero f g = refl
sum_plus (suc n) f g = ap (λ s. s + (f n + g n)) (sum_plus n f g) ∙ regroup (sum_below n f) (sum_below n g) (f n) (g n)

-- terms that are 0 on the ring
pub ring_sum_zero : (n : ℕ) (f : ℕ → ℕ) → ((k : ℕ) → k < n → f k % 2 ^ 32 ≡ 0) → ring_sum n f ≡ 0
ring_sum_zero zero f h = refl
ring_sum_zero (suc n) f h =
    let front : sum_below n f % 2 ^ 32 ≡ 0 = ring_sum_zero n f (λ k below. h k (omega arith)) in
    let last : f n % 2 ^ 32 ≡ 0 = h n (omega arith) in
    omega arith

-- each pair of a square adds up to 0: so does the whole square
module _ (g : ℕ → ℕ → ℕ) where
  square_sum : ℕ → ℕ → ℕ
  square_sum n m = sum_below n (λ i. sum_below m (g i))

  one_column : (n m : ℕ) → square_sum n (suc m) ≡ square_sum n m + sum_below n (λ i. g i m)
  unfolding square_sum
  one_column n m = sum_plus n (λ i. sum_below m (g i)) (λ i. g i m)

  parts_zero : (a b c d : ℕ) → a % 2 ^ 32 ≡ 0 → (b + c) % 2 ^ 32 ≡ 0 → d % 2 ^ 32 ≡ 0 → (a + b + (c + d)) % 2 ^ 32 ≡ 0
  parts_zero a b c d h k l = omega arith

  pub square_zero : (n : ℕ) → ((i j : ℕ) → i < n → j < n → (g i j + g j i) % 2 ^ 32 ≡ 0)
      → ((i : ℕ) → i < n → g i i % 2 ^ 32 ≡ 0)
      → ring_sum n (λ i. sum_below n (g i)) ≡ 0
  unfolding square_sum
  square_zero zero opposite itself = refl
  square_zero (suc n) opposite itself =
      let inner : square_sum n n % 2 ^ 32 ≡ 0 =
      square_zero n (λ i j p q. opposite i j (omega arith) (omega arith)) (λ i p. itself i (omega arith)) in
      let edges : (sum_below n (λ i. g i n) + sum_below n (g n)) % 2 ^ 32 ≡ 0 =
      ap (λ s. s % 2 ^ 32) (sym (sum_plus n (λ i. g i n) (g n)))
      ∙ ring_sum_zero n (λ i. g i n + g n i) (λ k below. opposite k n (omega arith) (omega arith)) in
      ap (λ s. (s + (sum_below n (g n) + g n n)) % 2 ^ 32) (one_column n n)
      ∙ parts_zero (square_sum n n) (sum_below n (λ i. g i n)) (sum_below n (g n)) (g n n)
      inner edges (itself n (omega arith))
