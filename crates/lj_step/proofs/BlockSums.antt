-- Sums over the atoms of one block among those of all.
use Rattle.std.proofs.Common.{ℕ, zero, suc, ◌+◌, ◌-◌, ◌*◌, ◌/◌, ◌<◌, ◌≤◌, ◌≡◌, ◌≢◌, ◌==◌, ℤ, pos, ◌+ℤ◌, Bool, true}
use Rattle.std.proofs.Common.{false, nat_lt, min, if◌then◌else◌, inl, inr, refl, sym, ap, ◌∙◌, add-zero, arith}
use Rattle.std.proofs.Math.IntN.{+ℤ_assoc, +ℤ_comm, +ℤ_idr}
use Rattle.std.proofs.lemmas.Bool.{cases_eq, cases_lt}
use Rattle.std.proofs.lemmas.Bool.Decides.{nat_tests}
use Rattle.lj_ring.specs.Ring.{sum_below, int_sum_below}
use Rattle.lj_step.proofs.RingSums.{same_terms}

-- how many of the first n atoms stand in block b
unfoldable pub length_in : ℕ → ℕ → ℕ
length_in b n = min (64 * b + 64) n - 64 * b

in_block : (b n : ℕ) → n / 64 ≡ b → (length_in b (suc n) ≡ suc (length_in b n)) × (64 * b + length_in b n ≡ n)
unfolding length_in
in_block b n e = (omega arith, omega arith)

out_of_block : (b n : ℕ) → n / 64 ≢ b → length_in b (suc n) ≡ length_in b n
unfolding length_in
out_of_block b n e = omega arith

no_atoms : (b : ℕ) → length_in b 0 ≡ 0
unfolding length_in
no_atoms b = omega arith

-- the terms of one block among those of all atoms, whatever is added
module _ {A : Type 0} (add : A → A → A) (none : A) (total : ℕ → (ℕ → A) → A) (same : (a : A) → add a none ≡ a)
    (first : (f g : ℕ → A) → total 0 f ≡ total 0 g)
    (more : (n : ℕ) (f : ℕ → A) → total (suc n) f ≡ add (total n f) (f n)) where
  block_terms : (f : ℕ → A) (b n : ℕ) → total n (λ j. if j / 64 == b then f j else none)
      ≡ total (length_in b n) (λ s. f (64 * b + s))
  block_terms f b zero =
      first (λ j. if j / 64 == b then f j else none) (λ s. f (64 * b + s))
      ∙ sym (ap (λ m. total m (λ s. f (64 * b + s))) (no_atoms b))
  block_terms f b (suc n) =
      more n (λ j. if j / 64 == b then f j else none)
      ∙ elim (cases_eq (n / 64) b) [
        | inl within ↦
            let e : (n / 64 == b) ≡ true = grind (arith, nat_tests) in
            ap (λ (t : Bool). add (total n (λ j. if j / 64 == b then f j else none)) (if t then f n else none)) e
            ∙ ap (λ s. add s (f n)) (block_terms f b n)
            ∙ ap (λ k. add (total (length_in b n) (λ s. f (64 * b + s))) (f k)) (sym (in_block b n within).1)
            ∙ sym (more (length_in b n) (λ s. f (64 * b + s)))
            ∙ ap (λ m. total m (λ s. f (64 * b + s))) (sym (in_block b n within).0)
        | inr outside ↦
            let e : (n / 64 == b) ≡ false = grind (arith, nat_tests) in
            ap (λ (t : Bool). add (total n (λ j. if j / 64 == b then f j else none)) (if t then f n else none)) e
            ∙ same (total n (λ j. if j / 64 == b then f j else none))
            ∙ block_terms f b n
            ∙ ap (λ m. total m (λ s. f (64 * b + s))) (sym (out_of_block b n outside))
      ]

pub block_sum : (f : ℕ → ℕ) (b n : ℕ) → sum_below n (λ j. if j / 64 == b then f j else 0)
    ≡ sum_below (length_in b n) (λ s. f (64 * b + s))
block_sum = block_terms ◌+◌ 0 sum_below add-zero (λ f g. refl) (λ n f. refl)

pub int_block_sum : (f : ℕ → ℤ) (b n : ℕ) → int_sum_below n (λ j. if j / 64 == b then f j else pos 0)
    ≡ int_sum_below (length_in b n) (λ s. f (64 * b + s))
int_block_sum = block_terms ◌+ℤ◌ (pos 0) int_sum_below +ℤ_idr (λ f g. refl) (λ n f. refl)

-- sums of terms that are equal below n
pub int_sum_same : (n : ℕ) (f g : ℕ → ℤ) → ((k : ℕ) → k < n → f k ≡ g k) → int_sum_below n f ≡ int_sum_below n g
int_sum_same = same_terms ◌+ℤ◌ int_sum_below (λ f g. refl) (λ n f. refl)

-- terms that are all 0
pub int_sum_none : (n : ℕ) (f : ℕ → ℤ) → ((k : ℕ) → k < n → f k ≡ pos 0) → int_sum_below n f ≡ pos 0
int_sum_none zero f h = refl
int_sum_none (suc n) f h =
    let front = int_sum_none n f (λ k below. h k (omega arith)) in
    let last = h n (omega arith) in
    ap (λ s. s +ℤ f n) front ∙ ap (λ t. pos 0 +ℤ t) last

regroup : (a b c d : ℤ) → (a +ℤ b) +ℤ (c +ℤ d) ≡ (a +ℤ c) +ℤ (b +ℤ d)
regroup a b c d =
    +ℤ_assoc a b (c +ℤ d)
    ∙ ap (λ t. a +ℤ t) (sym (+ℤ_assoc b c d) ∙ ap (λ t. t +ℤ d) (+ℤ_comm b c) ∙ +ℤ_assoc c b d)
    ∙ sym (+ℤ_assoc a c (b +ℤ d))

-- the sum of two sums
pub int_sum_plus : (n : ℕ) (f g : ℕ → ℤ) → int_sum_below n (λ k. f k +ℤ g k) ≡ int_sum_below n f +ℤ int_sum_below n g
int_sum_plus zero f g = refl
int_sum_plus (suc n) f g =
    ap (λ s. s +ℤ (f n +ℤ g n)) (int_sum_plus n f g) ∙ regroup (int_sum_below n f) (int_sum_below n g) (f n) (g n)

-- the first j terms as terms among the first n
pub int_sum_cut : (f : ℕ → ℤ) (j n : ℕ) → j ≤ n → int_sum_below n (λ i. if nat_lt i j then f i else pos 0)
    ≡ int_sum_below j f
int_sum_cut f j zero below = let e : j ≡ 0 = omega arith in sym (ap (λ m. int_sum_below m f) e)
int_sum_cut f j (suc n) below =
    elim (cases_lt n j) [
      | inl within ↦
          let e : j ≡ suc n = omega arith in
          let all : (i : ℕ) → i < suc n → (if nat_lt i j then f i else pos 0) ≡ f i = λ i h.
          let t : nat_lt i j ≡ true = grind (arith, nat_tests) in ap (λ (b : Bool). if b then f i else pos 0) t in
          int_sum_same (suc n) (λ i. if nat_lt i j then f i else pos 0) f all ∙ sym (ap (λ m. int_sum_below m f) e)
      | inr outside ↦
          let t : nat_lt n j ≡ false = grind (arith, nat_tests) in
          ap (λ (b : Bool). int_sum_below n (λ i. if nat_lt i j then f i else pos 0) +ℤ (if b then f n else pos 0)) t
          ∙ +ℤ_idr (int_sum_below n (λ i. if nat_lt i j then f i else pos 0))
          ∙ int_sum_cut f j n outside
    ]
