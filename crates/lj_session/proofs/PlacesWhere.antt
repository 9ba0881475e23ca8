-- Places where a test holds, one list behind another, and block by block.
use Rattle.std.proofs.Common.{◌≡◌, ℕ, suc, ◌+◌, ◌*◌, ◌%◌, ◌^◌, ◌<◌, ◌≤◌, Bool, true, false, List, [], ◌∷◌, ◌++◌}
use Rattle.std.proofs.Common.{inl, inr, length, sym, ap, ◌∙◌, arith}
use Rattle.std.specs.Prelude.{if◌then◌else◌}
use Rattle.std.proofs.Math.Nat.{mod-eq_of_lt, mul-add, mul_assoc, pow-succ'}
use Rattle.std.proofs.Math.Pow.{pow_mono}
use Rattle.std.proofs.lemmas.Bool.{cases_lt}
use Rattle.std.proofs.lemmas.List.{length-append}
use Rattle.std.proofs.lemmas.Nat.{pow-add}
use Rattle.lj_step.specs.Sets.{number_of_bits}
use Rattle.lj_session.specs.Interactions.{places_where}

pub bit_of : (t : ℕ) → t < 64 → 1 * 2 ^ t % 2 ^ 64 ≡ 2 ^ t * 1
bit_of t few =
    let most : 2 ^ t ≤ 2 ^ 63 = pow_mono {i = t} {j = 63} (omega (arith, few)) in
    let fits : 1 * 2 ^ t < 2 ^ 64 = omega (arith, most) in
    mod-eq_of_lt fits ∙ omega arith

bit-few : (b : Bool) → (if b then 1 else 0) ≤ 1
bit-few true = omega arith
bit-few false = omega arith

-- 2 to the next power times a number is twice the same
doubled : (n y : ℕ) → 2 ^ suc n * y ≡ 2 * (2 ^ n * y)
doubled n y = ap (λ m. m * y) (pow-succ' 2 n) ∙ mul_assoc 2 (2 ^ n) y

module _ {A : Type 0} (test : A → Bool) where
  -- fewer than the numbers of so many bits
  pub places-few : (xs : List A) → places_where test xs < 2 ^ length xs
  places-few [] = omega arith
  places-few (x ∷ xs) = omega (arith, places-few xs, bit-few (test x), pow-succ' 2 (length xs))

  -- the places of a list behind another come after those of the first
  pub places-both : (xs ys : List A)
      → places_where test (xs ++ ys) ≡ places_where test xs + 2 ^ length xs * places_where test ys
  places-both [] ys = omega arith
  places-both (x ∷ xs) ys = omega (arith, places-both xs ys, doubled (length xs) (places_where test ys))

  -- one place more
  pub places-more : (xs : List A) (x : A) (bit : ℕ) → (if test x then 1 else 0) ≡ bit
      → places_where test (xs ++ x ∷ []) ≡ places_where test xs + 2 ^ length xs * bit
  places-more xs x bit is =
      places-both xs (x ∷ [])
      ∙ ap (λ m. places_where test xs + 2 ^ length xs * m) (omega (arith, is))

-- one block more
pub joined-more : (list : List ℕ) (word : ℕ) → word < 2 ^ 64
    → number_of_bits (list ++ word ∷ []) ≡ number_of_bits list + 2 ^ (64 * length list) * word
joined-more [] word fits = omega (arith, mod-eq_of_lt fits)
joined-more (species_bits ∷ others) word fits =
    let n = length others in
    let from : 64 * suc n ≡ 64 + 64 * n = omega arith in
    let next : 2 ^ (64 * suc n) * word ≡ 2 ^ 64 * (2 ^ (64 * n) * word) =
    ap (λ m. 2 ^ m * word) from ∙ ap (λ m. m * word) (pow-add 2 64 (64 * n)) ∙ mul_assoc (2 ^ 64) (2 ^ (64 * n)) word in
    omega (arith, joined-more others word fits, next)

-- The first of the atoms that are left are a block more: of 64 atoms, or no other is left.
module _ {A : Type 0} (test : A → Bool) (list : List ℕ) (block others : List A) where
  abbrev word : ℕ
  word = places_where test block

  abbrev behind : ℕ
  behind = places_where test others

  -- the place of the others
  shifted : length block ≤ 64 → (length block < 64 → others ≡ [])
      → 2 ^ (64 * length list) * (2 ^ length block * behind) ≡ 2 ^ (64 * length (list ++ word ∷ [])) * behind
  shifted most last =
      elim (cases_lt (length block) 64) [
        | inl fewer ↦ rw (last fewer) (omega arith)
        | inr enough ↦
            let whole : length block ≡ 64 = omega (arith, enough, most) in
            let from : 64 * length (list ++ word ∷ []) ≡ 64 * length list + 64 =
            omega (arith, length-append list (word ∷ [])) in
            ap (λ n. 2 ^ (64 * length list) * (2 ^ n * behind)) whole
            ∙ sym (mul_assoc (2 ^ (64 * length list)) (2 ^ 64) behind)
            ∙ ap (λ m. m * behind) (sym (pow-add 2 (64 * length list) 64))
            ∙ ap (λ n. 2 ^ n * behind) (sym from)
      ]

  pub block-more : length block ≤ 64 → (length block < 64 → others ≡ [])
      → number_of_bits list + 2 ^ (64 * length list) * places_where test (block ++ others)
      ≡ number_of_bits (list ++ word ∷ []) + 2 ^ (64 * length (list ++ word ∷ [])) * behind
  block-more most last =
      let few : word < 2 ^ 64 = omega (arith, places-few test block, pow_mono {i = length block} {j = 64} most) in
      let parts : 2 ^ (64 * length list) * places_where test (block ++ others)
      ≡ 2 ^ (64 * length list) * word + 2 ^ (64 * length list) * (2 ^ length block * behind) =
      ap (λ m. 2 ^ (64 * length list) * m) (places-both test block others)
      ∙ mul-add (2 ^ (64 * length list)) word (2 ^ length block * behind) in
      omega (arith, joined-more list word few, parts, shifted most last)
