-- Images on the ring.
use Rattle.std.proofs.Common.{ℕ, ◌+◌, ◌-◌, ◌%◌, ◌^◌, ◌<◌, ◌≤◌, ℤ, pos, negsuc, ◌+ℤ◌, ◌-ℤ◌, ◌*ℤ◌, ◌≡◌, inl, inr, arith}
use Rattle.std.proofs.lemmas.Int.{ints}
use Rattle.std.proofs.lemmas.Bool.{cases_lt}
use Rattle.std.proofs.lemmas.Bool.Decides.{nat_tests}
use Rattle.std.specs.Int.{cast_signed, w32}
use Rattle.lj_ring.specs.Ring.{image, IsLeastImage}

-- a residue in the upper half of the ring, as a signed number
pub upper_half : (n : ℕ) → 2 ^ 31 ≤ n → n < 2 ^ 32 → cast_signed w32 n ≡ negsuc (2 ^ 32 - 1 - n)
upper_half n far in_n = grind (arith, nat_tests)

-- an image is the difference but for whole turns
pub turns : (a b : ℕ) → a < 2 ^ 32 → b < 2 ^ 32 → (k : ℤ) × (image a b ≡ pos a -ℤ pos b +ℤ k *ℤ pos (2 ^ 32))
turns a b in_a in_b =
    elim (cases_lt a b) [
      | inl under ↦
          let e : (a + (2 ^ 32 - b)) % 2 ^ 32 ≡ a + (2 ^ 32 - b) = omega arith in
          elim (cases_lt (a + (2 ^ 32 - b)) (2 ^ 31)) [
            | inl near ↦ (pos 1, rw e (omega (arith, ints)))
            | inr far ↦ (pos 0, rw (e, upper_half (a + (2 ^ 32 - b)) far (omega arith)) (omega (arith, ints)))
          ]
      | inr over ↦
          let e : (a + (2 ^ 32 - b)) % 2 ^ 32 ≡ a - b = omega arith in
          elim (cases_lt (a - b) (2 ^ 31)) [
            | inl near ↦ (pos 0, rw e (omega (arith, ints)))
            | inr far ↦ (negsuc 0, rw (e, upper_half (a - b) far (omega arith)) (omega (arith, ints)))
          ]
    ]

-- the image of a difference is its least one
pub image-least : (a b : ℕ) → a < 2 ^ 32 → b < 2 ^ 32 → IsLeastImage a b (image a b)
image-least a b in_a in_b = record {
  from = omega (arith, ints);
  below = omega (arith, ints);
  turns = turns a b in_a in_b;
}
