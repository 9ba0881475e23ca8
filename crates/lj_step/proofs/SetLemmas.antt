-- Sets of atoms, block by block.
use Rattle.std.proofs.Common.{ℕ, zero, suc, ◌+◌, ◌-◌, ◌*◌, ◌/◌, ◌%◌, ◌^◌, ◌<◌, ◌≡◌, List, [], ◌∷◌, slice_index_or, sym, ap, ◌∙◌, arith}
use Rattle.std.proofs.Math.Nat.{mod-lt, mod-eq_of_lt, zero-div, div-one}
use Rattle.std.specs.Int.{bit_at}
use Rattle.std.proofs.lemmas.Nat.{pow_pos, div-add-mod', shr-shr, shr_high, mod_low}
use Rattle.std.proofs.lemmas.Nat.Bits.{bit_at_cat_low, bit_at_cat_high}
use Rattle.lj_step.specs.Sets.{number_of_bits, species_bits_in}

-- the bit of a place of a block is that of its atom
pub bit_in_block : (n b t : ℕ) → t < 64 → bit_at (species_bits_in n b) t ≡ bit_at n (64 * b + t)
bit_in_block n b t few =
    let here : ℕ = n / 2 ^ (64 * b) in
    let place : 64 * b + t - 64 * b ≡ t = omega arith in
    sym (bit_at_cat_low (here / 2 ^ 64) 64 (here % 2 ^ 64) t few)
    ∙ ap (λ m. bit_at m t) (div-add-mod' here (2 ^ 64))
    ∙ ap (bit_at here) (sym place)
    ∙ sym (bit_at_cat_high here (64 * b) (n % 2 ^ (64 * b)) (64 * b + t) (mod-lt n (pow_pos (64 * b))) (omega arith))
    ∙ ap (λ m. bit_at m (64 * b + t)) (div-add-mod' n (2 ^ (64 * b)))

-- the places of a block are those of its number in the list, each a number of 64 bits, and none past the list
pub joined_in : (list : List ℕ) (b : ℕ) → species_bits_in (number_of_bits list) b ≡ slice_index_or list b 0 % 2 ^ 64
joined_in [] b = ap (λ n. n % 2 ^ 64) (zero-div (2 ^ (64 * b)))
joined_in (species_bits ∷ others) zero =
    ap (λ n. n % 2 ^ 64) (div-one (number_of_bits others * 2 ^ 64 + species_bits % 2 ^ 64))
    ∙ mod_low (number_of_bits others) 64 (species_bits % 2 ^ 64) (mod-lt species_bits (pow_pos 64))
joined_in (species_bits ∷ others) (suc b) =
    let from : 64 * suc b ≡ 64 + 64 * b = omega arith in
    let n : ℕ = number_of_bits others * 2 ^ 64 + species_bits % 2 ^ 64 in
    ap (λ k. n / 2 ^ k % 2 ^ 64) from
    ∙ ap (λ m. m % 2 ^ 64) (sym (shr-shr n 64 (64 * b)))
    ∙ ap (λ m. m / 2 ^ (64 * b) % 2 ^ 64) (shr_high (number_of_bits others) 64 (species_bits % 2 ^ 64) (mod-lt species_bits (pow_pos 64)))
    ∙ joined_in others b

-- and so is a number of 64 bits that stands in the list
pub word_in : (list : List ℕ) (b word : ℕ) → word < 2 ^ 64 → word ≡ slice_index_or list b 0 → word ≡ species_bits_in (number_of_bits list) b
word_in list b word fits its =
    sym (mod-eq_of_lt fits) ∙ ap (λ n. n % 2 ^ 64) its ∙ sym (joined_in list b)
