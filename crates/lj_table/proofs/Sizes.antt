-- How large the powers of a bin's centre and its entries are.
use Rattle.std.proofs.Common.{ℕ, ◌*◌, ◌^◌, ◌<◌, ◌≤◌, ◌≡◌, ap, ◌∙◌, refl, arith}
use Rattle.std.proofs.Math.Nat.{pow-suc, pow-zero, one-mul}
use Rattle.std.proofs.lemmas.Nat.{mul-le, pow-add}

-- powers of the centre n of a bin by products
square_is : (n : ℕ) → n ^ 2 ≡ n * n
square_is n = pow-suc n 1 ∙ ap (λ m. m * n) (pow-suc n 0 ∙ ap (λ m. m * n) (pow-zero n) ∙ one-mul n)

pub cube_is : (n : ℕ) → n ^ 3 ≡ n * n * n
cube_is n = pow-suc n 2 ∙ ap (λ m. m * n) (square_is n)

pub sixth_is : (n : ℕ) → n ^ 6 ≡ n * n * n * (n * n * n)
sixth_is n = pow-add n 3 3 ∙ (rw (cube_is n) refl)

pub seventh_is : (n : ℕ) → n ^ 7 ≡ n * n * n * (n * n * n) * n
seventh_is n = pow-suc n 6 ∙ ap (λ m. m * n) (sixth_is n)

pub cube_le : (m n : ℕ) → m ≤ n → m * m * m ≤ n * n * n
cube_le m n h = mul-le (m * m) m (n * n) n (mul-le m m n n h h) h

cube_least : (n : ℕ) → 129 ≤ n → 2146689 ≤ n * n * n
cube_least n h = cube_le 129 n h

sixth_least : (n : ℕ) → 129 ≤ n → 2146689 * 2146689 ≤ n * n * n * (n * n * n)
sixth_least n h = mul-le 2146689 2146689 (n * n * n) (n * n * n) (cube_least n h) (cube_least n h)

pub seventh_least : (n : ℕ) → 129 ≤ n → 2146689 * 2146689 * 129 ≤ n * n * n * (n * n * n) * n
seventh_least n h = mul-le (2146689 * 2146689) 129 (n * n * n * (n * n * n)) n (sixth_least n h) h

cube_most : (n : ℕ) → n ≤ 1599 → n * n * n ≤ 1599 * 1599 * 1599
cube_most n h = cube_le n 1599 h

pub seventh_most : (n : ℕ) → n ≤ 1599 → n * n * n * (n * n * n) * n < 2 ^ 128
seventh_most n h =
    let six : n * n * n * (n * n * n) ≤ 1599 * 1599 * 1599 * (1599 * 1599 * 1599) =
    mul-le (n * n * n) (n * n * n) _ _ (cube_most n h) (cube_most n h) in
    let seven : n * n * n * (n * n * n) * n ≤ 1599 * 1599 * 1599 * (1599 * 1599 * 1599) * 1599 =
    mul-le _ n _ 1599 six h in
    omega arith

-- an entry is below 2^37 in size: its factor times 2^25, and times the cube of the centre, is below 2^37 powers
pub push_above : (n : ℕ) → 129 ≤ n → 24 * 2 ^ 56 * 2 ^ 25 < 2 ^ 37 * (n * n * n * (n * n * n) * n)
push_above n h = let least = seventh_least n h in omega arith

pub push_under : (n : ℕ) → 129 ≤ n → 24 * 2 ^ 56 * (n * n * n) < 2 ^ 37 * (n * n * n * (n * n * n) * n)
push_under n h =
    let fourth : 2146689 * 129 ≤ n * n * n * n = mul-le 2146689 129 (n * n * n) n (cube_least n h) h in
    let times : 2146689 * 129 * (n * n * n) ≤ n * n * n * n * (n * n * n) =
    mul-le _ (n * n * n) _ (n * n * n) fourth (omega arith) in
    let some = cube_least n h in
    omega arith

pub energy_above : (n : ℕ) → 129 ≤ n → 2 ^ 50 * 2 ^ 24 < 2 ^ 37 * (n * n * n * (n * n * n))
energy_above n h = let least = sixth_least n h in omega arith

pub energy_under : (n : ℕ) → 129 ≤ n → 2 ^ 50 * (n * n * n) < 2 ^ 37 * (n * n * n * (n * n * n))
energy_under n h =
    let times : 2146689 * (n * n * n) ≤ n * n * n * (n * n * n) =
    mul-le _ (n * n * n) _ (n * n * n) (cube_least n h) (omega arith) in
    let some = cube_least n h in
    omega arith
