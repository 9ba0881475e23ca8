-- What rounding a fraction gives, where both its parts have a common factor or the lower one is a power of ten.
use Rattle.std.proofs.Common.{◌≡◌, ℕ, zero, suc, ◌+◌, ◌*◌, ◌/◌, ◌^◌, ◌<◌, ◌≤◌, sym, ◌∙◌, ap, arith}
use Rattle.std.proofs.Math.Nat.{mul-div-mul_left, add-mul-div_right, div-div-eq-div-mul, div-eq_of_lt-le, div-eq_of_lt}
use Rattle.std.proofs.Math.Nat.{pow-succ'}
use Rattle.std.proofs.lemmas.Nat.{le-div}
use Rattle.lj_fixed.specs.Decimal.{rounded_quotient}

-- ten to a power is not 0
pub ten-pow_pos : (k : ℕ) → 0 < 10 ^ k
ten-pow_pos zero = omega arith
ten-pow_pos (suc k) = omega (arith, ten-pow_pos k, pow-succ' 10 k)

pub ten-pow-suc : (k : ℕ) → 10 ^ (k + 1) ≡ 10 * 10 ^ k
ten-pow-suc k = let e : k + 1 ≡ suc k = omega arith in ap (λ (i : ℕ). 10 ^ i) e ∙ pow-succ' 10 k

-- twice the size over twice the size
doubled : (n d : ℕ) → (2 * n) / (2 * d) ≡ n / d
doubled n d = mul-div-mul_left n d (omega arith)

-- a fraction over ten times p: the tenths decide
pub rounded_tenths : (n p : ℕ) → 0 < p → rounded_quotient n (10 * p) ≡ (n / p + 5) / 10
rounded_tenths n p h =
    let whole : 2 * n + 10 * p ≡ 2 * (n + 5 * p) = omega arith in
    let halved : rounded_quotient n (10 * p) ≡ (n + 5 * p) / (10 * p) =
    ap (λ (x : ℕ). x / (2 * (10 * p))) whole ∙ doubled (n + 5 * p) (10 * p) in
    let swapped : 10 * p ≡ p * 10 = omega arith in
    let split : (n + 5 * p) / p / 10 ≡ (n + 5 * p) / (p * 10) = div-div-eq-div-mul (n + 5 * p) p 10 in
    let inner : (n + 5 * p) / p ≡ n / p + 5 = add-mul-div_right n 5 h in
    halved ∙ ap (λ (x : ℕ). (n + 5 * p) / x) swapped ∙ sym split ∙ ap (λ (x : ℕ). x / 10) inner

-- a whole number
pub rounded_whole : (x k : ℕ) → 0 < k → rounded_quotient (x * k) k ≡ x
rounded_whole x k h = div-eq_of_lt-le {k = x} (2 * k) {m = 2 * (x * k) + k} (omega arith) (omega arith)

-- a common factor
pub rounded_cancel : (x y k : ℕ) → 0 < k → rounded_quotient (x * k) (y * k) ≡ rounded_quotient x y
rounded_cancel x y k h =
    let above : 2 * (x * k) + y * k ≡ k * (2 * x + y) = omega arith in
    let below : 2 * (y * k) ≡ k * (2 * y) = omega arith in
    ap (λ (n : ℕ). n / (2 * (y * k))) above ∙ ap (λ (d : ℕ). k * (2 * x + y) / d) below
    ∙ mul-div-mul_left (2 * x + y) (2 * y) h

-- a fraction of at least x is rounded to at least x
pub le-rounded : (x n d : ℕ) → 0 < d → x * d ≤ n → x ≤ rounded_quotient n d
le-rounded x n d h le = le-div x (2 * n + d) (2 * d) (omega arith) (omega arith)

-- a number below p is less than a tenth of ten times p
pub rounded_small : (n p : ℕ) → n < p → rounded_quotient n (10 * p) ≡ 0
rounded_small n p h =
    let none : n / p ≡ 0 = div-eq_of_lt h in
    rounded_tenths n p (omega arith) ∙ ap (λ (q : ℕ). (q + 5) / 10) none
