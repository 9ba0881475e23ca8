-- The front of a number's digits: one more digit, and the number times a power of ten.
use Rattle.std.proofs.Common.{◌≡◌, ℕ, zero, suc, ◌+◌, ◌-◌, ◌*◌, ◌/◌, ◌^◌, ◌<◌, ◌≤◌, true, false, List, [], ◌∷◌, ◌++◌}
use Rattle.std.proofs.Common.{length, take, get_or, refl, sym, ◌∙◌, ap, subst, arith, nat_le, Bool, cond, Some, None}
use Rattle.std.proofs.Math.Nat.{div-div-eq-div-mul, div-one, div-mul-le_self, mul_assoc, mul-le-mul_right}
use Rattle.std.proofs.Math.Nat.{pow-le-pow_right}
use Rattle.std.proofs.Math.Seq.{take-suc}
use Rattle.std.proofs.lemmas.Nat.{pow-add, div-mul-add, mul-le}
use Rattle.std.proofs.lemmas.Bool.{and_parts, leb-true, lt-leb}
use Rattle.std.proofs.lemmas.Str.{digit_value_digit}
use Rattle.std.specs.Bool.{then_some}
use Rattle.std.specs.Char.{is_ascii_digit, digit_value}
use Rattle.std.specs.Str.Parse.{digits_value_after}
use Rattle.lj_fixed.specs.declared.numbers.TheConstants.{MAX_NANO}
use Rattle.lj_fixed.specs.Decimal.{rounded_quotient}
use Rattle.lj_fixed.specs.WordParts.{Leads, number_within_limit}
use Rattle.lj_fixed.proofs.Rounding.{ten-pow_pos, ten-pow-suc, rounded_tenths, rounded_whole, rounded_cancel}
use Rattle.lj_fixed.proofs.Rounding.{le-rounded, rounded_small}

-- the whole number leads itself
pub leads_whole : (n : ℕ) → Leads n 0 n
leads_whole n = record { quotient = sym (div-one n); long = λ h. absurd (omega arith) }

-- a number of few digits was read whole
pub short_is_whole : (number dropped n : ℕ) → number < 10 ^ 17 → Leads number dropped n → (dropped ≡ 0) × (number ≡ n)
short_is_whole number zero n h l = (refl, l.quotient ∙ div-one n)
short_is_whole number (suc k) n h l = absurd (omega (arith, l.long (omega arith)))

-- one more digit is kept
pub leads_kept : (number dropped n digit : ℕ) → number < 10 ^ 17 → Leads number dropped n
    → Leads (number * 10 + digit) dropped (n * 10 + digit)
leads_kept number dropped n digit h l =
    let w = short_is_whole number dropped n h l in
    let P : ℕ → Type 0 = λ (k : ℕ). Leads (number * 10 + digit) k (n * 10 + digit) in
    let Q : ℕ → Type 0 = λ (m : ℕ). Leads (m * 10 + digit) 0 (n * 10 + digit) in
    subst P (sym w.0) (subst Q (sym w.1) (leads_whole (n * 10 + digit)))

-- one more digit is dropped
pub leads_dropped : (number dropped n digit : ℕ) → 10 ^ 17 ≤ number → digit < 10 → Leads number dropped n
    → Leads number (dropped + 1) (n * 10 + digit)
leads_dropped number dropped n digit long h l =
    let split : (n * 10 + digit) / 10 / 10 ^ dropped ≡ (n * 10 + digit) / (10 * 10 ^ dropped) =
    div-div-eq-div-mul (n * 10 + digit) 10 (10 ^ dropped) in
    record {
      quotient = l.quotient ∙ ap (λ (x : ℕ). x / 10 ^ dropped) (sym (div-mul-add n 10 digit h)) ∙ split
          ∙ ap (λ (x : ℕ). (n * 10 + digit) / x) (sym (ten-pow-suc dropped));
      long = λ _. long;
    }

-- where places are left to be rounded away, the front is enough
pub rounded_below : (number dropped n up low : ℕ) → Leads number dropped n
    → rounded_quotient (n * 10 ^ up) (10 ^ (up + dropped + (low + 1))) ≡ rounded_quotient number (10 ^ (low + 1))
rounded_below number dropped n up low l =
    let both : 10 ^ (up + dropped + (low + 1)) ≡ 10 * (10 ^ dropped * 10 ^ low) * 10 ^ up =
    let places : up + dropped + (low + 1) ≡ (dropped + low) + 1 + up = omega arith in
    ap (λ (i : ℕ). 10 ^ i) places ∙ pow-add 10 (dropped + low + 1) up
    ∙ ap (λ (x : ℕ). x * 10 ^ up) (ten-pow-suc (dropped + low) ∙ ap (λ (x : ℕ). 10 * x) (pow-add 10 dropped low)) in
    let pos_d = ten-pow_pos dropped in
    let pos_l = ten-pow_pos low in
    let pos : 0 < 10 ^ dropped * 10 ^ low =
    subst (λ (x : ℕ). 0 < x) (pow-add 10 dropped low) (ten-pow_pos (dropped + low)) in
    let divided : n / (10 ^ dropped * 10 ^ low) ≡ number / 10 ^ low =
    sym (div-div-eq-div-mul n (10 ^ dropped) (10 ^ low)) ∙ ap (λ (x : ℕ). x / 10 ^ low) (sym l.quotient) in
    ap (λ (d : ℕ). rounded_quotient (n * 10 ^ up) d) both
    ∙ rounded_cancel n (10 * (10 ^ dropped * 10 ^ low)) (10 ^ up) (ten-pow_pos up)
    ∙ rounded_tenths n (10 ^ dropped * 10 ^ low) pos
    ∙ ap (λ (x : ℕ). (x + 5) / 10) divided
    ∙ sym (ap (λ (d : ℕ). rounded_quotient number d) (ten-pow-suc low) ∙ rounded_tenths number (10 ^ low) (ten-pow_pos low))

-- a size above the limit is no nano
pub within_limit_above : (x : ℕ) → MAX_NANO < x → number_within_limit x ≡ None
within_limit_above x h = ap (λ (b : Bool). cond b (Some x) None) (lt-leb x MAX_NANO h)

-- the test of the limit, as a program makes it
then_some-cond : (b : Bool) (x : ℕ) → then_some b x ≡ cond b (Some x) None
then_some-cond true x = refl
then_some-cond false x = refl

pub then_some_within : (x : ℕ) → then_some (nat_le x MAX_NANO) x ≡ number_within_limit x
then_some_within x = then_some-cond (nat_le x MAX_NANO) x

-- a number that was read whole, times a power of ten
rounded_above_whole : (n down over : ℕ) → rounded_quotient (n * 10 ^ (down + over)) (10 ^ down) ≡ n * 10 ^ over
rounded_above_whole n down over =
    let e : n * 10 ^ (down + over) ≡ n * 10 ^ over * 10 ^ down =
    ap (λ (x : ℕ). n * x) (pow-add 10 down over) ∙ omega arith in
    ap (λ (x : ℕ). rounded_quotient x (10 ^ down)) e ∙ rounded_whole (n * 10 ^ over) (10 ^ down) (ten-pow_pos down)

-- where none are left, and digits were dropped, both are out of range; else they are one
pub rounded_above : (number dropped n up down over : ℕ) → Leads number dropped n → up + dropped ≡ down + over
    → number_within_limit (number * 10 ^ over) ≡ number_within_limit (rounded_quotient (n * 10 ^ up) (10 ^ down))
rounded_above number zero n up down over l e =
    let same : number ≡ n = l.quotient ∙ div-one n in
    let places : up ≡ down + over = omega arith in
    ap number_within_limit (ap (λ (x : ℕ). x * 10 ^ over) same
    ∙ sym (ap (λ (i : ℕ). rounded_quotient (n * 10 ^ i) (10 ^ down)) places ∙ rounded_above_whole n down over))
rounded_above number (suc k) n up down over l e =
    let long : 10 ^ 17 ≤ number = l.long (omega arith) in
    let low : number * 10 ^ suc k ≤ n =
    subst (λ (q : ℕ). q * 10 ^ suc k ≤ n) (sym l.quotient) (div-mul-le_self n (10 ^ suc k)) in
    let one : 1 ≤ 10 ^ over = ten-pow_pos over in
    let large : 10 ^ 17 ≤ number * 10 ^ over = grind (arith, mul-le) in
    let raised : number * 10 ^ over * 10 ^ down ≡ number * 10 ^ suc k * 10 ^ up =
    let left : 10 ^ over * 10 ^ down ≡ 10 ^ (over + down) = sym (pow-add 10 over down) in
    let right : 10 ^ suc k * 10 ^ up ≡ 10 ^ (suc k + up) = sym (pow-add 10 (suc k) up) in
    let places : over + down ≡ suc k + up = omega arith in
    mul_assoc number (10 ^ over) (10 ^ down) ∙ ap (λ (x : ℕ). number * x)
    (left ∙ ap (λ (i : ℕ). 10 ^ i) places ∙ sym right) ∙ sym (mul_assoc number (10 ^ suc k) (10 ^ up)) in
    let at_most : number * 10 ^ suc k * 10 ^ up ≤ n * 10 ^ up = mul-le-mul_right (10 ^ up) low in
    let beyond : number * 10 ^ over ≤ rounded_quotient (n * 10 ^ up) (10 ^ down) =
    le-rounded _ _ _ (ten-pow_pos down) (omega arith) in
    within_limit_above _ (omega arith) ∙ sym (within_limit_above _ (omega arith))

-- both, with the places that are left over as a difference
pub rounded_above_sub : (number dropped n up down : ℕ) → Leads number dropped n → down ≤ up + dropped
    → number_within_limit (number * 10 ^ (up + dropped - down)) ≡ number_within_limit (rounded_quotient (n * 10 ^ up) (10 ^ down))
rounded_above_sub number dropped n up down l h =
    rounded_above number dropped n up down (up + dropped - down) l (omega arith)

pub rounded_below_sub : (number dropped n up down : ℕ) → Leads number dropped n → up + dropped < down
    → rounded_quotient number (10 ^ (down - (up + dropped))) ≡ rounded_quotient (n * 10 ^ up) (10 ^ down)
rounded_below_sub number dropped n up down l h =
    let low = down - (up + dropped) - 1 in
    let one : down - (up + dropped) ≡ low + 1 = omega arith in
    let all : up + dropped + (low + 1) ≡ down = omega arith in
    ap (λ (i : ℕ). rounded_quotient number (10 ^ i)) one ∙ sym (rounded_below number dropped n up low l)
    ∙ ap (λ (i : ℕ). rounded_quotient (n * 10 ^ up) (10 ^ i)) all

-- any number at all, times twenty tens, is beyond the limit
pub twenty_tens : (number power : ℕ) → 0 < number → 20 ≤ power → MAX_NANO < number * 10 ^ power
twenty_tens number power some many =
    let most : 10 ^ 20 ≤ 10 ^ power = pow-le-pow_right (omega arith) many in
    let one : 1 * 10 ^ power ≤ number * 10 ^ power = mul-le-mul_right (10 ^ power) some in
    omega arith

-- a division by the power below, and then by ten
pub lowered_is : (number power divisor : ℕ) → 0 < power → divisor ≡ 10 ^ (power - 1)
    → (number / divisor + 5) / 10 ≡ rounded_quotient number (10 ^ power)
lowered_is number power divisor h e =
    let next : power ≡ power - 1 + 1 = omega arith in
    ap (λ (d : ℕ). (number / d + 5) / 10) e ∙ sym (ap (λ (i : ℕ). rounded_quotient number (10 ^ i)) next
    ∙ ap (λ (d : ℕ). rounded_quotient number d) (ten-pow-suc (power - 1))
    ∙ rounded_tenths number (10 ^ (power - 1)) (ten-pow_pos (power - 1)))

-- a number of eighteen digits over more than twenty tens
pub lowered_away : (number power : ℕ) → number < 10 ^ 18 → 20 ≤ power - 1 → 0 ≡ rounded_quotient number (10 ^ power)
lowered_away number power short many =
    let next : power ≡ power - 1 + 1 = omega arith in
    let most : 10 ^ 20 ≤ 10 ^ (power - 1) = pow-le-pow_right (omega arith) many in
    sym (ap (λ (i : ℕ). rounded_quotient number (10 ^ i)) next ∙ ap (λ (d : ℕ). rounded_quotient number d) (ten-pow-suc (power - 1))
    ∙ rounded_small number (10 ^ (power - 1)) (omega arith))

-- what a digit's byte is worth
pub digit_value-digit : (c : ℕ) → is_ascii_digit c ≡ true → digit_value c ≡ c - 48
digit_value-digit c e =
    let both = and_parts (nat_le 48 c) (nat_le c 57) e in
    let low : 48 ≤ c = leb-true 48 c both.0 in
    let high : c ≤ 57 = leb-true c 57 both.1 in
    omega (arith, digit_value_digit c (low, high))

-- the digits of n with one more digit after them
pub digits_value_after-append : (n : ℕ) (xs ys : List ℕ)
    → digits_value_after 10 n (xs ++ ys) ≡ digits_value_after 10 (digits_value_after 10 n xs) ys
digits_value_after-append n [] ys = refl
digits_value_after-append n (x ∷ xs) ys = digits_value_after-append (n * 10 + digit_value x) xs ys

pub digits_value_after_more : (n : ℕ) (bs : List ℕ) (i : ℕ) → i < length bs
    → digits_value_after 10 n (take (i + 1) bs) ≡ digits_value_after 10 n (take i bs) * 10 + digit_value (get_or bs i 0)
digits_value_after_more n bs i h =
    let next : i + 1 ≡ suc i = omega arith in
    ap (λ (k : ℕ). digits_value_after 10 n (take k bs)) next
    ∙ ap (λ (ds : List ℕ). digits_value_after 10 n ds) (take-suc bs i 0 h)
    ∙ digits_value_after-append n (take i bs) (get_or bs i 0 ∷ [])

-- what leads the digits so far and the next one leads one digit more
pub leads_next : (number dropped n : ℕ) (bs : List ℕ) (i : ℕ) → i < length bs → is_ascii_digit (get_or bs i 0) ≡ true
    → Leads number dropped (digits_value_after 10 n (take i bs) * 10 + (get_or bs i 0 - 48))
    → Leads number dropped (digits_value_after 10 n (take (i + 1) bs))
leads_next number dropped n bs i h digit l =
    let more =
    digits_value_after_more n bs i h ∙ ap (λ (d : ℕ). digits_value_after 10 n (take i bs) * 10 + d)
    (digit_value-digit (get_or bs i 0) digit) in
    subst (λ (m : ℕ). Leads number dropped m) (sym more) l
