-- The flags of an open step, tile by tile and pair by pair.
use Rattle.std.proofs.Common.{ℕ, ◌+◌, ◌/◌, ◌<◌, ◌≤◌, ◌≡◌, ◌≢◌, Bool, true, false, List, [], ◌∷◌}
use Rattle.std.proofs.Common.{length, map, slice_index_or, slice_set, count_by, cond, inl, inr, refl, sym, ap, ◌∙◌}
use Rattle.std.proofs.Common.{get_or-set_same, get_or-set_other, arith}
use Rattle.std.proofs.lemmas.Bool.{cases_lt, cases_Bool, true≢false}
use Rattle.std.proofs.lemmas.List.{get_or_past}
use Rattle.std.proofs.lemmas.List.Sums.{get_or-le-sum_by, sum_by-cons}
use Rattle.lj_step.specs.OpenSteps.{tile_number}
use Rattle.lj_step.specs.Sums.{pair_number, is_pair_awaited}

-- the tile of a pair whose atoms stand in two blocks in order, or in these two the other way round
pub pair_in : (bi bj i j : ℕ) → bi ≤ bj → i / 64 ≡ bi → j / 64 ≡ bj → pair_number i j ≡ tile_number bi bj
pair_in bi bj i j ordered ei ej = omega arith

pub pair_in_turned : (bi bj i j : ℕ) → bi ≤ bj → i / 64 ≡ bj → j / 64 ≡ bi → pair_number i j ≡ tile_number bi bj
pair_in_turned bi bj i j ordered ei ej = omega arith

-- a pair whose second atom stands elsewhere has another tile
pub pair_second_other : (bi bj i j : ℕ) → bi ≤ bj → bj < 64 → i / 64 ≡ bi → j / 64 ≢ bj → j < 4096
    → pair_number i j ≢ tile_number bi bj
pair_second_other bi bj i j ordered within ei other few = omega arith

pub pair_turned_other : (bi bj i j : ℕ) → bi ≤ bj → bj < 64 → i / 64 ≡ bj → j / 64 ≢ bi → j < 4096
    → pair_number i j ≢ tile_number bi bj
pair_turned_other bi bj i j ordered within ei other few = omega arith

-- and so has one whose first atom stands in neither block
pub pair_outside : (bi bj i j : ℕ) → bj < 64 → i / 64 ≢ bi → i / 64 ≢ bj → i < 4096 → j < 4096
    → pair_number i j ≢ tile_number bi bj
pair_outside bi bj i j within first second few_i few_j = omega arith

-- and a pair i < j of which one atom does not stand in its block
pub pair_first_apart : (bi bj i j : ℕ) → bj < 64 → i < j → j < 4096 → i / 64 ≢ bi → pair_number i j ≢ tile_number bi bj
pair_first_apart bi bj i j within before few other = omega arith

pub pair_second_apart : (bi bj i j : ℕ) → bj < 64 → i < j → j < 4096 → j / 64 ≢ bj
    → pair_number i j ≢ tile_number bi bj
pair_second_apart bi bj i j within before few other = omega arith

-- the flag of a pair in the tile that comes in
pub flag_in : (flags : List Bool) (k i j : ℕ) → pair_number i j ≡ k → k < length flags
    → is_pair_awaited (slice_set flags k false) i j ≡ false
flag_in flags k i j same within =
    ap (λ n. slice_index_or (slice_set flags k false) n false) same ∙ get_or-set_same flags k false false within

pub flag_before : (flags : List Bool) (k i j : ℕ) → pair_number i j ≡ k → slice_index_or flags k false ≡ true
    → is_pair_awaited flags i j ≡ true
flag_before flags k i j same awaited = ap (λ n. slice_index_or flags n false) same ∙ awaited

-- the flag of a pair in another tile
pub flag_other : (flags : List Bool) (k i j : ℕ) → pair_number i j ≢ k
    → is_pair_awaited (slice_set flags k false) i j ≡ is_pair_awaited flags i j
flag_other flags k i j other = get_or-set_other flags k (pair_number i j) false false other

-- the flags that are set are as many as the numbers that pass
pub count_flags : (p : ℕ → Bool) (xs : List ℕ) → count_by (λ awaited. awaited) (map p xs) ≡ count_by p xs
count_flags p [] = refl
count_flags p (x ∷ xs) =
    sum_by-cons (λ (awaited : Bool). cond awaited 1 0) (p x) (map p xs)
    ∙ ap (λ s. cond (p x) 1 0 + s) (count_flags p xs)
    ∙ sym (sum_by-cons (λ k. cond (p k) 1 0) x xs)

-- where no flag is left, none is set
pub none_left : (flags : List Bool) (k : ℕ) → count_by (λ awaited. awaited) flags ≡ 0
    → slice_index_or flags k false ≡ false
none_left flags k none =
    elim (cases_lt k (length flags)) [
      | inl within ↦
          let one : cond (slice_index_or flags k false) 1 0 ≤ count_by (λ awaited. awaited) flags =
          get_or-le-sum_by (λ (awaited : Bool). cond awaited 1 0) flags k false within in
          elim (cases_Bool (slice_index_or flags k false)) [
            | inl set ↦ absurd (omega (arith, none, rw set at one))
            | inr clear ↦ clear
          ]
      | inr past ↦ get_or_past flags k false past
    ]

-- a flag that is set lies within the flags
pub set_within : (flags : List Bool) (k : ℕ) → slice_index_or flags k false ≡ true → k < length flags
set_within flags k set =
    elim (cases_lt k (length flags)) [
      | inl within ↦ within
      | inr past ↦ absurd (true≢false (sym set ∙ get_or_past flags k false past))
    ]
