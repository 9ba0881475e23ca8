-- The masks of the states of keys.
use Rattle.std.proofs.Common.{◌≡◌, ◌≢◌, ℕ, ◌+◌, ◌-◌, ◌*◌, ◌/◌, ◌%◌, ◌^◌, ◌<◌, ◌≤◌, List, [], length, get_or, set, replicate, refl, sym, ap, ◌∙◌, inl, inr, w64, arith, length-set, get_or-set_same, get_or-set_other}
use Rattle.std.proofs.Math.ListN.{get_or-eq_default}
use Rattle.std.specs.Int.{bit_at, trailing_zeros}
use Rattle.std.proofs.lemmas.Nat.{shr-shr}
use Rattle.std.proofs.lemmas.Nat.Bits.{bit_at-zero, bit_at_above, bit_at-trailing_zeros}
use Rattle.std.proofs.lemmas.List.{get_or-replicate, length-replicate}
use Rattle.std.proofs.lemmas.Bool.{cases_eq, cases_lt}
use Rattle.lj_book.specs.declared.key_states.KeyState.{KeyState}
use Rattle.lj_book.specs.declared.key_states.KeyState.TheVariants.{Vacant, ToTake, Taken, ToFetch}
use Rattle.lj_book.specs.declared.key_states.TheConstants.{GROUP, KINDS}
use Rattle.lj_book.specs.KeyStates.{state_number, key_state_at, bit_of, bit_of_key, ChangesBit, HasKeyState, HasNoBit, HasNone, IsIndexed, IsLeast, IsLowestBit}

-- states of one number are one state
state_number-injective : (a b : KeyState) → state_number a ≡ state_number b → a ≡ b
state_number-injective Vacant Vacant same = refl
state_number-injective Vacant ToTake same = absurd (omega (arith, same))
state_number-injective Vacant Taken same = absurd (omega (arith, same))
state_number-injective Vacant (ToFetch user) same = absurd (omega (arith, same))
state_number-injective ToTake Vacant same = absurd (omega (arith, same))
state_number-injective ToTake ToTake same = refl
state_number-injective ToTake Taken same = absurd (omega (arith, same))
state_number-injective ToTake (ToFetch user) same = absurd (omega (arith, same))
state_number-injective Taken Vacant same = absurd (omega (arith, same))
state_number-injective Taken ToTake same = absurd (omega (arith, same))
state_number-injective Taken Taken same = refl
state_number-injective Taken (ToFetch user) same = absurd (omega (arith, same))
state_number-injective (ToFetch user) Vacant same = absurd (omega (arith, same))
state_number-injective (ToFetch user) ToTake same = absurd (omega (arith, same))
state_number-injective (ToFetch user) Taken same = absurd (omega (arith, same))
state_number-injective (ToFetch user) (ToFetch other) same = ap ToFetch (omega (arith, same))

-- a state that is not vacant has no number 0
pub state_number-positive : (a : KeyState) → a ≢ Vacant → state_number a ≢ 0
state_number-positive a other none = other (state_number-injective a Vacant none)

-- a mask that is replaced, and differs from the one before in one bit
pub changes_bit : (masks : List ℕ) (kind mask at bit : ℕ) → kind < length masks → bit_at mask at ≡ bit
    → ((i : ℕ) → i < GROUP → i ≢ at → bit_at mask i ≡ bit_at (get_or masks kind 0) i)
    → ChangesBit bit kind at masks (set masks kind mask)
changes_bit masks kind mask at bit within is others = record {
  is = ap (λ m. bit_at m at) (get_or-set_same masks kind mask 0 within) ∙ is;
  others = λ k i apart below. elim (cases_eq k kind) [
    | inr other ↦ ap (λ m. bit_at m i) (get_or-set_other masks kind k mask 0 other)
    | inl same ↦
        rw same
        (ap (λ m. bit_at m i) (get_or-set_same masks kind mask 0 within)
        ∙ others i below (elim apart [ inl differs ↦ absurd (differs same) | inr differs ↦ differs ]))
  ];
}

-- no mask of a group has a bit where all of them are 0
no_bit : (count kind at : ℕ) → bit_of (replicate count 0) kind at ≡ 0
no_bit count kind at = elim (cases_lt kind count) [
  | inl within ↦ ap (λ m. bit_at m at) (get_or-replicate count kind 0 0 within) ∙ bit_at-zero at
  | inr behind ↦
      let long : length (replicate {A = ℕ} count 0) ≤ kind = omega (arith, length-replicate {A = ℕ} count 0) in
      ap (λ m. bit_at m at) (get_or-eq_default (replicate {A = ℕ} count 0) 0 long) ∙ bit_at-zero at
]

no_mask : (kind at : ℕ) → bit_of [] kind at ≡ 0
no_mask kind at = bit_at-zero at

-- vacant keys, and masks that are 0
pub IsIndexed-vacant : (keys : ℕ) (masks : List ℕ) → masks ≡ replicate KINDS 0
    → IsIndexed (replicate keys Vacant) (replicate (keys / GROUP + 1) masks)
IsIndexed-vacant keys masks zeros = record {
  enough = simp length-replicate;
  all = λ k some. absurd (some (ap state_number (vacant k)));
  only = λ k kind some bit. absurd (omega (arith, bit, none k kind));
}
  where
    vacant : (k : ℕ) → key_state_at (replicate keys Vacant) k ≡ Vacant
    vacant k = elim (cases_lt k keys) [
      | inl within ↦ get_or-replicate keys k Vacant Vacant within
      | inr behind ↦ get_or-eq_default (replicate keys Vacant) Vacant (omega (arith, length-replicate keys Vacant))
    ]

    none : (k kind : ℕ) → bit_of_key (replicate (keys / GROUP + 1) masks) kind k ≡ 0
    none k kind = elim (cases_lt (k / GROUP) (keys / GROUP + 1)) [
      | inl within ↦
          rw (get_or-replicate (keys / GROUP + 1) (k / GROUP) masks [] within, zeros) (no_bit KINDS kind (k % GROUP))
      | inr behind ↦
          ap (λ m. bit_of m kind (k % GROUP))
          (get_or-eq_default (replicate (keys / GROUP + 1) masks) [] (omega (arith, length-replicate (keys / GROUP + 1) masks)))
          ∙ no_mask kind (k % GROUP)
    ]

-- a state that is set, and its bit moved
pub IsIndexed-set : (key_states : List KeyState) (groups : List (List ℕ)) (between masks : List ℕ) (key : ℕ) (key_state : KeyState)
    → key < length key_states
    → ChangesBit 0 (state_number (key_state_at key_states key)) (key % GROUP) (get_or groups (key / GROUP) []) between
    → ChangesBit 1 (state_number key_state) (key % GROUP) between masks
    → IsIndexed key_states groups → IsIndexed (set key_states key key_state) (set groups (key / GROUP) masks)
IsIndexed-set key_states groups between masks key key_state within cleared is_set index = record {
  enough = rw (length-set groups (key / GROUP) masks, length-set key_states key key_state) index.enough;
  all = λ k some. elim (cases_eq k key) [
    | inl same ↦ rw (same, get_or-set_same key_states key key_state Vacant within, here) is_set.is
    | inr other ↦
        rw (get_or-set_other key_states key k key_state Vacant other)
        (elsewhere k (state_number (key_state_at key_states k)) other
        ∙ index.all k (rw (← get_or-set_other key_states key k key_state Vacant other) some))
  ];
  only = λ k kind some bit. elim (cases_eq k key) [
    | inl same ↦ rw (same, get_or-set_same key_states key key_state Vacant within)
        (at_key kind some (ap (λ m. bit_of m kind (key % GROUP)) (sym here) ∙ ap (λ j. bit_of_key (set groups (key / GROUP) masks) kind j) (sym same) ∙ bit))
    | inr other ↦ rw (get_or-set_other key_states key k key_state Vacant other)
        (index.only k kind some (sym (elsewhere k kind other) ∙ bit))
  ];
}
  where
    here : get_or (set groups (key / GROUP) masks) (key / GROUP) [] ≡ masks
    here = get_or-set_same groups (key / GROUP) masks [] (omega (arith, index.enough, within))

    elsewhere : (k kind : ℕ) → k ≢ key → bit_of_key (set groups (key / GROUP) masks) kind k ≡ bit_of_key groups kind k
    elsewhere k kind other = elim (cases_eq (k / GROUP) (key / GROUP)) [
      | inl group ↦
          let apart : k % GROUP ≢ key % GROUP = λ same. other (omega (arith, same, group)) in
          rw (group, here)
          (is_set.others kind (k % GROUP) (inr apart) (omega arith) ∙ cleared.others kind (k % GROUP) (inr apart) (omega arith))
      | inr another ↦ ap (λ m. bit_of m kind (k % GROUP)) (get_or-set_other groups (key / GROUP) (k / GROUP) masks [] another)
    ]

    at_key : (kind : ℕ) → kind ≢ 0 → bit_of masks kind (key % GROUP) ≡ 1 → state_number key_state ≡ kind
    at_key kind some bit = elim (cases_eq kind (state_number key_state)) [
      | inl same ↦ sym same
      | inr other ↦
          let before : bit_of between kind (key % GROUP) ≡ 1 = sym (is_set.others kind (key % GROUP) (inl other) (omega arith)) ∙ bit in
          elim (cases_eq kind (state_number (key_state_at key_states key))) [
            | inl was ↦ absurd (omega (arith, sym (ap (λ k. bit_of between k (key % GROUP)) was) ∙ before, cleared.is))
            | inr another ↦
                absurd (another (sym (index.only key kind some
                (sym (cleared.others kind (key % GROUP) (inl another) (omega arith)) ∙ before))))
          ]
    ]

-- the bits of a mask that is shifted
shifted : (mask skip i : ℕ) → bit_at (mask / 2 ^ skip) i ≡ bit_at mask (skip + i)
shifted mask skip i = ap (λ m. m % 2) (shr-shr mask skip i)

-- a mask that is shifted to 0 has no bit from there on
pub no_bit_from : (mask from : ℕ) → mask / 2 ^ from ≡ 0 → HasNoBit mask from GROUP
no_bit_from mask from none i first last =
    let place : i ≡ from + (i - from) = omega arith in
    ap (bit_at mask) place ∙ sym (shifted mask from (i - from)) ∙ ap (λ m. bit_at m (i - from)) none ∙ bit_at-zero (i - from)

-- the lowest bit of a mask that is shifted
pub lowest_bit_is : (mask from rest : ℕ) → mask < 2 ^ 64 → rest ≡ mask / 2 ^ from → rest ≢ 0 → rest < 2 ^ 64
    → IsLowestBit mask from (from + trailing_zeros w64 rest)
lowest_bit_is mask from rest small is some fits =
    let lowest = bit_at-trailing_zeros w64 rest (omega (arith, some)) fits in
    let at : ℕ = from + trailing_zeros w64 rest in
    let one : bit_at mask at ≡ 1 =
    sym (shifted mask from (trailing_zeros w64 rest)) ∙ ap (λ m. bit_at m (trailing_zeros w64 rest)) (sym is) ∙ lowest.1 in
    record {
      is = one;
      first = omega arith;
      within = elim (cases_lt at GROUP) [
        | inl less ↦ less
        | inr more ↦ absurd (omega (arith, one, bit_at_above mask 64 at small more))
      ];
      none_before = λ i first last.
          let place : i ≡ from + (i - from) = omega arith in
          ap (bit_at mask) place ∙ sym (shifted mask from (i - from)) ∙ ap (λ m. bit_at m (i - from)) (sym is)
          ∙ lowest.2 (i - from) (omega arith);
    }

-- the bit of a key that has the state
bit_there : (key_states : List KeyState) (groups : List (List ℕ)) (key_state : KeyState) (group k : ℕ) → IsIndexed key_states groups
    → key_state ≢ Vacant → k / GROUP ≡ group → HasKeyState key_states key_state k
    → bit_of (get_or groups group []) (state_number key_state) (k % GROUP) ≡ 1
bit_there key_states groups key_state group k index searched in_group has =
    ap (λ g. bit_of (get_or groups g []) (state_number key_state) (k % GROUP)) (sym in_group)
    ∙ ap (λ state. bit_of_key groups (state_number state) k) (sym has.is)
    ∙ index.all k (rw has.is (state_number-positive key_state searched))

-- where the mask of a state has no later bit, no later key of the group has the state
pub none_in : (key_states : List KeyState) (groups : List (List ℕ)) (key_state : KeyState) (group from : ℕ)
    → IsIndexed key_states groups → key_state ≢ Vacant → GROUP * group ≤ from
    → HasNoBit (get_or (get_or groups group []) (state_number key_state) 0) (from % GROUP) GROUP
    → HasNone key_states key_state from (GROUP * group + GROUP)
none_in key_states groups key_state group from index searched first none k low high has =
    absurd (omega (
      arith,
      bit_there key_states groups key_state group k index searched (omega arith) has,
      none (k % GROUP) (omega arith) (omega arith),
    ))

-- the lowest of the later bits of the mask of a state is that of the least of the later keys of the group that has the state
pub least_is : (key_states : List KeyState) (groups : List (List ℕ)) (key_state : KeyState) (group from at : ℕ)
    → IsIndexed key_states groups → key_state ≢ Vacant → GROUP * group ≤ from → from < GROUP * group + GROUP
    → IsLowestBit (get_or (get_or groups group []) (state_number key_state) 0) (from % GROUP) at
    → IsLeast key_states key_state from (length key_states) (GROUP * group + at)
least_is key_states groups key_state group from at index searched first last lowest = record {
  has = has;
  first = omega (arith, lowest.first, first, last);
  last = has.within;
  none_before = λ k low high there.
      absurd (omega (
        arith,
        bit_there key_states groups key_state group k index searched (omega (arith, lowest.within)) there,
        lowest.none_before (k % GROUP) (omega (arith, lowest.within)) (omega (arith, lowest.within)),
      ));
}
  where
    key : ℕ
    key = GROUP * group + at

    is_kind : state_number (key_state_at key_states key) ≡ state_number key_state
    is_kind =
        let same_group : key / GROUP ≡ group = omega (arith, lowest.within) in
        let same_place : key % GROUP ≡ at = omega (arith, lowest.within) in
        index.only key (state_number key_state) (state_number-positive key_state searched) (rw (same_group, same_place) lowest.is)

    has : HasKeyState key_states key_state key
    has = record {
      within = elim (cases_lt key (length key_states)) [
        | inl less ↦ less
        | inr more ↦ absurd (state_number-positive key_state searched (sym is_kind ∙ ap state_number (get_or-eq_default key_states Vacant more)))
      ];
      is = state_number-injective (key_state_at key_states key) key_state is_kind;
    }
