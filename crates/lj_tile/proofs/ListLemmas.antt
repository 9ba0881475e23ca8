-- How the pairs of a row are written at the end of a list.
use Rattle.std.proofs.Common.{ℕ, ◌+◌, ◌-◌, ◌*◌, ◌%◌, ◌^◌, ◌<◌, ◌≤◌, ◌≡◌, List, [], ◌∷◌, ◌++◌, map}
use Rattle.std.proofs.Common.{length, length-append, append_assoc, append-nil, take, drop, slice_set, subst, refl, sym, ap, ◌∙◌, inl, inr, w64, min, rules, arith}
use Rattle.std.specs.Int.{bit_at, trailing_zeros}
use Rattle.std.proofs.lemmas.Nat.Bits.{bit_at-trailing_zeros, bit_at-zero, same_from_bits_below}
use Rattle.std.proofs.lemmas.Bool.{cases_lt, cases_eq}
use Rattle.std.proofs.lemmas.List.{take-set-le, take_more_set, map-append, length-take-le, length-drop, drop-take, take-append-le, take-take}
use Rattle.std.specs.Simd.Lanes.{put_chunk}
use Rattle.std.proofs.lemmas.Simd.{put_chunk_is}
use Rattle.lj_tile.specs.Pairs.{members, row_pairs}
use Rattle.lj_tile.proofs.BitLists.{IsAbove, above_all, above_next, above_none, others, members_past, members_more, members_same, members_none}

-- the pairs of place t with the members of a set below n
abbrev pub first_pairs : ℕ → ℕ → ℕ → List ℕ
first_pairs t set n = map (λ s. 64 * t + s) (members set n)

-- what stands in a list's room when `at` places of it have been written, of which the last may lie behind `end`
pub record IsWritten (set t : ℕ) (old : List ℕ) (end at : ℕ) (pairs : List ℕ) (rest : ℕ) : Type 0 where
  pub next : ℕ
  pub most : next ≤ 64
  pub from : IsAbove set next rest
  pub count : length old + length (members set next) ≡ min at end
  pub written : take (min at end) pairs ≡ old ++ first_pairs t set next
  pub room : length pairs ≡ 136

pair_more : (t n p : ℕ) (ms more old : List ℕ) → more ≡ ms ++ n ∷ [] → p ≡ 64 * t + n
    → (old ++ map (λ s. 64 * t + s) ms) ++ p ∷ [] ≡ old ++ map (λ s. 64 * t + s) more
pair_more t n p ms more old e f =
    append_assoc old (map (λ s. 64 * t + s) ms) (p ∷ [])
    ∙ ap (λ (l : List ℕ). old ++ l)
    (ap (λ q. map (λ s. 64 * t + s) ms ++ q ∷ []) f ∙ sym (map-append (λ s. 64 * t + s) ms (n ∷ []))
    ∙ ap (map (λ s. 64 * t + s)) (sym e))

pub written_next : (set t : ℕ) (old : List ℕ) (end at : ℕ) (pairs : List ℕ) (rest : ℕ) (row : ℕ) → IsWritten set t old end at pairs rest
    → set < 2 ^ 64 → rest < 2 ^ 64 → at < 136 → end ≡ length old + length (members set 64) → row ≡ 64 * t
    → IsWritten set t old end (at + 1) (slice_set pairs at (row + trailing_zeros w64 rest % 64)) (others rest)
written_next set t old end at pairs rest row w small rest_small room ends rows =
    elim (cases_lt at end) [
      | inl before ↦ elim (cases_eq rest 0) [
        | inl empty ↦
            let none : (s : ℕ) → w.next ≤ s → s < 64 → bit_at set s ≡ 0 =
            λ s h k. sym (w.from.above s h) ∙ ap (λ r. bit_at r s) empty ∙ bit_at-zero s in
            let same : length (members set w.next) ≡ length (members set 64) =
            ap (λ (l : List ℕ). length l) (members_past set w.next 64 w.most none) in
            absurd (omega (arith, same, w.count, ends, before))
        | inr other ↦ more before (omega (arith, other))
      ]
      | inr behind ↦
          let same : length (members set w.next) ≡ length (members set 64) = omega (arith, w.count, ends, behind) in
          let none = members_none set w.next 64 w.most same in
          let empty : rest ≡ 0 = same_from_bits_below 64 rest 0 rest_small (omega arith) (λ i h. no_bit none i h) in
          record {
            next = w.next;
            most = w.most;
            from = rw empty (above_none set w.next (rw (sym empty) w.from));
            count = omega (arith, w.count, behind);
            written =
                let at_end : min (at + 1) end ≡ min at end = omega (arith, behind) in
                let le : min at end ≤ at = omega arith in
                rw (at_end, take-set-le (min at end) pairs at (row + trailing_zeros w64 rest % 64) le) w.written;
            room = search (rules, arith, w.room);
          }
    ]
  where
    after : (n : ℕ) → bit_at rest n ≡ 1 → w.next ≤ n
    after n one =
        elim (cases_lt n w.next) [
          | inl less ↦ absurd (omega (arith, one, w.from.below n less))
          | inr more ↦ more
        ]

    no_bit : ((s : ℕ) → w.next ≤ s → s < 64 → bit_at set s ≡ 0) → (i : ℕ) → i < 64 → bit_at rest i ≡ bit_at 0 i
    no_bit none i h =
        elim (cases_lt i w.next) [
          | inl less ↦ w.from.below i less ∙ sym (bit_at-zero i)
          | inr more ↦ w.from.above i more ∙ none i more h ∙ sym (bit_at-zero i)
        ]

    more : at < end → 0 < rest
        → IsWritten set t old end (at + 1) (slice_set pairs at (row + trailing_zeros w64 rest % 64)) (others rest)
    more before some =
        let n : ℕ = trailing_zeros w64 rest in
        let found = bit_at-trailing_zeros w64 rest some rest_small in
        let least : w.next ≤ n = after n found.1 in
        let set_n : bit_at set n ≡ 1 = sym (w.from.above n least) ∙ found.1 in
        let past : members set w.next ≡ members set n =
        members_past set w.next n least (λ s h k. sym (w.from.above s h) ∙ found.2 s k) in
        let extended : members set (n + 1) ≡ members set w.next ++ n ∷ [] =
        members_more set n set_n ∙ ap (λ (l : List ℕ). l ++ n ∷ []) (sym past) in
        let counted : length (members set (n + 1)) ≡ length (members set w.next) + 1 =
        ap (λ (l : List ℕ). length l) extended ∙ length-append (members set w.next) (n ∷ []) in
        let here : min at end ≡ at = omega (arith, before) in
        let there : min (at + 1) end ≡ at + 1 = omega (arith, before) in
        let pair : row + n % 64 ≡ 64 * t + n = omega (arith, rows, found.0) in
        let first : take (min (at + 1) end) (slice_set pairs at (row + n % 64)) ≡ take at pairs ++ (row + n % 64) ∷ [] =
        rw there (take_more_set pairs at (row + n % 64) (omega (arith, room, w.room))) in
        let prefix : take at pairs ≡ old ++ first_pairs t set w.next = ap (λ k. take k pairs) (sym here) ∙ w.written in
        record {
          next = n + 1;
          most = omega (arith, found.0);
          from = above_next set w.next rest n rest_small w.from least set_n found.2;
          count = omega (arith, counted, w.count, before);
          written =
              first ∙ ap (λ (l : List ℕ). l ++ (row + n % 64) ∷ []) prefix
              ∙ pair_more t n (row + n % 64) (members set w.next) (members set (n + 1)) old extended pair;
          room = search (rules, arith, w.room);
        }

-- the same of what a call gives
pub written_set : (set t : ℕ) (old : List ℕ) (end at : ℕ) (pairs : List ℕ) (rest row : ℕ) (new_pairs : List ℕ) (new_rest : ℕ)
    → IsWritten set t old end at pairs rest → set < 2 ^ 64 → rest < 2 ^ 64 → at < 136
    → end ≡ length old + length (members set 64) → row ≡ 64 * t
    → new_pairs ≡ slice_set pairs at (row + trailing_zeros w64 rest % 64) → new_rest ≡ others rest
    → IsWritten set t old end (at + 1) new_pairs new_rest
written_set set t old end at pairs rest row new_pairs new_rest w small rest_small room ends rows e f =
    rw (e, f) (written_next set t old end at pairs rest row w small rest_small room ends rows)

-- two of them
pub written_two : (set t : ℕ) (old : List ℕ) (end at : ℕ) (pairs : List ℕ) (rest row : ℕ) (mid_pairs : List ℕ) (mid_rest : ℕ)
    (new_pairs : List ℕ) (new_rest : ℕ) → IsWritten set t old end at pairs rest → set < 2 ^ 64 → rest < 2 ^ 64 → mid_rest < 2 ^ 64
    → at + 1 < 136 → end ≡ length old + length (members set 64) → row ≡ 64 * t
    → mid_pairs ≡ slice_set pairs at (row + trailing_zeros w64 rest % 64) → mid_rest ≡ others rest
    → new_pairs ≡ slice_set mid_pairs (at + 1) (row + trailing_zeros w64 mid_rest % 64) → new_rest ≡ others mid_rest
    → IsWritten set t old end (at + 2) new_pairs new_rest
written_two set t old end at pairs rest row mid_pairs mid_rest new_pairs new_rest w small rest_small mid_small room ends rows e f g h =
    let one = written_set set t old end at pairs rest row mid_pairs mid_rest w small rest_small (omega arith) ends rows e f in
    let two = written_set set t old end (at + 1) mid_pairs mid_rest row new_pairs new_rest one small mid_small room ends rows g h in
    let sum : at + 1 + 1 ≡ at + 2 = omega arith in
    subst (λ n. IsWritten set t old end n new_pairs new_rest) sum two

pub written_all : (set t : ℕ) (old : List ℕ) (end at : ℕ) (pairs : List ℕ) (rest : ℕ) → IsWritten set t old end at pairs rest
    → end ≡ length old + length (members set 64) → end ≤ at → take end pairs ≡ old ++ row_pairs t set
unfolding row_pairs
written_all set t old end at pairs rest w ends behind =
    let e : min at end ≡ end = omega (arith, behind) in
    let same : length (members set w.next) ≡ length (members set 64) = omega (arith, w.count, ends, behind) in
    rw (sym e) w.written ∙ ap (λ (l : List ℕ). old ++ map (λ s. 64 * t + s) l) (members_same set w.next 64 w.most same)

none_below : (set : ℕ) → members set 0 ≡ []
unfolding members
none_below set = refl

pub written_start : (set t : ℕ) (old : List ℕ) (end : ℕ) (pairs : List ℕ) → take (length old) pairs ≡ old → length pairs ≡ 136
    → end ≡ length old + length (members set 64) → IsWritten set t old end (length old) pairs set
written_start set t old end pairs starts room ends =
    let here : min (length old) end ≡ length old = omega (arith, ends) in
    record {
      next = 0;
      most = omega arith;
      from = above_all set;
      count = rw (none_below set) (omega (arith, here));
      written = rw (here, none_below set) (starts ∙ sym (append-nil old));
      room = room;
    }

-- as many pairs are kept as are counted
pub view_count : (count : ℕ) (pairs old : List ℕ) → length pairs ≡ 136 → count < 128 → take count pairs ≡ old → length old ≡ count
view_count count pairs old room few e = sym (ap (λ (l : List ℕ). length l) e) ∙ length-take-le count pairs (omega (arith, room, few))

-- the last of them, fewer than eight, moved to the front
pub moved : (xs lanes : List ℕ) (count from : ℕ) (old : List ℕ) → length xs ≡ 136 → count < 128 → take count xs ≡ old → from ≤ count
    → count < from + 8 → lanes ≡ take 8 (drop from xs) → take (count - from) (put_chunk 0 xs lanes) ≡ drop from old
moved xs lanes count from old room few e le left eight =
    let many : length lanes ≡ 8 =
    ap (λ (l : List ℕ). length l) eight ∙ length-take-le 8 (drop from xs) (rw length-drop (omega (arith, room, few, le))) in
    let whole = put_chunk_is 0 xs lanes (omega (arith, many, room)) in
    let parts : from + (count - from) ≡ count = omega (arith, le) in
    ap (take (count - from)) whole
    ∙ take-append-le (count - from) lanes (drop (length lanes) xs) (omega (arith, many, left))
    ∙ ap (take (count - from)) eight
    ∙ take-take (count - from) 8 (drop from xs) (omega (arith, left))
    ∙ sym (drop-take from (count - from) xs) ∙ ap (λ n. drop from (take n xs)) parts ∙ ap (drop from) e
