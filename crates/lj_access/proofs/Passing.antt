-- The row of a user, changed twice, and the tickets that are kept when some are passed over.
use Rattle.std.proofs.Common.{◌≡◌, ℕ, zero, suc, ◌+◌, ◌-◌, ◌<◌, ◌≤◌, List, [], ◌∷◌, ◌++◌, length, get_or, slice_get, slice_set}
use Rattle.std.proofs.Common.{Option, Some, None, IsSomeAnd, refl, sym, ap, ◌∙◌, subst, arith}
use Rattle.std.specs.Prelude.{Result, Ok, Err, true, unwrap_or}
use Rattle.std.specs.Result.{IsOk, OnOk, is_err}
use Rattle.std.specs.List.{remove}
use Rattle.std.specs.List.Sorted.{IsPermutation}
use Rattle.std.specs.Option.{option_and_then, option_map}
use Rattle.std.proofs.lemmas.List.{append-nil}
use Rattle.std.proofs.lemmas.List.Sorted.{IsPermutation-append_left, IsPermutation-middle, IsPermutation-refl}
use Rattle.std.proofs.lemmas.List.Sorted.{IsPermutation-remove, IsPermutation-sym, IsPermutation-trans}
use Rattle.std.proofs.lemmas.Option.{get_or_from_slice_get, slice_get_read, slice_get_within}
use Rattle.lj_session.specs.UserState.{UserState}
use Rattle.lj_access.specs.UserRows.{UserRow, Ticket, CanEnter, HasEntered, home_of, with_home, with_row_changed, with_row_changed_to, without_home}
use Rattle.lj_access.proofs.RowLemmas.{place_within}
use Rattle.lj_access.specs.Passing.{IsNextTicket, PassesOver, passed, passed_over, past_of, tickets_from, tickets_passed}

set-set : (rows : List UserRow) (i : ℕ) (a b : UserRow) → slice_set (slice_set rows i a) i b ≡ slice_set rows i b
set-set [] i a b = refl
set-set (row ∷ rows) zero a b = refl
set-set (row ∷ rows) (suc i) a b = ap (λ others. row ∷ others) (set-set rows i a b)

get-set : (rows : List UserRow) (i : ℕ) (a : UserRow) → i < length rows → slice_get (slice_set rows i a) i ≡ Some a
get-set [] i a within = absurd (omega (arith, within))
get-set (row ∷ rows) zero a within = refl
get-set (row ∷ rows) (suc i) a within = get-set rows i a (omega (arith, within))

set-same : (rows : List UserRow) (i : ℕ) (a : UserRow) → slice_get rows i ≡ Some a → slice_set rows i a ≡ rows
set-same [] i a found = refl
set-same (row ∷ rows) zero a found = cc
set-same (row ∷ rows) (suc i) a found = ap (λ others. row ∷ others) (set-same rows i a found)

-- the row that is there is changed
changed_at : (rows : List UserRow) (user : ℕ) (row : UserRow) (f : UserRow → UserRow) → slice_get rows user ≡ Some row
    → with_row_changed user f rows ≡ slice_set rows user (f row)
changed_at rows user row f found = ap (λ o. with_row_changed_to user f o rows) found

-- no row is changed
changed_nowhere : (rows : List UserRow) (user : ℕ) (f : UserRow → UserRow) → slice_get rows user ≡ None → with_row_changed user f rows ≡ rows
changed_nowhere rows user f missing = ap (λ o. with_row_changed_to user f o rows) missing

twice_by : (o : Option UserRow) (rows : List UserRow) (user : ℕ) (f g h : UserRow → UserRow)
    → ((row : UserRow) → slice_get rows user ≡ Some row → g (f row) ≡ h row) → slice_get rows user ≡ o
    → with_row_changed user g (with_row_changed user f rows) ≡ with_row_changed user h rows
twice_by None rows user f g h same missing =
    ap (with_row_changed user g) (changed_nowhere rows user f missing) ∙ changed_nowhere rows user g missing
    ∙ sym (changed_nowhere rows user h missing)
twice_by (Some row) rows user f g h same found =
    ap (with_row_changed user g) (changed_at rows user row f found)
    ∙ changed_at (slice_set rows user (f row)) user (f row) g (get-set rows user (f row) (slice_get_within rows user row found))
    ∙ set-set rows user (f row) (g (f row)) ∙ ap (slice_set rows user) (same row found) ∙ sym (changed_at rows user row h found)

-- a row changed twice is changed once
pub changed_twice : (rows : List UserRow) (user : ℕ) (f g h : UserRow → UserRow)
    → ((row : UserRow) → slice_get rows user ≡ Some row → g (f row) ≡ h row)
    → with_row_changed user g (with_row_changed user f rows) ≡ with_row_changed user h rows
changed_twice rows user f g h same = twice_by (slice_get rows user) rows user f g h same refl

none_by : (o : Option UserRow) (rows : List UserRow) (user : ℕ) → slice_get rows user ≡ o → with_row_changed user (passed 0) rows ≡ rows
none_by None rows user missing = changed_nowhere rows user (passed 0) missing
none_by (Some row) rows user found =
    changed_at rows user row (passed 0) found
    ∙ ap (λ (n : ℕ). slice_set rows user (record row { past = n })) (let s : row.past + 0 ≡ row.past = omega arith in s)
    ∙ set-same rows user row found

-- no ticket is passed over yet
pub passes_none : (rows : List UserRow) (user : ℕ) → PassesOver user rows rows
passes_none rows user = (0, sym (none_by (slice_get rows user) rows user refl))

-- one ticket more is passed over
pub passes_more : (user : ℕ) (old between new : List UserRow) → PassesOver user old between
    → new ≡ with_row_changed user passed_over between → PassesOver user old new
passes_more user old between new before more = (
  before.0 + 1,
  more ∙ ap (with_row_changed user passed_over) before.1
      ∙ changed_twice old user (passed before.0) passed_over (passed (before.0 + 1))
      (λ row found. ap (λ (n : ℕ). record row { past = n })
      (let s : row.past + before.0 + 1 ≡ row.past + (before.0 + 1) = omega arith in s)),
)

entered_by : (o : Option UserRow) (rows : List UserRow) (user number : ℕ) → slice_get rows user ≡ o → IsSomeAnd o (CanEnter number)
    → IsSomeAnd (slice_get (with_row_changed user without_home rows) user) (HasEntered number)
entered_by None rows user number missing can = absurd can
entered_by (Some row) rows user number found can =
    let now = ap (λ others. slice_get others user) (changed_at rows user row without_home found)
    ∙ get-set rows user (without_home row) (slice_get_within rows user row found) in
    subst (λ o. IsSomeAnd o (HasEntered number)) (sym now) (record { first = record { granted = can.first.granted; past = can.first.past }; lent = refl })

-- a ticket that may enter has entered once the state is lent
pub entered_next : (rows : List UserRow) (user number : ℕ) → IsSomeAnd (slice_get rows user) (CanEnter number)
    → IsSomeAnd (slice_get (with_row_changed user without_home rows) user) (HasEntered number)
entered_next rows user number can = entered_by (slice_get rows user) rows user number refl can

-- a state that is lent and comes home as it was
pub passed_once : (rows : List UserRow) (user : ℕ) (state : UserState) → home_of rows user ≡ Some state
    → with_row_changed user (with_home state) (with_row_changed user without_home rows) ≡ with_row_changed user passed_over rows
passed_once rows user state home =
    changed_twice rows user without_home (with_home state) passed_over
    (λ row found.
    let own : row.home ≡ Some state = sym (ap (option_and_then (λ (r : UserRow). r.home)) found) ∙ home in
    ap (λ (o : Option UserState). record row { past = row.past + 1; home = o }) (sym own))

-- a result that is Ok is no error
pub ok_is_no_error : {T E : Type 0} (r : Result T E) → IsOk r → is_err r ≡ true → ⊥
ok_is_no_error (Ok x) ok err = cc
ok_is_no_error (Err e) ok err = cc

-- what holds at Ok holds of a result that is Ok
pub ok_holds : {T E : Type 0} (r : Result T E) (P : Type 0) → IsOk r → OnOk r P → P
ok_holds (Ok x) P ok on = on
ok_holds (Err e) P ok on = cc

-- the row that is found after a change is the changed one
row_changed_by : (o : Option UserRow) (rows : List UserRow) (user : ℕ) (f : UserRow → UserRow) → slice_get rows user ≡ o
    → slice_get (with_row_changed user f rows) user ≡ option_map f o
row_changed_by None rows user f missing = ap (λ others. slice_get others user) (changed_nowhere rows user f missing) ∙ missing
row_changed_by (Some row) rows user f found =
    ap (λ others. slice_get others user) (changed_at rows user row f found)
    ∙ get-set rows user (f row) (slice_get_within rows user row found)

-- how many tickets of a row have left, 0 without a row
past_in : Option UserRow → ℕ
past_in o = unwrap_or (option_map (λ (r : UserRow). r.past) o) 0

past_grows : (o : Option UserRow) (count : ℕ) → past_in o ≤ past_in (option_map (passed count) o)
unfolding past_in
past_grows None count = omega arith
past_grows (Some row) count = omega arith

-- no ticket comes back
past_not_less : (user : ℕ) (old new : List UserRow) → PassesOver user old new → past_of old user ≤ past_of new user
unfolding past_in
past_not_less user old new over =
    let now : slice_get new user ≡ option_map (passed over.0) (slice_get old user) =
    ap (λ others. slice_get others user) over.1 ∙ row_changed_by (slice_get old user) old user (passed over.0) refl in
    subst (λ o. past_in (slice_get old user) ≤ past_in o) (sym now) (past_grows (slice_get old user) over.0)

entering_by : (o : Option UserRow) (number : ℕ) → IsSomeAnd o (CanEnter number)
    → (past_in o ≡ number) × (past_in (option_map passed_over o) ≡ number + 1)
unfolding past_in
entering_by None number can = absurd can
entering_by (Some row) number can = (can.first.past, ap (λ n. n + 1) can.first.past)

-- a ticket that may enter is numbered by how many have left, and is one of them when it is passed over
entering : (rows new : List UserRow) (user number : ℕ) → IsSomeAnd (slice_get rows user) (CanEnter number)
    → new ≡ with_row_changed user passed_over rows → (past_of rows user ≡ number) × (past_of new user ≡ number + 1)
unfolding past_in
entering rows new user number can over =
    let two = entering_by (slice_get rows user) number can in
    let now : slice_get new user ≡ option_map passed_over (slice_get rows user) =
    ap (λ others. slice_get others user) over ∙ row_changed_by (slice_get rows user) rows user passed_over refl in
    (two.0, ap past_in now ∙ two.1)

-- one ticket more after those between two numbers
ticket_more : (user first past : ℕ) → first ≤ past
    → tickets_from user first (past + 1 - first) ≡ record { user = user; number = past } ∷ tickets_from user first (past - first)
ticket_more user first past le =
    let more : past + 1 - first ≡ suc (past - first) = omega arith in
    let last : first + (past - first) ≡ past = omega arith in
    ap (tickets_from user first) more
    ∙ ap (λ (n : ℕ). record { user = user; number = n } ∷ tickets_from user first (past - first)) last

-- a ticket is its user and its number
same_ticket : (ticket : Ticket) (user number : ℕ) → ticket.user ≡ user → ticket.number ≡ number
    → record { user = user; number = number } ≡ ticket
same_ticket ticket user number e f =
    ap (λ (n : ℕ). record { user = n; number = number }) (sym e) ∙ ap (λ (n : ℕ). record { user = ticket.user; number = n }) (sym f)

-- tickets are kept, but for those of a user that are passed over
pub record Passes (user : ℕ) (old new : List UserRow) (held kept : List Ticket) : Type 0 where
  pub over : PassesOver user old new
  pub tickets : IsPermutation held (kept ++ tickets_passed user old new)

-- none is passed over yet
pub keeps_all : (user : ℕ) (rows : List UserRow) (held : List Ticket) → Passes user rows rows held held
keeps_all user rows held = record {
  over = passes_none rows user;
  tickets =
      let none : past_of rows user - past_of rows user ≡ 0 = omega arith in
      let same : held ≡ held ++ tickets_passed user rows rows =
      sym (append-nil held) ∙ ap (λ n. held ++ tickets_from user (past_of rows user) n) (sym none) in
      subst (IsPermutation held) same (IsPermutation-refl held);
}

-- a ticket that is next is there in the list, also where the list is named otherwise
pub next_within : (kept items : List Ticket) (at : ℕ) (rows : List UserRow) (user : ℕ) → items ≡ kept
    → IsSomeAnd (slice_get kept at) (IsNextTicket rows user) → at < length items
next_within kept items at rows user same next =
    place_within items at (IsNextTicket rows user) (subst (λ others. IsSomeAnd (slice_get others at) (IsNextTicket rows user)) (sym same) next)

-- the ticket that is read at a place where one is next is that one
pub read_next : (kept items : List Ticket) (at : ℕ) (rows : List UserRow) (user : ℕ) (ticket : Ticket) → items ≡ kept
    → IsSomeAnd (slice_get kept at) (IsNextTicket rows user) → ticket ≡ get_or items at ticket
    → (slice_get kept at ≡ Some ticket) × IsNextTicket rows user ticket
read_next kept items at rows user ticket same next read =
    let within = next_within kept items at rows user same next in
    let found : slice_get kept at ≡ Some ticket =
    ap (λ others. slice_get others at) (sym same) ∙ slice_get_read items (length items) at ticket refl within read in
    (found, subst (λ o. IsSomeAnd o (IsNextTicket rows user)) found next)

taken_out : (held kept rest : List Ticket) (at : ℕ) (ticket : Ticket) → at < length kept → ticket ≡ get_or kept at ticket
    → IsPermutation held (kept ++ rest) → IsPermutation held (remove kept at ++ ticket ∷ rest)
taken_out held kept rest at ticket within read before =
    let left = remove kept at in
    let front = IsPermutation-append_left rest kept (ticket ∷ left) (IsPermutation-remove kept at ticket within read) in
    let moved = IsPermutation-sym (left ++ ticket ∷ rest) (ticket ∷ (left ++ rest)) (IsPermutation-middle left ticket rest) in
    IsPermutation-trans held (kept ++ rest) (left ++ ticket ∷ rest) before
    (IsPermutation-trans (kept ++ rest) (ticket ∷ (left ++ rest)) (left ++ ticket ∷ rest) front moved)

-- one ticket more is taken out and passed over
pub keeps_less : (user : ℕ) (old between new : List UserRow) (held kept : List Ticket) (at : ℕ) (ticket : Ticket)
    → Passes user old between held kept → slice_get kept at ≡ Some ticket → IsNextTicket between user ticket
    → new ≡ with_row_changed user passed_over between → Passes user old new held (remove kept at)
keeps_less user old between new held kept at ticket before found next over =
    let can : IsSomeAnd (slice_get between user) (CanEnter ticket.number) =
    subst (λ (n : ℕ). IsSomeAnd (slice_get between n) (CanEnter ticket.number)) next.own next.enters in
    let two = entering between new user ticket.number can over in
    let first = past_of old user in
    let rest = tickets_passed user old between in
    let le : first ≤ past_of between user = past_not_less user old between before.over in
    let more : tickets_passed user old new ≡ ticket ∷ rest =
    ap (λ n. tickets_from user first (n - first)) (two.1 ∙ ap (λ n. n + 1) (sym two.0))
    ∙ ticket_more user first (past_of between user) le
    ∙ ap (λ t. t ∷ rest) (same_ticket ticket user (past_of between user) next.own (sym two.0)) in
    let within = slice_get_within kept at ticket found in
    let read = sym (get_or_from_slice_get kept at ticket ticket found) in
    record {
      over = passes_more user old between new before.over over;
      tickets =
          subst (λ others. IsPermutation held (remove kept at ++ others)) (sym more)
          (taken_out held kept rest at ticket within read before.tickets);
    }
