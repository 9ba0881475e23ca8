-- The rows of users where one changes, and connections with their rows.
use Rattle.std.proofs.Common.{◌≡◌, ◌≢◌, ℕ, ◌<◌, List, length, set, get_or, slice_get, Option, Some, None, ap, ◌∙◌, sym, subst, inl, inr, length-set, get_or-set_same, get_or-set_other}
use Rattle.std.proofs.lemmas.Bool.{cases_eq}
use Rattle.lj_access.specs.UserRows.{UserRow, HasEntered, with_row_changed}
use Rattle.lj_world.specs.Machine.{Connection, Worker}
use Rattle.lj_world.specs.KnownConnections.{IsRowOf, HasRow, KeepsTicket}
use Rattle.lj_world.specs.Machines.{IsMachine}
use Rattle.lj_world.proofs.RowLemmas.{row_changed, row_other}

-- a connection whose row changes has the changed row, where that fits
pub has_changed : (rows : List UserRow) (user : ℕ) (change : UserRow → UserRow) (connection : Connection) → HasRow rows connection
    → ((row : UserRow) → slice_get rows user ≡ Some row → connection.user ≡ user → IsRowOf connection row → IsRowOf connection (change row))
    → HasRow (with_row_changed user change rows) connection
has_changed rows user change connection has fits =
    elim (cases_eq connection.user user) [
      | inl same ↦
          let there : slice_get rows user ≡ Some has.0 = ap (slice_get rows) (sym same) ∙ has.1 in
          (change has.0, ap (slice_get (with_row_changed user change rows)) same ∙ row_changed rows user change has.0 there, fits has.0 there same has.2)
      | inr other ↦ (has.0, row_other rows user change connection.user (λ e. other (sym e)) ∙ has.1, has.2)
    ]

-- a connection that has a row has it too where it stays
pub stays_has : (rows : List UserRow) (old new : Connection) → KeepsTicket old new → HasRow rows old → HasRow rows new
stays_has rows old new stays has = (
  has.0,
  ap (slice_get rows) stays.user ∙ has.1,
  record {
    granted = subst (λ n. n < has.0.granted) (sym stays.number) has.2.granted;
    entered = λ i. subst (λ n. HasEntered n has.0) (sym stays.number) (has.2.entered (stays.was_inside i));
  },
)

-- a slot is written with a connection
pub put_connection : (rows after : List UserRow) (connections : List (Option Connection)) (workers : List (Option Worker)) (c : ℕ) (connection : Connection)
    → IsMachine rows connections workers → c < length connections → HasRow after connection
    → ((d : ℕ) (other : Connection) → d ≢ c → get_or connections d None ≡ Some other → HasRow after other)
    → ((d : ℕ) (other : Connection) → d ≢ c → get_or connections d None ≡ Some other → other.user ≡ connection.user → other.number ≢ connection.number)
    → IsMachine after (set connections c (Some connection)) workers
put_connection rows after connections workers c connection m within has others unlike = record {
  connection_slots = length-set connections c (Some connection) ∙ m.connection_slots;
  worker_slots = m.worker_slots;
  known = λ d other e. known d other e;
  apart = λ d e a b x y user number. apart d e a b x y user number;
}
  where
    at_here : get_or (set connections c (Some connection)) c None ≡ Some connection
    at_here = get_or-set_same connections c (Some connection) None within

    at_other : (d : ℕ) → d ≢ c → get_or (set connections c (Some connection)) d None ≡ get_or connections d None
    at_other d other = get_or-set_other connections c d (Some connection) None other

    is_connection : (d : ℕ) (a : Connection) → d ≡ c → get_or (set connections c (Some connection)) d None ≡ Some a → a ≡ connection
    is_connection d a same e = let k = ap (λ i. get_or (set connections c (Some connection)) i None) same in cc at_here

    known : (d : ℕ) (other : Connection) → get_or (set connections c (Some connection)) d None ≡ Some other → HasRow after other
    known d other e = elim (cases_eq d c) [
      | inl same ↦ subst (HasRow after) (sym (is_connection d other same e)) has
      | inr apart ↦ others d other apart (sym (at_other d apart) ∙ e)
    ]

    apart : (d e : ℕ) (a b : Connection) → get_or (set connections c (Some connection)) d None ≡ Some a → get_or (set connections c (Some connection)) e None ≡ Some b
        → a.user ≡ b.user → a.number ≡ b.number → d ≡ e
    apart d e a b x y user number = elim (cases_eq d c) [
      | inl d_here ↦ elim (cases_eq e c) [
        | inl e_here ↦ d_here ∙ sym e_here
        | inr e_apart ↦
            let is : a ≡ connection = is_connection d a d_here x in
            absurd (unlike e b e_apart (sym (at_other e e_apart) ∙ y) (sym user ∙ ap (λ (t : Connection). t.user) is)
            (sym number ∙ ap (λ (t : Connection). t.number) is))
      ]
      | inr d_apart ↦ elim (cases_eq e c) [
        | inl e_here ↦
            let is : b ≡ connection = is_connection e b e_here y in
            absurd (unlike d a d_apart (sym (at_other d d_apart) ∙ x) (user ∙ ap (λ (t : Connection). t.user) is)
            (number ∙ ap (λ (t : Connection). t.number) is))
        | inr e_apart ↦ m.apart d e a b (sym (at_other d d_apart) ∙ x) (sym (at_other e e_apart) ∙ y) user number
      ]
    ]
