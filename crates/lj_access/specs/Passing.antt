-- Tickets that are passed over: each enters and leaves at once, and the state is home again, unchanged.
use Rattle.std.specs.Prelude.{◌≡◌, ℕ, zero, suc, ◌+◌, ◌-◌, List, [], ◌∷◌, IsSomeAnd, slice_get, unwrap_or}
use Rattle.std.specs.Option.{option_map}
use Rattle.lj_access.specs.UserRows.{UserRow, Ticket, CanEnter, with_row_changed}

-- one more ticket has left
abbrev pub passed_over : UserRow → UserRow
passed_over row = record row { past = row.past + 1 }

-- `count` more tickets of a user have left, and nothing else has changed
abbrev pub passed : ℕ → UserRow → UserRow
passed count row = record row { past = row.past + count }

-- zero or more tickets of a user are passed over
abbrev pub PassesOver : ℕ → List UserRow → List UserRow → Type 0
PassesOver user old new = (count : ℕ) × (new ≡ with_row_changed user (passed count) old)

-- the ticket is one of this user, and may enter now
pub record IsNextTicket (rows : List UserRow) (user : ℕ) (ticket : Ticket) : Type 0 where
  pub own : ticket.user ≡ user
  pub enters : IsSomeAnd (slice_get rows ticket.user) (CanEnter ticket.number)

-- `count` tickets of a user, numbered from `first` on
abbrev pub tickets_from : ℕ → ℕ → ℕ → List Ticket
tickets_from user first zero = []
tickets_from user first (suc count) = record { user = user; number = first + count } ∷ tickets_from user first count

-- the number of tickets of a user that have left
abbrev pub past_of : List UserRow → ℕ → ℕ
past_of rows user = unwrap_or (option_map (λ row. row.past) (slice_get rows user)) 0

-- the tickets of a user that have left in the new directory and not in the old one
abbrev pub tickets_passed : ℕ → List UserRow → List UserRow → List Ticket
tickets_passed user old new = tickets_from user (past_of old user) (past_of new user - past_of old user)
