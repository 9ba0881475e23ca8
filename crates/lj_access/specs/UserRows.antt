-- The directory as a list of rows, numbered from 0: each user's name, token and tickets, and the state while it is not lent.
use Rattle.std.specs.Prelude.{◌≡◌, ℕ, ◌+◌, ◌-◌, ◌<◌, Bool, ◌&&◌, List, slice_get, slice_set, position, Option, Some, None, IsSome}
use Rattle.std.specs.Option.{option_map, option_and_then}
use Rattle.std.specs.Str.{bytes_eq}
use Rattle.lj_session.specs.UserState.{UserState, empty_state}
use Rattle.lj_access.specs.declared.user.User.{User}
use Rattle.lj_access.specs.declared.user_row.TheConstants.{MAX_TICKETS}

-- A user: name, token, the number of tickets granted and of those that have left, and the state while it is at home. The tickets
-- of a user are numbered from 0 in the order in which they were granted.
pub record UserRow : Type 0 where
  pub name : List ℕ
  pub token : List ℕ
  pub granted : ℕ
  pub past : ℕ
  pub home : Option UserState

-- a ticket: the number of its user's row, and its number among this user's tickets
pub record Ticket : Type 0 where
  pub user : ℕ
  pub number : ℕ

-- a user without tickets, whose state has no sessions
abbrev pub first_row : User → UserRow
first_row user = record { name = user.name; token = user.token; granted = 0; past = 0; home = Some (empty_state user.quota) }

-- the row is that of a user with this name and this token
abbrev pub has_credentials : List ℕ → List ℕ → UserRow → Bool
has_credentials name token row = bytes_eq row.name name && bytes_eq row.token token

-- the number of the user with this name and this token, if there is one
abbrev pub user_with : List UserRow → List ℕ → List ℕ → Option ℕ
user_with rows name token = position (has_credentials name token) rows

-- the number of the user's tickets that have not left
abbrev pub tickets_out : UserRow → ℕ
tickets_out row = row.granted - row.past

-- the number of tickets that have not left of the user with this name and this token, if there is one
abbrev pub tickets_out_of : List UserRow → List ℕ → List ℕ → Option ℕ
tickets_out_of rows name token = option_map tickets_out (option_and_then (slice_get rows) (user_with rows name token))

-- another ticket can be granted: not all 2^32 of the user are
abbrev pub HasTicketLeft : UserRow → Type 0
HasTicketLeft row = row.granted < MAX_TICKETS

-- the number of the ticket that the user is granted next
abbrev pub next_number : List UserRow → ℕ → Option ℕ
next_number rows user = option_map (λ row. row.granted) (slice_get rows user)

-- the state of a user, while it is at home
abbrev pub home_of : List UserRow → ℕ → Option UserState
home_of rows user = option_and_then (λ row. row.home) (slice_get rows user)

-- the ticket of this number is the first granted one that has not left
pub record IsFirstTicket (number : ℕ) (row : UserRow) : Type 0 where
  pub granted : number < row.granted
  pub past : row.past ≡ number

-- the ticket may enter: it is the user's first one that has not left, and the state is at home
pub record CanEnter (number : ℕ) (row : UserRow) : Type 0 where
  pub first : IsFirstTicket number row
  pub home : IsSome row.home

-- the ticket has entered and has not left: it is the user's first one that has not left, and the state is not at home
pub record HasEntered (number : ℕ) (row : UserRow) : Type 0 where
  pub first : IsFirstTicket number row
  pub lent : row.home ≡ None

-- one more ticket is granted
abbrev pub with_ticket : UserRow → UserRow
with_ticket row = record row { granted = row.granted + 1 }

-- the state is not at home
abbrev pub without_home : UserRow → UserRow
without_home row = record row { home = None }

-- one more ticket has left, and this state is at home
abbrev pub with_home : UserState → UserRow → UserRow
with_home state row = record row { past = row.past + 1; home = Some state }

abbrev pub with_row_changed_to : ℕ → (UserRow → UserRow) → Option UserRow → List UserRow → List UserRow
with_row_changed_to user change None rows = rows
with_row_changed_to user change (Some row) rows = slice_set rows user (change row)

-- with the row of a user changed, and every other unchanged
abbrev pub with_row_changed : ℕ → (UserRow → UserRow) → List UserRow → List UserRow
with_row_changed user change rows = with_row_changed_to user change (slice_get rows user) rows
