-- The directory of a server under its lock: each state at home is the latest in the history of its user.
use Rattle.std.specs.Prelude.{◌≡◌, ℕ, Bool, List, ◌∷◌, [], ◌++◌, length, slice_get, slice_set, Option, Some, IsSomeAnd}
use Rattle.std.specs.Option.{option_map}
use Rattle.lj_session.specs.UserState.{UserState, empty_state}
use Rattle.lj_access.specs.declared.user.User.{User}
use Rattle.lj_access.specs.UserRows.{Ticket, UserRow}
use Rattle.lj_program.specs.Histories.{UserHistory, HasNoted, latest_state}

-- what the lock guards: the rows of the users, the tickets that were given up, whether no ticket enters any more, and the history
-- of each user, by number
pub record GuardedDirectory : Type 0 where
  pub directory : List UserRow
  pub given_up : List Ticket
  pub closed : Bool
  pub histories : List (List UserState)

-- the state with which a user begins: one without sessions, under the user's quota
abbrev pub first_state : List User → ℕ → Option UserState
first_state users user = option_map (λ user. empty_state user.quota) (slice_get users user)

-- each state at home is the latest in the history of its user
pub record HomesAreLatest (users : List User) (histories : List (List UserState)) (rows : List UserRow) : Type 0 where
  pub one_each : length histories ≡ length rows
  pub latest : (user : ℕ) (row : UserRow) (states : List UserState) (state : UserState) → slice_get rows user ≡ Some row
      → slice_get histories user ≡ Some states → row.home ≡ Some state → latest_state (first_state users user) states ≡ Some state

-- The state that enters with a ticket is the latest in the history of the ticket's user, of which this was seen.
pub record EntersLatest (users : List User) (ticket : Ticket) (state : UserState) (seen : UserHistory) : Type 0 where
  pub user : seen.user ≡ ticket.user
  pub latest : latest_state (first_state users ticket.user) seen.states ≡ Some state

-- The state that comes home from a ticket is the last one in the history of the ticket's user, of which this was seen.
pub record LeavesLast (ticket : Ticket) (state : UserState) (seen : UserHistory) : Type 0 where
  pub user : seen.user ≡ ticket.user
  pub before : List UserState
  pub last : seen.states ≡ before ++ state ∷ []

-- the history of the ticket's user is what was seen of it, with the state noted as the last one, and no other history has changed
pub record NotesLast (ticket : Ticket) (state : UserState) (old new : List (List UserState)) (seen : UserHistory) : Type 0 where
  pub user : seen.user ≡ ticket.user
  pub noted : IsSomeAnd (slice_get old ticket.user) (λ before. HasNoted before state seen.states)
  pub others : new ≡ slice_set old ticket.user seen.states
