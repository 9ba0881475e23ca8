-- Who is granted no ticket, what becomes of a ticket that waits, and of a state that comes home.
use Rattle.std.specs.Prelude.{◌≡◌, ◌<◌, ◌⊎◌, ℕ, List, Some, slice_get, IsSomeAnd}
use Rattle.lj_session.specs.UserState.{Reached, UserState}
use Rattle.lj_access.specs.UserRows.{CanEnter, HasEntered, Ticket, UserRow, home_of, tickets_out_of, with_home, with_row_changed, without_home}
use Rattle.lj_access.specs.declared.user.User.{User}
use Rattle.lj_program.specs.Homes.{EntersLatest}
use Rattle.lj_program.specs.declared.serve.shared_directory.TheConstants.{MAX_WAITING}
use Rattle.lj_program.specs.declared.serve.shared_directory.EntryOutcome.{EntryOutcome}
use Rattle.lj_program.specs.declared.serve.shared_directory.EntryOutcome.TheVariants.{Entered, Closed, Waits}

-- the user with this name and this token has as many connections that wait as may, and one that is in
abbrev pub IsCrowded : List UserRow → List ℕ → List ℕ → Type 0
IsCrowded rows name token = IsSomeAnd (tickets_out_of rows name token) (λ out. MAX_WAITING < out)

-- The outcome is that of this ticket. A state lent to it is one that commands reach, and the latest in the history of its user
-- among these users.
abbrev pub IsOutcome : {J : Type 0} → List User → Ticket → EntryOutcome J → Type 0
IsOutcome users ticket (Entered lent seen) = (lent.ticket ≡ ticket) × Reached lent.state × EntersLatest users ticket lent.state seen
IsOutcome users ticket (Closed seen) = Unit {0}
IsOutcome users ticket (Waits waiting) = waiting.ticket ≡ ticket

-- no ticket enters any more
abbrev pub IsClosing : {J : Type 0} → EntryOutcome J → Type 0
IsClosing (Entered lent seen) = ⊥
IsClosing (Closed seen) = Unit {0}
IsClosing (Waits waiting) = ⊥

-- a ticket that enters has the state that was at home; one that waits could not enter, and nothing has changed
abbrev pub HasMoved : {J : Type 0} → Ticket → EntryOutcome J → List UserRow → List UserRow → Type 0
HasMoved ticket (Entered lent seen) old new =
    (home_of old ticket.user ≡ Some lent.state) × (new ≡ with_row_changed ticket.user without_home old)
HasMoved ticket (Closed seen) old new = new ≡ old
HasMoved ticket (Waits waiting) old new =
    (new ≡ old) × (IsSomeAnd (slice_get old ticket.user) (CanEnter ticket.number) → ⊥)

-- a state comes home from the ticket that it was lent to; another ticket changes nothing
abbrev pub ComesHome : Ticket → UserState → List UserRow → List UserRow → Type 0
ComesHome ticket state old new =
    (new ≡ with_row_changed ticket.user (with_home state) old)
    ⊎ ((new ≡ old) × (IsSomeAnd (slice_get old ticket.user) (HasEntered ticket.number) → ⊥))
